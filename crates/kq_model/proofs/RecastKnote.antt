-- What is done to one knote commutes with a change of how what was heard is kept.
use Rattle.std.proofs.Common.{◌≡◌, Bool, true, false, cond, not, List, [], ◌∷◌, map, filter, Option, Some, None, option_and_then, refl, sym, ap, ◌∙◌}
use Rattle.std.specs.Option.{option_map}
use Rattle.kq_model.specs.declared.change.Change.{Change}
use Rattle.kq_model.specs.declared.filter.Filter.{Filter}
use Rattle.kq_model.specs.declared.filter.Filter.TheVariants.{Read, Write, Vnode, Proc, Signal, Timer, User, Aio, Lio, Fs, Procdesc, Sendfile, Empty}
use Rattle.kq_model.specs.declared.key.Key.{Key}
use Rattle.kq_model.specs.declared.object.View.{View}
use Rattle.kq_model.specs.Bits.{asks, add}
use Rattle.kq_model.specs.Caller.{Caller}
use Rattle.kq_model.specs.ChangedKnote.{has_come, timing_in, fresh, started, begun, replaced, restarted, changed, switched, activated, attended, made, modified}
use Rattle.kq_model.specs.Hearing.{Hearing, Expired}
use Rattle.kq_model.specs.Knote.{Knote, key_eq, find_knote, with_knote, without_knote}
use Rattle.kq_model.specs.Look.{Seen, notes_seen, process_seen, status_of, count_seen, mark_of, look_user, look_by, look, notice_or}
use Rattle.kq_model.specs.Recast.{IsHearingMap, recast}
use Rattle.kq_model.specs.Views.{Views}

-- a function of a choice is a choice of its values
pub cond-map : {A B : Type 0} (f : A → B) (b : Bool) (x y : A) → f (cond b x y) ≡ cond b (f x) (f y)
cond-map f true x y = refl
cond-map f false x y = refl

module _ {S T : Type 0} {h : Hearing S} {g : Hearing T} {f : Filter → S → T} (is : IsHearingMap h g f) where
  abbrev re : Knote h → Knote g
  re k = recast g f k

  -- ---- lists of knotes

  pub find_knote-recast : (key : Key) (ks : List (Knote h)) → find_knote key (map re ks) ≡ option_map re (find_knote key ks)
  unfolding find_knote
  find_knote-recast key [] = refl
  find_knote-recast key (k ∷ ks) =
      ap (λ rest. cond (key_eq key k.key) (Some (re k)) rest) (find_knote-recast key ks)
      ∙ sym (cond-map (option_map re) (key_eq key k.key) (Some k) (find_knote key ks))

  pub with_knote-recast : (k : Knote h) (ks : List (Knote h)) → with_knote (re k) (map re ks) ≡ map re (with_knote k ks)
  with_knote-recast k [] = refl
  with_knote-recast k (x ∷ ks) =
      ap (λ rest. cond (key_eq k.key x.key) (re k) (re x) ∷ rest) (with_knote-recast k ks)
      ∙ ap (λ first. first ∷ map re (with_knote k ks)) (sym (cond-map re (key_eq k.key x.key) k x))

  -- a test of the key alone
  pub filter-recast : (p : Key → Bool) (ks : List (Knote h)) → filter (λ (k : Knote g). p k.key) (map re ks) ≡ map re (filter (λ (k : Knote h). p k.key) ks)
  filter-recast p [] = refl
  filter-recast p (k ∷ ks) =
      ap (λ rest. cond (p k.key) (re k ∷ rest) rest) (filter-recast p ks)
      ∙ sym (cond-map (map re) (p k.key) (k ∷ filter (λ (x : Knote h). p x.key) ks) (filter (λ (x : Knote h). p x.key) ks))

  pub without_knote-recast : (key : Key) (ks : List (Knote h)) → without_knote key (map re ks) ≡ map re (without_knote key ks)
  without_knote-recast key ks = filter-recast (λ other. not (key_eq key other)) ks

  -- ---- the look

  look_by-recast : (filter : Filter) (view : Option View) (k : Knote h) → k.key.filter ≡ filter → look_by filter view (re k) ≡ look_by filter view k
  unfolding look_by look_user mark_of
  look_by-recast Vnode view k same = ap notes_seen (is.notes k.key.filter k.seen)
  look_by-recast Proc view k same = ap (λ notes. process_seen notes (status_of view)) (is.notes k.key.filter k.seen)
  look_by-recast Signal view k same = ap count_seen (ap (λ filter. g.count (f filter k.seen)) same ∙ is.deliveries k.seen)
  look_by-recast Timer view k same = ap count_seen (ap (λ filter. g.count (f filter k.seen)) same ∙ is.expirations k.seen)
  look_by-recast Read view k same = refl
  look_by-recast Write view k same = refl
  look_by-recast User view k same = refl
  look_by-recast Aio view k same = refl
  look_by-recast Lio view k same = refl
  look_by-recast Fs view k same = refl
  look_by-recast Procdesc view k same = refl
  look_by-recast Sendfile view k same = refl
  look_by-recast Empty view k same = refl

  pub look-recast : (views : Views) (k : Knote h) → look views (re k) ≡ look views k
  unfolding look
  look-recast views k =
      ap (notice_or k.notice) (look_by-recast k.key.filter (option_and_then views.view k.target) k refl)

  -- ---- what a change makes of a knote

  -- a knote that heard something else
  abbrev hearing : Knote g → T → Knote g
  hearing k s = record k { seen = s }

  fresh-recast : (caller : Caller) (c : Change) → fresh caller c ≡ re (fresh caller c)
  unfolding fresh
  fresh-recast caller c = ap (hearing (fresh {h = g} caller c)) (sym (is.empty c.filter))

  -- what it heard, with an expiration more where its moment has come
  heard_by-recast : (filter : Filter) (come : Bool) (s : S)
      → cond come (g.heard Expired (f filter s)) (f filter s) ≡ f filter (cond come (h.heard Expired s) s)
  heard_by-recast filter true s = sym (is.expired filter s)
  heard_by-recast filter false s = refl

  started-recast : (caller : Caller) (c : Change) (k : Knote h) → started caller c (re k) ≡ re (started caller c k)
  unfolding started
  started-recast caller c k =
      ap (hearing (re (started caller c k))) (heard_by-recast k.key.filter (has_come caller.views.now (timing_in caller c)) k.seen)

  begun-recast : (filter : Filter) (caller : Caller) (c : Change) (k : Knote h) → begun filter caller c (re k) ≡ re (begun filter caller c k)
  unfolding begun
  begun-recast Timer caller c k = started-recast caller c k
  begun-recast User caller c k = refl
  begun-recast _ caller c k = refl

  replaced-recast : (c : Change) (k : Knote h) → replaced c (re k) ≡ re (replaced c k)
  unfolding replaced
  replaced-recast c k = sym (cond-map re (asks c.flags add) _ _)

  restarted-recast : (filter : Filter) (caller : Caller) (c : Change) (k : Knote h) → restarted filter caller c (re k) ≡ re (restarted filter caller c k)
  unfolding restarted
  restarted-recast Timer caller c k =
      let anew : Knote h = record k { seen = h.empty; active = false } in
      ap (λ s. cond (asks c.flags add) (started caller c (record (re k) { seen = s; active = false })) (re k)) (sym (is.empty k.key.filter))
      ∙ ap (λ n. cond (asks c.flags add) n (re k)) (started-recast caller c anew)
      ∙ sym (cond-map re (asks c.flags add) (started caller c anew) k)
  restarted-recast _ caller c k = refl

  changed-recast : (filter : Filter) (c : Change) (k : Knote h) → changed filter c (re k) ≡ re (changed filter c k)
  unfolding changed
  changed-recast User c k = refl
  changed-recast _ c k = refl

  switched-recast : (c : Change) (k : Knote h) → switched c (re k) ≡ re (switched c k)
  unfolding switched
  switched-recast c k = refl

  pub activated-recast : (seen : Option Seen) (k : Knote h) → activated seen (re k) ≡ re (activated seen k)
  unfolding activated
  activated-recast None k = refl
  activated-recast (Some seen) k = refl

  attended-recast : (views : Views) (k : Knote h) → attended views (re k) ≡ re (attended views k)
  unfolding attended
  attended-recast views k =
      ap (λ seen. cond k.enabled (activated seen (re k)) (re k)) (look-recast views k)
      ∙ ap (λ n. cond k.enabled n (re k)) (activated-recast (look views k) k)
      ∙ sym (cond-map re k.enabled (activated (look views k) k) k)

  pub made-recast : (caller : Caller) (c : Change) → made caller c ≡ re (made caller c)
  unfolding made
  made-recast caller c =
      ap (λ k. attended caller.views (begun c.filter caller c k)) (fresh-recast caller c)
      ∙ ap (attended caller.views) (begun-recast c.filter caller c (fresh caller c))
      ∙ attended-recast caller.views (begun c.filter caller c (fresh caller c))

  pub modified-recast : (caller : Caller) (c : Change) (k : Knote h) → modified caller c (re k) ≡ re (modified caller c k)
  unfolding modified
  modified-recast caller c k =
      let r = replaced c k in
      let a = restarted c.filter caller c r in
      let b = changed c.filter c a in
      ap (λ n. attended caller.views (switched c (changed c.filter c (restarted c.filter caller c n)))) (replaced-recast c k)
      ∙ ap (λ n. attended caller.views (switched c (changed c.filter c n))) (restarted-recast c.filter caller c r)
      ∙ ap (λ n. attended caller.views (switched c n)) (changed-recast c.filter c a)
      ∙ ap (attended caller.views) (switched-recast c b)
      ∙ attended-recast caller.views (switched c b)
