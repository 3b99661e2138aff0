-- What a knote has to tell: it counts as active only where it is enabled and its condition holds. Of two knotes that
-- differ in nothing else each step makes two such knotes.
use Rattle.std.proofs.Common.{◌≡◌, ℕ, Bool, true, false, cond, not, ◌&&◌, ◌||◌, List, [], ◌∷◌, Option, Some, None, option_map, refl, sym, ap, ◌∙◌}
use Rattle.std.specs.Option.{is_some, option_and_then}
use Rattle.kq_model.specs.declared.change.Change.{Change}
use Rattle.kq_model.specs.declared.filter.Filter.{Filter}
use Rattle.kq_model.specs.declared.filter.Filter.TheVariants.{Read, Write, Vnode, Proc, Signal, Timer, User, Aio, Lio, Fs, Procdesc, Sendfile, Empty}
use Rattle.kq_model.specs.declared.object.Hint.{Hint}
use Rattle.kq_model.specs.declared.object.View.{View}
use Rattle.kq_model.specs.Bits.{asks, add, disable}
use Rattle.kq_model.specs.Caller.{Caller}
use Rattle.kq_model.specs.ChangedKnote.{activated, attended, replaced, started, restarted, changed, switched, modified}
use Rattle.kq_model.specs.Clock.{expires_at, expired}
use Rattle.kq_model.specs.Hints.{added, kept, heard_by, hears_exit, unless_silent, alerted}
use Rattle.kq_model.specs.Knote.{has_nothing}
use Rattle.kq_model.specs.Look.{Seen, mark_of, look_user, look_by, notice_or, look}
use Rattle.kq_model.specs.Tallied.{Knote}
use Rattle.kq_model.specs.Tallying.{tallying}
use Rattle.kq_model.specs.Views.{Views}
use Rattle.kq_model.proofs.KnoteLaws.{by_test}

-- ---- a look does not see whether the knote is active

look_by-active : (f : Filter) (view : Option View) (k : Knote) (b : Bool) → look_by f view (record k { active = b }) ≡ look_by f view k
unfolding look_by mark_of look_user
look_by-active Read view k b = refl
look_by-active Write view k b = refl
look_by-active Vnode view k b = refl
look_by-active Proc view k b = refl
look_by-active Signal view k b = refl
look_by-active Timer view k b = refl
look_by-active User view k b = refl
look_by-active Aio view k b = refl
look_by-active Lio view k b = refl
look_by-active Fs view k b = refl
look_by-active Procdesc view k b = refl
look_by-active Sendfile view k b = refl
look_by-active Empty view k b = refl

pub look-active : (views : Views) (k : Knote) (b : Bool) → look views (record k { active = b }) ≡ look views k
unfolding look
look-active views k b =
    ap (notice_or k.notice) (look_by-active k.key.filter (option_and_then views.view k.target) k b)

look_by-oneshot : (f : Filter) (view : Option View) (k : Knote) (b : Bool) → look_by f view (record k { oneshot = b }) ≡ look_by f view k
unfolding look_by mark_of look_user
look_by-oneshot Read view k b = refl
look_by-oneshot Write view k b = refl
look_by-oneshot Vnode view k b = refl
look_by-oneshot Proc view k b = refl
look_by-oneshot Signal view k b = refl
look_by-oneshot Timer view k b = refl
look_by-oneshot User view k b = refl
look_by-oneshot Aio view k b = refl
look_by-oneshot Lio view k b = refl
look_by-oneshot Fs view k b = refl
look_by-oneshot Procdesc view k b = refl
look_by-oneshot Sendfile view k b = refl
look_by-oneshot Empty view k b = refl

look-oneshot : (views : Views) (k : Knote) (b : Bool) → look views (record k { oneshot = b }) ≡ look views k
unfolding look
look-oneshot views k b =
    ap (notice_or k.notice) (look_by-oneshot k.key.filter (option_and_then views.view k.target) k b)

-- ---- what is told

-- an event of it may be read
abbrev pub is_ready : Views → Knote → Bool
is_ready views k = k.enabled && is_some (look views k)

abbrev pub telling : Views → Knote → Knote
telling views k = record k { active = k.active && is_ready views k }

-- the same knote, active or not
abbrev pub made_active : Bool → Knote → Knote
made_active b k = record k { active = b }

pub and_again : (a b : Bool) → (a && b) && b ≡ a && b
and_again true true = refl
and_again true false = refl
and_again false true = refl
and_again false false = refl

and_false : (b : Bool) → b && false ≡ false
and_false true = refl
and_false false = refl

module _ (views : Views) where
  ready-active : (k : Knote) (b : Bool) → is_ready views (made_active b k) ≡ is_ready views k
  ready-active k b = ap (λ s. k.enabled && is_some s) (look-active views k b)

  pub telling-active : (k : Knote) (b : Bool) → telling views (made_active b k) ≡ made_active (b && is_ready views k) k
  telling-active k b = ap (λ r. made_active (b && r) k) (ready-active k b)

  pub look-telling : (k : Knote) → look views (telling views k) ≡ look views k
  look-telling k = look-active views k (k.active && is_ready views k)

  pub telling-again : (k : Knote) → telling views (telling views k) ≡ telling views k
  telling-again k =
      telling-active k (k.active && is_ready views k) ∙ ap (λ b. made_active b k) (and_again k.active (is_ready views k))

  -- where it has nothing to tell, it is all one whether it is active
  pub telling-unready : (k : Knote) (a b : Bool) → is_ready views k ≡ false
      → telling views (made_active a k) ≡ telling views (made_active b k)
  telling-unready k a b off =
      telling-active k a ∙ ap (λ r. made_active (a && r) k) off ∙ ap (λ r. made_active r k) (and_false a ∙ sym (and_false b))
      ∙ sym (ap (λ r. made_active (b && r) k) off) ∙ sym (telling-active k b)

  -- ---- a look at the end: it is active where there is something to see

  looked : (k : Knote) (a b : Bool) (s : Option Seen) → look views k ≡ s
      → telling views (activated s (made_active a k)) ≡ telling views (activated s (made_active b k))
  unfolding activated
  looked k a b None nothing =
      telling-unready k a b (ap (λ s. k.enabled && is_some s) nothing ∙ and_false k.enabled)
  looked k a b (Some seen) something = refl

  pub activated-any : (k : Knote) (a b : Bool)
      → telling views (activated (look views (made_active a k)) (made_active a k))
      ≡ telling views (activated (look views (made_active b k)) (made_active b k))
  activated-any k a b =
      ap (λ s. telling views (activated s (made_active a k))) (look-active views k a)
      ∙ looked k a b (look views k) refl
      ∙ sym (ap (λ s. telling views (activated s (made_active b k))) (look-active views k b))

  attended-any : (k : Knote) (a b : Bool)
      → telling views (attended views (made_active a k)) ≡ telling views (attended views (made_active b k))
  unfolding attended
  attended-any k a b =
      by_test (λ e. k.enabled ≡ e
      → telling views (cond e (activated (look views (made_active a k)) (made_active a k)) (made_active a k))
      ≡ telling views (cond e (activated (look views (made_active b k)) (made_active b k)) (made_active b k))) k.enabled
      (λ _ _. activated-any k a b)
      (λ _ off. telling-unready k a b (ap (λ e. e && is_some (look views k)) off)) refl

-- ---- a change

-- two knotes that differ in whether they are active at most
pub record AreBut (k l : Knote) : Type 0 where
  pub active : Bool
  pub is : l ≡ made_active active k

pub but_itself : (k : Knote) → AreBut k k
but_itself k = record { active = k.active; is = refl }

module _ (caller : Caller) (c : Change) where
  abbrev with_udata : Knote → Knote
  with_udata k = record k { udata = c.udata }

  abbrev with_parameters : Knote → Knote
  with_parameters k = record k {
    fflags = c.fflags;
    datum = c.datum;
    udata = c.udata;
    enabled = k.enabled || not (asks c.flags disable);
  }

  replaced-but : (k : Knote) (b : Bool) → AreBut (replaced c k) (replaced c (made_active b k))
  unfolding replaced
  replaced-but k b =
      by_test (λ x. AreBut (cond x (with_parameters k) (with_udata k)) (cond x (with_parameters (made_active b k)) (with_udata (made_active b k))))
      (asks c.flags add) (λ _. record { active = b; is = refl }) (λ _. record { active = b; is = refl })

  abbrev forgotten : Knote → Knote
  forgotten k = record k { seen = tallying.empty; active = false }

  restarted-but : (f : Filter) (k : Knote) (b : Bool) → AreBut (restarted f caller c k) (restarted f caller c (made_active b k))
  unfolding restarted
  restarted-but Timer k b =
      by_test (λ x. AreBut (cond x (started caller c (forgotten k)) k) (cond x (started caller c (forgotten k)) (made_active b k)))
      (asks c.flags add) (λ _. but_itself (started caller c (forgotten k))) (λ _. record { active = b; is = refl })
  restarted-but Read k b = record { active = b; is = refl }
  restarted-but Write k b = record { active = b; is = refl }
  restarted-but Vnode k b = record { active = b; is = refl }
  restarted-but Proc k b = record { active = b; is = refl }
  restarted-but Signal k b = record { active = b; is = refl }
  restarted-but User k b = record { active = b; is = refl }
  restarted-but Aio k b = record { active = b; is = refl }
  restarted-but Lio k b = record { active = b; is = refl }
  restarted-but Fs k b = record { active = b; is = refl }
  restarted-but Procdesc k b = record { active = b; is = refl }
  restarted-but Sendfile k b = record { active = b; is = refl }
  restarted-but Empty k b = record { active = b; is = refl }

  changed-but : (f : Filter) (k : Knote) (b : Bool) → changed f c (made_active b k) ≡ made_active b (changed f c k)
  unfolding changed
  changed-but User k b = refl
  changed-but Read k b = refl
  changed-but Write k b = refl
  changed-but Vnode k b = refl
  changed-but Proc k b = refl
  changed-but Signal k b = refl
  changed-but Timer k b = refl
  changed-but Aio k b = refl
  changed-but Lio k b = refl
  changed-but Fs k b = refl
  changed-but Procdesc k b = refl
  changed-but Sendfile k b = refl
  changed-but Empty k b = refl

  abbrev before_look : Knote → Knote
  before_look k = switched c (changed c.filter c (restarted c.filter caller c (replaced c k)))

  switched-but : (k : Knote) (b : Bool) → switched c (made_active b k) ≡ made_active b (switched c k)
  unfolding switched
  switched-but k b = refl

  before_look-but : (k : Knote) (b : Bool) → AreBut (before_look k) (before_look (made_active b k))
  before_look-but k b =
      let first = replaced-but k b in
      let second = restarted-but c.filter (replaced c k) first.active in
      record {
        active = second.active;
        is = ap (λ (x : Knote). switched c (changed c.filter c (restarted c.filter caller c x))) first.is
            ∙ ap (λ (x : Knote). switched c (changed c.filter c x)) second.is
            ∙ ap (λ (x : Knote). switched c x) (changed-but c.filter (restarted c.filter caller c (replaced c k)) second.active)
            ∙ switched-but (changed c.filter c (restarted c.filter caller c (replaced c k))) second.active;
      }

  pub modified-any : (k : Knote) (b : Bool)
      → telling caller.views (modified caller c (made_active b k)) ≡ telling caller.views (modified caller c k)
  unfolding modified
  modified-any k b =
      let but = before_look-but k b in
      ap (λ (x : Knote). telling caller.views (attended caller.views x)) but.is
      ∙ attended-any caller.views (before_look k) but.active (before_look k).active

-- ---- hints

module _ (views : Views) where
  added-but : (hint : Option Hint) (k : Knote) (b : Bool) → added hint (made_active b k) ≡ made_active b (added hint k)
  unfolding added
  added-but None k b = refl
  added-but (Some hint) k b = refl

  heard-but : (hints : List Hint) (k : Knote) (b : Bool) → heard_by hints (made_active b k) ≡ made_active b (heard_by hints k)
  unfolding heard_by
  heard-but [] k b = refl
  heard-but (hint ∷ hints) k b =
      ap (heard_by hints) (added-but (kept k.fflags hint) k b) ∙ heard-but hints (added (kept k.fflags hint) k) b

  -- what becomes of it where it was told of the exit
  silent-any : (gone : Bool) (k : Knote) (s : Option Seen) (a b : Bool) → look views k ≡ s
      → option_map (telling views) (unless_silent gone (activated s (made_active a k)))
      ≡ option_map (telling views) (unless_silent gone (activated s (made_active b k)))
  unfolding unless_silent activated
  silent-any false k None a b nothing = ap Some (looked views k a b None nothing)
  silent-any false k (Some seen) a b something = refl
  silent-any true k None a b nothing =
      by_test (λ x. option_map (telling views) (cond x None (Some (record (made_active a k) { oneshot = true })))
      ≡ option_map (telling views) (cond x None (Some (record (made_active b k) { oneshot = true })))) (has_nothing k)
      (λ _. refl)
      (λ _. ap Some (telling-unready views (record k { oneshot = true }) a b
      (ap (λ s. k.enabled && is_some s) (look-oneshot views k true ∙ nothing) ∙ and_false k.enabled)))
  silent-any true k (Some seen) a b something = refl

  pub alerted-next : (hint : Hint) (hints : List Hint) (k : Knote) (b : Bool)
      → option_map (telling views) (alerted views (hint ∷ hints) (made_active b k))
      ≡ option_map (telling views) (alerted views (hint ∷ hints) k)
  unfolding alerted
  alerted-next hint hints k b =
      let all = hint ∷ hints in
      let gone = hears_exit all k in
      let after = heard_by all k in
      ap (λ (x : Knote). option_map (telling views) (unless_silent gone (activated (look views x) x))) (heard-but all k b)
      ∙ ap (λ s. option_map (telling views) (unless_silent gone (activated s (made_active b after)))) (look-active views after b)
      ∙ silent-any gone after (look views after) b after.active refl
