-- A knote that is told hints one after the other becomes what the definition of a record's hints makes of it.
use Rattle.std.proofs.Common.{◌≡◌, ◌+◌, ◌==◌, min, Bool, true, false, cond, not, ◌&&◌, ◌||◌, List, [], ◌∷◌, filter, Option, Some, None, refl, sym, ap, ◌∙◌, subst, arith, if◌then◌else◌}
use Rattle.std.proofs.lemmas.Bool.{true≢false, ne_eqb, and_parts}
use Rattle.std.specs.Cmp.Derive.{both_true}
use Rattle.std.specs.List.{list_any}
use Rattle.std.specs.Option.{is_none}
use Rattle.kq_model.specs.declared.filter.Filter.{Filter}
use Rattle.kq_model.specs.declared.filter.Filter.TheVariants.{Read, Write, Vnode, Proc, Signal, Timer, User, Aio, Lio, Fs, Procdesc, Sendfile, Empty}
use Rattle.kq_model.specs.declared.key.Key.{Key}
use Rattle.kq_model.specs.declared.object.Hint.{Hint}
use Rattle.kq_model.specs.declared.object.View.{View}
use Rattle.kq_model.specs.ChangedKnote.{activated}
use Rattle.kq_model.specs.Hearing.{Hearing, Occurrence, Told, is_counted, most_counted}
use Rattle.kq_model.specs.Tallying.{Tally, tallying, is_telling}
use Rattle.kq_model.specs.Hints.{takes, kept, is_exit, added, heard_by, hears_exit, hints_for, unless_silent, alerted}
use Rattle.kq_model.specs.Alerting.{is_done, after_hint}
use Rattle.kq_model.specs.Knote.{Knote, has_nothing}
use Rattle.kq_model.specs.Look.{Seen, look, look_by, look_user, mark_of, notice_or}
use Rattle.kq_model.specs.Alerting.{heard_along, is_done_along, left_by}
use Rattle.kq_model.specs.Targets.{Posted}
use Rattle.kq_model.specs.Views.{Views}
use Rattle.kq_model.proofs.KnoteLaws.{by_test}

-- the filter takes each of them
abbrev pub AreTaken : Filter → List Hint → Type 0
AreTaken f [] = Unit {0}
AreTaken f (hint ∷ hints) = (takes f hint ≡ true) × AreTaken f hints

pub taken-filter : (f : Filter) (hints : List Hint) → AreTaken f (filter (takes f) hints)
taken-filter f [] = tt
taken-filter f (hint ∷ hints) =
    by_test (λ b. takes f hint ≡ b → AreTaken f (cond b (hint ∷ filter (takes f) hints) (filter (takes f) hints))) (takes f hint)
    (λ _ is. (is, taken-filter f hints)) (λ _ _. taken-filter f hints) refl

or_assoc : (a b c : Bool) → (a || b) || c ≡ a || (b || c)
or_assoc true b c = refl
or_assoc false b c = refl

or_true : (b : Bool) → b || true ≡ true
or_true true = refl
or_true false = refl

and_true : (b : Bool) → b && true ≡ b
and_true true = refl
and_true false = refl

and_false : (b : Bool) → b && false ≡ false
and_false true = refl
and_false false = refl

or_false : (b : Bool) → b || false ≡ b
or_false true = refl
or_false false = refl

module _ {S : Type 0} {h : Hearing S} where
  abbrev with_oneshot : Bool → Knote h → Knote h
  with_oneshot b k = record k { oneshot = b }

  pub added-filter : (o : Option Hint) (k : Knote h) → (added o k).key.filter ≡ k.key.filter
  unfolding added
  added-filter None k = refl
  added-filter (Some hint) k = refl

  added-fflags : (o : Option Hint) (k : Knote h) → (added o k).fflags ≡ k.fflags
  unfolding added
  added-fflags None k = refl
  added-fflags (Some hint) k = refl

  added-oneshot : (o : Option Hint) (b : Bool) (k : Knote h) → added o (with_oneshot b k) ≡ with_oneshot b (added o k)
  unfolding added
  added-oneshot None b k = refl
  added-oneshot (Some hint) b k = refl

  heard_by-oneshot : (hints : List Hint) (b : Bool) (k : Knote h) → heard_by hints (with_oneshot b k) ≡ with_oneshot b (heard_by hints k)
  unfolding heard_by
  heard_by-oneshot [] b k = refl
  heard_by-oneshot (hint ∷ hints) b k =
      ap (heard_by hints) (added-oneshot (kept k.fflags hint) b k) ∙ heard_by-oneshot hints b (added (kept k.fflags hint) k)

  after-taken : (hint : Hint) (k : Knote h) → takes k.key.filter hint ≡ true
      → after_hint hint k ≡ with_oneshot (k.oneshot || is_exit k.key.filter hint) (added (kept k.fflags hint) k)
  unfolding after_hint
  after-taken hint k taken =
      ap (λ b. with_oneshot (k.oneshot || is_exit k.key.filter hint) (if b then added (kept k.fflags hint) k else k)) taken

  -- what a knote is told hint by hint, it hears; an exit among them makes it ONESHOT
  pub heard_along-is : (hints : List Hint) (k : Knote h) → AreTaken k.key.filter hints
      → heard_along hints k ≡ with_oneshot (k.oneshot || hears_exit hints k) (heard_by hints k)
  unfolding heard_along heard_by
  heard_along-is [] k taken = ap (λ b. with_oneshot b k) (sym (or_false k.oneshot))
  heard_along-is (hint ∷ hints) k taken =
      let n = added (kept k.fflags hint) k in
      let b = k.oneshot || is_exit k.key.filter hint in
      let f = added-filter (kept k.fflags hint) k in
      ap (heard_along hints) (after-taken hint k taken.0)
      ∙ heard_along-is hints (with_oneshot b n) (subst (λ (g : Filter). AreTaken g hints) (sym f) taken.1)
      ∙ ap (with_oneshot (b || hears_exit hints n)) (heard_by-oneshot hints b n)
      ∙ ap (λ g. with_oneshot (b || list_any (is_exit g) hints) (heard_by hints n)) f
      ∙ ap (λ c. with_oneshot c (heard_by hints n)) (or_assoc k.oneshot (is_exit k.key.filter hint) (hears_exit hints k))

  -- ---- what stays

  added-key : (o : Option Hint) (k : Knote h) → (added o k).key ≡ k.key
  unfolding added
  added-key None k = refl
  added-key (Some hint) k = refl

  added-target : (o : Option Hint) (k : Knote h) → (added o k).target ≡ k.target
  unfolding added
  added-target None k = refl
  added-target (Some hint) k = refl

  added-same_oneshot : (o : Option Hint) (k : Knote h) → (added o k).oneshot ≡ k.oneshot
  unfolding added
  added-same_oneshot None k = refl
  added-same_oneshot (Some hint) k = refl

  pub heard_by-key : (hints : List Hint) (k : Knote h) → (heard_by hints k).key ≡ k.key
  unfolding heard_by
  heard_by-key [] k = refl
  heard_by-key (hint ∷ hints) k =
      heard_by-key hints (added (kept k.fflags hint) k) ∙ added-key (kept k.fflags hint) k

  heard_by-same_oneshot : (hints : List Hint) (k : Knote h) → (heard_by hints k).oneshot ≡ k.oneshot
  unfolding heard_by
  heard_by-same_oneshot [] k = refl
  heard_by-same_oneshot (hint ∷ hints) k =
      heard_by-same_oneshot hints (added (kept k.fflags hint) k) ∙ added-same_oneshot (kept k.fflags hint) k

  pub after_hint-key : (hint : Hint) (k : Knote h) → (after_hint hint k).key ≡ k.key
  unfolding after_hint
  after_hint-key hint k =
      by_test (λ b. (cond b (added (kept k.fflags hint) k) k).key ≡ k.key) (takes k.key.filter hint)
      (λ _. added-key (kept k.fflags hint) k) (λ _. refl)

  pub after_hint-target : (hint : Hint) (k : Knote h) → (after_hint hint k).target ≡ k.target
  unfolding after_hint
  after_hint-target hint k =
      by_test (λ b. (cond b (added (kept k.fflags hint) k) k).target ≡ k.target) (takes k.key.filter hint)
      (λ _. added-target (kept k.fflags hint) k) (λ _. refl)

  pub heard_along-key : (hints : List Hint) (k : Knote h) → (heard_along hints k).key ≡ k.key
  unfolding heard_along
  heard_along-key [] k = refl
  heard_along-key (hint ∷ hints) k = heard_along-key hints (after_hint hint k) ∙ after_hint-key hint k

  pub heard_along-target : (hints : List Hint) (k : Knote h) → (heard_along hints k).target ≡ k.target
  unfolding heard_along
  heard_along-target [] k = refl
  heard_along-target (hint ∷ hints) k = heard_along-target hints (after_hint hint k) ∙ after_hint-target hint k

  -- ---- ONESHOT is not looked at

  mark-oneshot : (b : Bool) (k : Knote h) → mark_of (with_oneshot b k) ≡ mark_of k
  unfolding mark_of
  mark-oneshot b k = refl

  look_by-oneshot : (f : Filter) (view : Option View) (b : Bool) (k : Knote h) → look_by f view (with_oneshot b k) ≡ look_by f view k
  unfolding look_by look_user mark_of
  look_by-oneshot Read view b k = refl
  look_by-oneshot Write view b k = refl
  look_by-oneshot Vnode view b k = refl
  look_by-oneshot Proc view b k = refl
  look_by-oneshot Signal view b k = refl
  look_by-oneshot Timer view b k = refl
  look_by-oneshot User view b k = refl
  look_by-oneshot Aio view b k = refl
  look_by-oneshot Lio view b k = refl
  look_by-oneshot Fs view b k = refl
  look_by-oneshot Procdesc view b k = refl
  look_by-oneshot Sendfile view b k = refl
  look_by-oneshot Empty view b k = refl

  look-oneshot : (views : Views) (b : Bool) (k : Knote h) → look views (with_oneshot b k) ≡ look views k
  unfolding look
  look-oneshot views b k = ap (notice_or k.notice) (look_by-oneshot k.key.filter _ b k)

  activated-oneshot : (seen : Option Seen) (b : Bool) (k : Knote h) → activated seen (with_oneshot b k) ≡ with_oneshot b (activated seen k)
  unfolding activated
  activated-oneshot None b k = refl
  activated-oneshot (Some seen) b k = refl

  activated-nothing : (seen : Option Seen) (k : Knote h) → has_nothing (activated seen k) ≡ has_nothing k
  unfolding activated
  activated-nothing None k = refl
  activated-nothing (Some seen) k = refl

  pub activated-key : (seen : Option Seen) (k : Knote h) → (activated seen k).key ≡ k.key
  unfolding activated
  activated-key None k = refl
  activated-key (Some seen) k = refl

  pub activated-target : (seen : Option Seen) (k : Knote h) → (activated seen k).target ≡ k.target
  unfolding activated
  activated-target None k = refl
  activated-target (Some seen) k = refl

  -- ---- the whole

  exit_or_not : (views : Views) (e b : Bool) (k : Knote h) → k.oneshot ≡ b
      → unless_silent e (activated (look views k) k) ≡ left_by views e (with_oneshot (b || e) k)
  unfolding unless_silent
  exit_or_not views false b k is =
      ap (λ o. Some (activated (look views (with_oneshot o k)) (with_oneshot o k))) (is ∙ sym (or_false b))
  exit_or_not views true b k is =
      ap (λ b. cond b None (Some (with_oneshot true (activated (look views k) k)))) (activated-nothing (look views k) k)
      ∙ ap (λ (x : Knote h). cond (has_nothing k) None (Some x))
      (sym (activated-oneshot (look views k) true k) ∙ ap (λ o. activated o (with_oneshot true k)) (sym (look-oneshot views true k)))
      ∙ ap (λ o. left_by views true (with_oneshot o k)) (sym (or_true b))

  same_silent : (done e empty : Bool) (x : Option (Knote h)) → (empty ≡ true → done ≡ e)
      → cond (done && empty) None x ≡ cond (e && empty) None x
  same_silent done e true x is = ap (λ b. cond (b && true) None x) (is refl)
  same_silent done e false x is = ap (λ b. cond b None x) (and_false done ∙ sym (and_false e))

  module _ (hears : (x : Occurrence) (s : S) → h.is_empty (h.heard x s) ≡ true → h.is_empty s ≡ true) where
    added-empty : (o : Option Hint) (k : Knote h) → has_nothing (added o k) ≡ true → has_nothing k ≡ true
    unfolding added
    added-empty None k e = e
    added-empty (Some hint) k e =
        let parts = and_parts (is_none k.notice) _ e in
        both_true parts.0 (hears (Told hint) k.seen parts.1)

    after-empty : (hint : Hint) (k : Knote h) → has_nothing (after_hint hint k) ≡ true → has_nothing k ≡ true
    unfolding after_hint
    after-empty hint k =
        by_test (λ b. has_nothing (cond b (added (kept k.fflags hint) k) k) ≡ true → has_nothing k ≡ true) (takes k.key.filter hint)
        (λ _. added-empty (kept k.fflags hint) k) (λ _ e. e)

    -- what was heard is not forgotten
    along-empty : (hints : List Hint) (k : Knote h) → has_nothing (heard_along hints k) ≡ true → has_nothing k ≡ true
    unfolding heard_along
    along-empty [] k e = e
    along-empty (hint ∷ hints) k e = after-empty hint k (along-empty hints (after_hint hint k) e)

    done-along : (hints : List Hint) (k : Knote h) → has_nothing (heard_along hints k) ≡ true → is_done_along hints k ≡ hears_exit hints k
    unfolding heard_along is_done_along is_done
    done-along [] k e = refl
    done-along (hint ∷ hints) k e =
        let n = after_hint hint k in
        ap (λ b. (is_exit k.key.filter hint && b) || is_done_along hints n) (along-empty hints n e)
        ∙ ap (λ b. b || is_done_along hints n) (and_true (is_exit k.key.filter hint))
        ∙ ap (λ b. is_exit k.key.filter hint || b)
        (done-along hints n e ∙ ap (λ (key : Key). list_any (is_exit key.filter) hints) (after_hint-key hint k))

    alerted-along : (views : Views) (hint : Hint) (hints : List Hint) (k : Knote h) → AreTaken k.key.filter (hint ∷ hints)
        → alerted views (hint ∷ hints) k ≡ left_by views (is_done_along (hint ∷ hints) k) (heard_along (hint ∷ hints) k)
    unfolding alerted
    alerted-along views hint hints k taken =
        let n = heard_along (hint ∷ hints) k in
        exit_or_not views (hears_exit (hint ∷ hints) k) k.oneshot (heard_by (hint ∷ hints) k) (heard_by-same_oneshot (hint ∷ hints) k)
        ∙ ap (left_by views (hears_exit (hint ∷ hints) k)) (sym (heard_along-is (hint ∷ hints) k taken))
        ∙ sym (same_silent (is_done_along (hint ∷ hints) k) (hears_exit (hint ∷ hints) k) (has_nothing n)
        (Some (activated (look views n) n)) (done-along (hint ∷ hints) k))

    -- what becomes of a knote that was told the hints for it
    pub alerted-told : (views : Views) (posted : List Posted) (k : Knote h) (hint : Hint) (hints : List Hint)
        → hints_for k posted ≡ hint ∷ hints
        → alerted views (hint ∷ hints) k ≡ left_by views (is_done_along (hint ∷ hints) k) (heard_along (hint ∷ hints) k)
    alerted-told views posted k hint hints is =
        alerted-along views hint hints k (subst (AreTaken k.key.filter) is (taken-filter k.key.filter _))

-- a tally that is empty was so before
pub tally-hears : (x : Occurrence) (t : Tally) → tallying.is_empty (tallying.heard x t) ≡ true → tallying.is_empty t ≡ true
tally-hears x t =
    by_test (λ b. (cond b (min (t.count + 1) most_counted) t.count == 0) && not (is_telling x || t.told) ≡ true → tallying.is_empty t ≡ true)
    (is_counted x)
    (λ _ e. absurd (true≢false (sym (and_parts _ _ e).0 ∙ ne_eqb (min (t.count + 1) most_counted) 0 (λ z. omega (arith, z)))))
    (λ _ e. let parts = and_parts (t.count == 0) _ e in both_true parts.0 (not_either (is_telling x) t.told parts.1))
  where
    not_either : (a b : Bool) → not (a || b) ≡ true → not b ≡ true
    not_either true b e = absurd (true≢false (sym e))
    not_either false b e = e
