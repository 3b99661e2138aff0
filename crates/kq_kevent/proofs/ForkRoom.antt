-- Room for one knote is room for that of a child that is forked: who follows the parent after the hints did so before.
use Rattle.std.proofs.Common.{◌≡◌, ◌≤◌, ◌<◌, ◌+◌, ◌∙◌, ◌&&◌, ℕ, Bool, true, false, cond, eqb, List, [], ◌∷◌, length, Option, Some, None, refl, sym, ap, ap₂, arith}
use Rattle.std.proofs.lemmas.Bool.{cond_both, false≢true}
use Rattle.std.specs.Option.{option_and_then}
use Rattle.kq_model.specs.declared.object.Hint.{Hint}
use Rattle.kq_model.specs.declared.object.Target.TheVariants.{Process}
use Rattle.kq_model.specs.Bits.{has_note, track_note}
use Rattle.kq_model.specs.ChangedKnote.{activated}
use Rattle.kq_model.specs.Following.{Fork, all_forks, forks_of, follows, followed_each, child_knote, heir, is_follower, process_key, tracks, with_heir}
use Rattle.kq_model.specs.Hints.{added, heard_by, hears_exit, hints_for, kept, alerted, notified, unless_silent}
use Rattle.kq_model.specs.Knote.{find_knote, has_nothing}
use Rattle.kq_model.specs.Kqueue.{HaveOwnKeys}
use Rattle.kq_model.specs.Look.{Seen, look}
use Rattle.kq_model.specs.ProcessPlans.{forked}
use Rattle.kq_model.specs.Tallied.{Knote, Kqueue}
use Rattle.kq_model.specs.Targets.{Posted, is_target}
use Rattle.kq_model.specs.Views.{Views}
use Rattle.kq_model.proofs.Following.{heir-one, notified-most}
use Rattle.kq_model.proofs.HintLaws.{find_knote-alerting}
use Rattle.kq_model.proofs.KnoteLaws.{by_test}
use Rattle.kq_kevent.specs.Owned.{HasRoomToFollow, OwnedKqueue, limit}

abbrev Keeps : Knote → Option Knote → Type 0
Keeps k None = Unit {0}
Keeps k (Some x) = (x.target ≡ k.target) × (x.fflags ≡ k.fflags)

added-keeps : (hint : Option Hint) (k : Knote) → Keeps k (Some (added hint k))
unfolding added
added-keeps None k = (refl, refl)
added-keeps (Some hint) k = (refl, refl)

heard-keeps : (hints : List Hint) (k : Knote) → Keeps k (Some (heard_by hints k))
unfolding heard_by
heard-keeps [] k = (refl, refl)
heard-keeps (hint ∷ hints) k =
    let first = added-keeps (kept k.fflags hint) k in
    let later = heard-keeps hints (added (kept k.fflags hint) k) in
    (later.0 ∙ first.0, later.1 ∙ first.1)

activated-keeps : (seen : Option Seen) (k x : Knote) → Keeps k (Some x) → Keeps k (Some (activated seen x))
unfolding activated
activated-keeps None k x keeps = keeps
activated-keeps (Some seen) k x keeps = keeps

silent-keeps : (exits : Bool) (k x : Knote) → Keeps k (Some x) → Keeps k (unless_silent exits x)
unfolding unless_silent
silent-keeps false k x keeps = keeps
silent-keeps true k x keeps = cond_both (has_nothing x) _ _ (Keeps k) (λ _. tt) (λ _. keeps)

module _ (views : Views) where
  alerted-keeps : (hints : List Hint) (k : Knote) → Keeps k (alerted views hints k)
  unfolding alerted
  alerted-keeps [] k = (refl, refl)
  alerted-keeps (hint ∷ hints) k =
      let heard = heard_by (hint ∷ hints) k in
      silent-keeps (hears_exit (hint ∷ hints) k) k (activated (look views heard) heard)
      (activated-keeps (look views heard) k heard (heard-keeps (hint ∷ hints) k))

  still-follows : (pid : ℕ) (k : Knote) (left : Option Knote) → Keeps k left → is_follower pid left ≡ true → follows pid k ≡ true
  unfolding is_follower
  still-follows pid k None keeps does = absurd (false≢true does)
  still-follows pid k (Some x) keeps does =
      ap₂ (λ t n. is_target t (Process pid) && has_note n track_note) (sym keeps.0) (sym keeps.1) ∙ does

  found-follows : (posted : List Posted) (pid : ℕ) (found : Option Knote)
      → is_follower pid (option_and_then (λ (k : Knote). alerted views (hints_for k posted) k) found) ≡ true → is_follower pid found ≡ true
  unfolding is_follower
  found-follows posted pid None does = does
  found-follows posted pid (Some k) does =
      still-follows pid k (alerted views (hints_for k posted) k) (alerted-keeps (hints_for k posted) k) does

  pub tracks-before : (posted : List Posted) (pid : ℕ) (kq : Kqueue) → HaveOwnKeys kq.knotes
      → tracks pid (notified views posted kq) ≡ true → tracks pid kq ≡ true
  unfolding notified
  tracks-before posted pid kq own does =
      found-follows posted pid (find_knote (process_key pid) kq.knotes)
      (sym (ap (is_follower pid) (find_knote-alerting views posted (process_key pid) kq.knotes own)) ∙ does)

  room-for-heir : (f : Fork) (parent present : Option Knote) (q : Kqueue) (most : ℕ) (room : ℕ) → length q.knotes + room ≤ most
      → (is_follower f.parent parent ≡ true → 0 < room) → length (with_heir (heir f parent present) q).knotes ≤ most
  unfolding with_heir heir is_follower
  room-for-heir f None present q most room fits given = omega (arith, fits)
  room-for-heir f (Some k) (Some x) q most room fits given = omega (arith, fits)
  room-for-heir f (Some k) None q most room fits given =
      by_test (λ b. (b ≡ true → 0 < room) → length (with_heir (cond b (Some (child_knote f k)) None) q).knotes ≤ most) (follows f.parent k)
      (λ _ given. omega (arith, fits, given refl, heir-one (Some (child_knote f k)) (child_knote f k) q refl))
      (λ _ given. omega (arith, fits)) given

  pub room-for-fork : (pid child : ℕ) (kq : OwnedKqueue) → HaveOwnKeys kq.kq.knotes → (tracks pid kq.kq ≡ true → 0 < kq.room)
      → HasRoomToFollow views (forked pid child) kq
  unfolding all_forks forks_of followed_each
  room-for-fork pid child kq own given =
      let posted = forked pid child in
      let q = notified views posted kq.kq in
      let f : Fork = record { parent = pid; child = child } in
      let less = notified-most views posted kq.kq in
      by_test (λ b. length (followed_each (cond b [] (all_forks posted)) q).knotes ≤ limit kq) (eqb kq.version 1)
      (λ _. omega (arith, less))
      (λ _. room-for-heir f (find_knote (process_key pid) q.knotes) (find_knote (process_key child) q.knotes) q (limit kq) kq.room (omega (arith, less))
      (λ does. given (tracks-before posted pid kq.kq own does)))
