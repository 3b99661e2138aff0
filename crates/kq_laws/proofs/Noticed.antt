-- An event tells of a child where its knote has a notice; and the forks of a record account for those that it brings.
use Rattle.std.proofs.Common.{◌≡◌, ℕ, pos, ◌==◌, Bool, true, false, cond, eqb-true, ◌⊎◌, inl, inr, List, [], ◌∷◌, Option, Some, None, if◌then◌else◌, refl, sym, ap, ◌∙◌, subst, arith}
use Rattle.std.proofs.lemmas.Bool.{cond_both}
use Rattle.std.proofs.lemmas.List.Elements.{All-nil, All-cons, All-append}
use Rattle.std.proofs.lemmas.Nat.Bits.{bit_at-pow_same, bit_at_and}
use Rattle.std.proofs.lemmas.Option.{none-some, same_Some}
use Rattle.std.specs.Int.{bit_at}
use Rattle.std.specs.Int.RustNames.{bit_and}
use Rattle.std.specs.Option.{option_and_then}
use Rattle.kq_model.specs.declared.filter.Filter.{Filter}
use Rattle.kq_model.specs.declared.filter.Filter.TheVariants.{Proc}
use Rattle.kq_model.specs.declared.kevent.Kevent.{Kevent}
use Rattle.kq_model.specs.declared.key.Key.{Key}
use Rattle.kq_model.specs.declared.object.View.{View}
use Rattle.kq_model.specs.Bits.{child_note, exit_note, has_note}
use Rattle.kq_model.specs.CallLaws.{IsDue, key_of_event}
use Rattle.kq_model.specs.Close.{Pair, closed}
use Rattle.kq_model.specs.Following.{Fork, process_key, follows, child_knote, heir, with_heir, all_forks, forks_of, followed_each, followed}
use Rattle.kq_model.specs.Hints.{hints_for, alerted, notified}
use Rattle.kq_model.specs.Knote.{find_knote}
use Rattle.kq_model.specs.Kqueue.{IsSound}
use Rattle.kq_model.specs.Look.{Seen, process_seen, status_of, notice_seen, notice_or, look_by, look}
use Rattle.kq_model.specs.Moment.{Moment, caller_at, happened, called_at, after_call}
use Rattle.kq_model.specs.Retrieval.{event_of}
use Rattle.kq_model.specs.Tallied.{Knote, Kqueue}
use Rattle.kq_model.specs.Tallying.{tallying}
use Rattle.kq_model.specs.Targets.{Posted}
use Rattle.kq_model.specs.Views.{Views}
use Rattle.kq_model.specs.World.{Call}
use Rattle.kq_model.proofs.KnoteLaws.{by_test, find_knote-key}
use Rattle.kq_system.proofs.QuietLemmas.{closed_none}
use Rattle.kq_system.proofs.SilentLemmas.{none-follow}
use Rattle.kq_laws.specs.Notices.{TellsOfChild}
use Rattle.kq_laws.proofs.Accounted.{IsAccounted, AreAccounted, call-accounted, closed-accounted, notified-accounted, clocked-accounted}
use Rattle.kq_laws.proofs.Childless.{AreChildless, child_bit}
use Rattle.kq_laws.proofs.Children.{told, stays-told, found-left, this_fork}
use Rattle.kq_laws.proofs.HeardNotes.{no_notes}
use Rattle.kq_laws.proofs.Lasting.{Stays, follows-as}
use Rattle.kq_laws.proofs.Lists.{found-is}
use Rattle.kq_laws.proofs.Lives.{happened-sound}
use Rattle.kq_laws.proofs.Sound.{call-sound}

-- ---- an event of a knote that is accounted for

no-child : (notes : ℕ) → bit_at notes child_bit ≡ 0 → has_note notes child_note ≡ true → ⊥
no-child notes none has =
    let there : bit_and notes child_note ≡ child_note = eqb-true (bit_and notes child_note) child_note has in
    let here : bit_at (bit_and notes child_note) child_bit ≡ bit_at child_note child_bit = ap (λ n. bit_at n child_bit) there in
    omega (arith, bit_at_and notes child_note child_bit, here, none, bit_at-pow_same child_bit)

seen-of : (b : Bool) (x seen : Seen) → cond b None (Some x) ≡ Some seen → x ≡ seen
seen-of true x seen is = absurd (none-some seen is)
seen-of false x seen is = same_Some x seen is

notes-seen : (notes : ℕ) (status : Option ℕ) (seen : Seen) → process_seen notes status ≡ Some seen → notes ≡ seen.fflags
unfolding process_seen
notes-seen notes None seen is =
    ap (λ (s : Seen). s.fflags) (seen-of (notes == 0) (record { fflags = notes; datum = pos 0; eof = false }) seen is)
notes-seen notes (Some status) seen is =
    ap (λ (s : Seen). s.fflags)
    (seen-of (notes == 0) (record { fflags = notes; datum = if has_note notes exit_note then pos status else pos 0; eof = true }) seen is)

-- a PROC knote without a notice shows the notes that it heard
proc-notes : (f : Filter) (view : Option View) (k : Knote) (seen : Seen) → f ≡ Proc → look_by f view k ≡ Some seen
    → tallying.notes k.seen ≡ seen.fflags
unfolding look_by
proc-notes f view k seen proc is =
    notes-seen (tallying.notes k.seen) (status_of view) seen (ap (λ (g : Filter). look_by g view k) (sym proc) ∙ is)

module _ (Q : ℕ → ℕ → Type 0) (views : Views) (kq : Kqueue) (e : Kevent) (all : AreAccounted Q kq)
    (due : IsDue views kq.knotes e) (tells : TellsOfChild e) where
  knote-key : key_of_event e ≡ due.knote.key
  knote-key = find_knote-key (key_of_event e) kq.knotes due.knote due.found

  accounted : IsAccounted Q due.knote
  accounted = found-is (IsAccounted Q) (key_of_event e) kq.knotes due.knote all due.found

  is-proc : due.knote.key.filter ≡ Proc
  is-proc = ap (λ (key : Key). key.filter) (sym knote-key) ∙ tells.filter

  abbrev view : Option View
  view = option_and_then views.view due.knote.target

  sees : (notice : Option ℕ) → due.knote.notice ≡ notice
      → notice_or notice (look_by due.knote.key.filter view due.knote) ≡ Some due.seen
  unfolding look
  sees notice is =
      ap (λ n. notice_or n (look_by due.knote.key.filter view due.knote)) (sym is) ∙ due.holds

  shows-notes : e.fflags ≡ due.seen.fflags
  unfolding event_of
  shows-notes = ap (λ (x : Kevent). x.fflags) due.is

  shows-datum : e.datum ≡ due.seen.datum
  unfolding event_of
  shows-datum = ap (λ (x : Kevent). x.datum) due.is

  abbrev Accounts : Type 0
  Accounts = (parent : ℕ) × (e.datum ≡ pos parent) × Q e.ident parent

  by-notice : (notice : Option ℕ) → due.knote.notice ≡ notice → Accounts
  unfolding notice_or
  by-notice (Some parent) is = (
    parent,
    shows-datum ∙ ap (λ (s : Seen). s.datum) (sym (same_Some (notice_seen parent) due.seen (sees (Some parent) is))),
    subst (λ (key : Key). Q key.ident parent) (sym knote-key) (accounted.1 parent is),
  )
  by-notice None is =
      let notes = tallying.notes due.knote.seen in
      let shown : e.fflags ≡ notes =
      shows-notes ∙ sym (proc-notes due.knote.key.filter view due.knote due.seen is-proc (sees None is)) in
      absurd (no-child notes (accounted.0 is-proc).1 (subst (λ n. has_note n child_note ≡ true) shown tells.child))

  pub by-fork : Accounts
  by-fork = by-notice due.knote.notice refl

-- ---- the forks of a record

-- this fork is accounted for, where the kqueue follows the parent and has no knote of the child
abbrev pub AccountsFor : (ℕ → ℕ → Type 0) → ℕ → ℕ → Kqueue → Type 0
AccountsFor Q pid child kq =
    (k : Knote) → find_knote (process_key pid) kq.knotes ≡ Some k → follows pid k ≡ true
    → find_knote (process_key child) kq.knotes ≡ None → Q child pid

module _ (Q : ℕ → ℕ → Type 0) (pid child : ℕ) where
  heir-accounted : (found present : Option Knote) (q : Kqueue) → AreAccounted Q q
      → ((x : Knote) → found ≡ Some x → follows pid x ≡ true → present ≡ None → Q child pid)
      → AreAccounted Q (with_heir (heir (this_fork pid child) found present) q)
  unfolding heir with_heir
  heir-accounted None present q all gives = all
  heir-accounted (Some x) (Some y) q all gives = all
  heir-accounted (Some x) None q all gives =
      let made = child_knote (this_fork pid child) x in
      by_test (λ b. follows pid x ≡ b → AreAccounted Q (with_heir (cond b (Some made) None) q)) (follows pid x)
      (λ _ does. All-append (IsAccounted Q) q.knotes (made ∷ []) all
      (All-cons (IsAccounted Q) made []
      ((λ _. (tt, no_notes)), (λ parent is. subst (Q child) (same_Some pid parent is) (gives x refl does refl)))
      (All-nil (IsAccounted Q)))) (λ _ _. all) refl

  module _ (views : Views) (kq : Kqueue) (sound : IsSound kq) (gives : AccountsFor Q pid child kq) where
    abbrev heard : Kqueue
    heard = notified views (told pid child) kq

    abbrev left : Option Knote → Option Knote
    left found = option_and_then (λ (k : Knote). alerted views (hints_for k (told pid child)) k) found

    -- who follows after the fork did before, and who is not there was not
    parent-was : (found : Option Knote) (x : Knote) → left found ≡ Some x
        → (k : Knote) × (found ≡ Some k) × (follows pid x ≡ follows pid k)
    parent-was None x is = absurd (none-some x is)
    parent-was (Some k) x is = (k, refl, follows-as pid x k (subst (Stays k) is (stays-told pid child views k)))

    child-was : (found : Option Knote) → left found ≡ None → found ≡ None
    child-was None is = refl
    child-was (Some k) is = absurd (subst (Stays k) is (stays-told pid child views k))

    gives-then : (x : Knote) → find_knote (process_key pid) heard.knotes ≡ Some x → follows pid x ≡ true
        → find_knote (process_key child) heard.knotes ≡ None → Q child pid
    gives-then x here does none =
        let was = parent-was (find_knote (process_key pid) kq.knotes) x
        (sym (found-left pid child views kq sound (process_key pid)) ∙ here) in
        gives was.0 was.1 (sym was.2 ∙ does)
        (child-was (find_knote (process_key child) kq.knotes)
        (sym (found-left pid child views kq sound (process_key child)) ∙ none))

    fork-accounted : (version : ℕ) → AreAccounted Q heard → AreAccounted Q (followed version (told pid child) heard)
    unfolding all_forks forks_of followed_each
    fork-accounted version all =
        cond_both (version == 1) [] (all_forks (told pid child)) (λ (fs : List Fork). AreAccounted Q (followed_each fs heard)) (λ _. all)
        (λ _. heir-accounted (find_knote (process_key pid) heard.knotes) (find_knote (process_key child) heard.knotes) heard all
        gives-then)

-- ---- one live kqueue, in the step of a record

-- the record forks nobody, or this child
pub record IsFork (Q : ℕ → ℕ → Type 0) (m : Moment) (kq : Kqueue) : Type 0 where
  pub pid : ℕ
  pub child : ℕ
  pub closed : m.closed ≡ []
  pub told : m.hints ≡ told pid child
  pub gives : AccountsFor Q pid child kq

abbrev pub Brings : (ℕ → ℕ → Type 0) → Moment → Kqueue → Type 0
Brings Q m kq = (all_forks m.hints ≡ []) ⊎ IsFork Q m kq

abbrev pub IsKept : (ℕ → ℕ → Type 0) → Kqueue → Type 0
IsKept Q kq = IsSound kq × AreAccounted Q kq

module _ (Q : ℕ → ℕ → Type 0) (before : Views) (m : Moment) (childless : AreChildless m.hints) where
  abbrev after_hints : ℕ → List Pair → List Posted → Kqueue → Kqueue
  after_hints owner pairs hints kq = followed m.version hints (notified m.views hints (closed owner pairs kq))

  brought-accounted : (owner : ℕ) (kq : Kqueue) → IsSound kq → AreAccounted Q kq → Brings Q m kq
      → AreAccounted Q (after_hints owner m.closed m.hints kq)
  brought-accounted owner kq sound all (inl silent) =
      subst (AreAccounted Q) (sym (none-follow m.version m.hints (notified m.views m.hints (closed owner m.closed kq)) silent))
      (notified-accounted Q m.views m.hints (closed owner m.closed kq) childless (closed-accounted Q owner m.closed kq all))
  brought-accounted owner kq sound all (inr f) =
      subst (λ hints. AreAccounted Q (after_hints owner m.closed hints kq)) (sym f.told)
      (subst (λ pairs. AreAccounted Q (after_hints owner pairs (told f.pid f.child) kq)) (sym f.closed)
      (subst (λ (q : Kqueue). AreAccounted Q (followed m.version (told f.pid f.child) (notified m.views (told f.pid f.child) q)))
      (sym (closed_none owner kq))
      (fork-accounted Q f.pid f.child m.views kq sound f.gives m.version
      (notified-accounted Q m.views (told f.pid f.child) kq (subst AreChildless f.told childless) all))))

  happened-kept : (owner : ℕ) (kq : Kqueue) → IsKept Q kq → Brings Q m kq → IsKept Q (happened owner m kq)
  unfolding happened
  happened-kept owner kq kept brings = (
    happened-sound before m owner kq kept.0,
    clocked-accounted Q m.clock _ (brought-accounted owner kq kept.0 kept.1 brings),
  )

  pub after_call-kept : (place owner : ℕ) (c : Option Call) (kq : Kqueue) → IsKept Q kq → Brings Q m kq
      → IsKept Q (after_call place owner m c kq)
  unfolding after_call called_at
  after_call-kept place owner None kq kept brings = happened-kept owner kq kept brings
  after_call-kept place owner (Some c) kq kept brings =
      let next = happened-kept owner kq kept brings in
      let by = caller_at owner m in
      cond_both (c.kqueue == place) _ _ (IsKept Q)
      (λ _. (
        call-sound by c.room c.changes (happened owner m kq) next.0,
        call-accounted Q by c.room c.changes (happened owner m kq) next.1,
      )) (λ _. next)
