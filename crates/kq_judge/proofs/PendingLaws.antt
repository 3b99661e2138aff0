-- What is pending: the keys in the queue whose knotes' conditions hold, each with one event.
use Rattle.std.proofs.Common.{◌≡◌, true, ◌&&◌, List, Option, Some, None, refl, sym, ap, ◌∙◌}
use Rattle.std.proofs.lemmas.Bool.{true≢false, and_parts}
use Rattle.std.proofs.lemmas.Option.{none-some, same_Some}
use Rattle.std.specs.Option.{option_map}
use Rattle.std.specs.Prelude.{option_and_then}
use Rattle.kq_model.specs.declared.kevent.Kevent.{Kevent}
use Rattle.kq_model.specs.declared.key.Key.{Key}
use Rattle.kq_model.specs.CallLaws.{key_of_event}
use Rattle.kq_model.specs.Knote.{has_key, find_knote}
use Rattle.kq_model.specs.Kqueue.{is_waiting, IsSound}
use Rattle.kq_model.specs.Look.{Seen, look}
use Rattle.kq_model.specs.Retrieval.{event_of}
use Rattle.kq_model.specs.Tallied.{Knote, Kqueue}
use Rattle.kq_model.specs.Views.{Views}
use Rattle.kq_model.proofs.KnoteLaws.{find_knote-key}
use Rattle.kq_kevent.proofs.SoundLaws.{waiting-none, waiting-some}
use Rattle.kq_judge.specs.declared.absence.Absence.{Absence}
use Rattle.kq_judge.specs.declared.absence.Absence.TheVariants.{NotRegistered, Disabled, NotActive, Idle}
use Rattle.kq_judge.specs.Allowed.{event_seen, event_due}
use Rattle.kq_judge.specs.Pending.{IsPending, IsAbsence}

pub event_of-key : (k : Knote) (seen : Seen) → key_of_event (event_of k seen) ≡ k.key
unfolding event_of
event_of-key k seen = refl

-- an event names its kevent
pub pending-key : (views : Views) (ks : List Knote) (key : Key) (e : Kevent) → IsPending views ks key e
    → key_of_event e ≡ key
pending-key views ks key e p =
    ap key_of_event p.is ∙ event_of-key p.knote p.seen ∙ sym (find_knote-key key ks p.knote p.found)

pub pending-due : (views : Views) (ks : List Knote) (key : Key) (e : Kevent) → IsPending views ks key e
    → event_due views ks key ≡ Some e
pending-due views ks key e p =
    ap (option_and_then (event_seen views)) p.found ∙ ap (option_map (event_of p.knote)) p.holds
    ∙ ap (λ (x : Kevent). Some x) (sym p.is)

-- so one key has one event
pub pending-one : (views : Views) (ks : List Knote) (key : Key) (e other : Kevent) → IsPending views ks key e
    → IsPending views ks key other → e ≡ other
pending-one views ks key e other p q =
    same_Some e other (sym (pending-due views ks key e p) ∙ pending-due views ks key other q)

-- in a sound kqueue it stands in the queue
pub pending-queued : (views : Views) (kq : Kqueue) (key : Key) (e : Kevent) → IsSound kq
    → IsPending views kq.knotes key e → has_key key kq.queue ≡ true
pending-queued views kq key e sound p =
    sound.waiting key ∙ ap is_waiting p.found ∙ waiting-some p.knote ∙ ap (λ b. b && p.knote.enabled) p.active
    ∙ p.enabled

-- a knote that waits, and what it sees
pending_of : (views : Views) (ks : List Knote) (key : Key) (e : Kevent) (f : Option Knote) → find_knote key ks ≡ f
    → is_waiting f ≡ true → option_and_then (event_seen views) f ≡ Some e → IsPending views ks key e
pending_of views ks key e None found waits due = absurd (true≢false (sym waits ∙ waiting-none))
pending_of views ks key e (Some k) found waits due = by (look views k) refl due
  where
    by : (s : Option Seen) → look views k ≡ s → option_map (event_of k) s ≡ Some e → IsPending views ks key e
    by None looks is = absurd (none-some e is)
    by (Some seen) looks is =
        let both = and_parts k.active k.enabled (sym (waiting-some k) ∙ waits) in
        record {
          knote = k;
          seen = seen;
          found = found;
          enabled = both.1;
          active = both.0;
          holds = looks;
          is = sym (same_Some (event_of k seen) e is);
        }

pub due-pending : (views : Views) (kq : Kqueue) (key : Key) (e : Kevent) → IsSound kq → has_key key kq.queue ≡ true
    → event_due views kq.knotes key ≡ Some e → IsPending views kq.knotes key e
due-pending views kq key e sound there due =
    pending_of views kq.knotes key e (find_knote key kq.knotes) refl (sym (sound.waiting key) ∙ there) due

-- what has a reason to be absent is not pending
pub absence-pending : (views : Views) (ks : List Knote) (key : Key) (e : Kevent) (absence : Absence)
    → IsAbsence views ks key absence → IsPending views ks key e → ⊥
absence-pending views ks key e NotRegistered absent p = none-some p.knote (sym absent ∙ p.found)
absence-pending views ks key e Disabled absent p =
    true≢false (sym p.enabled ∙ ap (λ (k : Knote). k.enabled) (same_Some p.knote absent.0 (sym p.found ∙ absent.1))
    ∙ absent.2)
absence-pending views ks key e (NotActive holds) absent p =
    true≢false (sym p.active ∙ ap (λ (k : Knote). k.active) (same_Some p.knote absent.0 (sym p.found ∙ absent.1))
    ∙ absent.3)
absence-pending views ks key e Idle absent p =
    none-some p.seen (sym absent.4 ∙ ap (look views) (same_Some absent.0 p.knote (sym absent.1 ∙ p.found)) ∙ p.holds)
