-- Where a retrieval looks, and what becomes of each kevent: one thing, and no other.
use Rattle.std.proofs.Common.{◌≡◌, ℕ, zero, suc, Bool, true, false, cond, not, ◌&&◌, ◌||◌, List, [], ◌∷◌, map, take, length, Option, Some, None, refl, sym, ap, ◌∙◌}
use Rattle.std.proofs.Math.Seq.{take-nil}
use Rattle.std.proofs.lemmas.Bool.{true≢false, or_parts, and_parts}
use Rattle.std.proofs.lemmas.Option.{none-some, same_Some}
use Rattle.std.specs.List.{filter_map, cons_option}
use Rattle.std.specs.Option.{is_some, option_map}
use Rattle.std.specs.Prelude.{option_and_then}
use Rattle.kq_model.specs.declared.kevent.Kevent.{Kevent}
use Rattle.kq_model.specs.declared.key.Key.{Key}
use Rattle.kq_model.specs.CallLaws.{key_of_event}
use Rattle.kq_model.specs.Knote.{key_eq, has_key, find_knote}
use Rattle.kq_model.specs.Kqueue.{is_waiting, IsSound}
use Rattle.kq_model.specs.Look.{Seen, look}
use Rattle.kq_model.specs.Retrieval.{event_of, retrieval}
use Rattle.kq_model.specs.Tallied.{Knote, Kqueue}
use Rattle.kq_model.specs.Views.{Views}
use Rattle.kq_model.proofs.KeyLaws.{same_key}
use Rattle.kq_model.proofs.KnoteLaws.{by_test, find_knote-key}
use Rattle.kq_kevent.proofs.SoundLaws.{waiting-none, waiting-some}
use Rattle.kq_judge.specs.declared.absence.Absence.TheVariants.{NotRegistered, Disabled, NotActive, Idle}
use Rattle.kq_judge.specs.declared.verdict.Outcome.{Outcome}
use Rattle.kq_judge.specs.declared.verdict.Outcome.TheVariants as outcome
use Rattle.kq_judge.specs.declared.verdict.Verdict.{Verdict}
use Rattle.kq_judge.specs.declared.verdict.Verdict.TheVariants.{Returned, Absent, RoomWasFull, EntriesPlaced, CallFailed}
use Rattle.kq_judge.specs.Allowed.{event_seen, event_due}
use Rattle.kq_judge.specs.Pending.{IsPending, IsAbsence}
use Rattle.kq_judge.specs.Verdicts.{room_after, looked_at, verdict_in_queue, keys_looked_at, ReturnsOfThoseLookedAt, IsVerdict}
use Rattle.kq_judge.proofs.FirstLaws.{returns_first}
use Rattle.kq_judge.proofs.PendingLaws.{event_of-key, pending-due, pending-queued}

-- ---- where a retrieval looks

module _ (due : Key → Option Kevent) where
  -- the first events are those of the keys that are looked at
  first-looked : (queue : List Key) (room : ℕ)
      → take room (filter_map due queue) ≡ filter_map due (looked_at due room queue)
  unfolding looked_at
  first-looked [] room = take-nil room
  first-looked (key ∷ queue) zero = refl
  first-looked (key ∷ queue) (suc room) = by (due key) (λ left. first-looked queue left)
    where
      by : (o : Option Kevent)
          → ((left : ℕ) → take left (filter_map due queue) ≡ filter_map due (looked_at due left queue))
          → take (suc room) (cons_option o (filter_map due queue))
          ≡ cons_option o (filter_map due (looked_at due (room_after o room) queue))
      by None later = later (suc room)
      by (Some e) later = ap (λ (es : List Kevent). e ∷ es) (later room)

  looked-queued : (key : Key) (queue : List Key) (room : ℕ) → has_key key (looked_at due room queue) ≡ true
      → has_key key queue ≡ true
  unfolding looked_at
  looked-queued key [] room there = absurd (true≢false (sym there))
  looked-queued key (x ∷ queue) zero there = absurd (true≢false (sym there))
  looked-queued key (x ∷ queue) (suc room) there =
      by_test (λ b. b || has_key key (looked_at due (room_after (due x) room) queue) ≡ true
      → b || has_key key queue ≡ true) (key_eq key x)
      (λ _ _. refl) (λ _ later. looked-queued key queue (room_after (due x) room) later) there

  -- where a key of the queue was not looked at, the room was full
  full-unlooked : (key : Key) (queue : List Key) (room : ℕ) → has_key key queue ≡ true
      → has_key key (looked_at due room queue) ≡ false
      → length (filter_map due (looked_at due room queue)) ≡ room
  unfolding looked_at
  full-unlooked key [] room there unlooked = absurd (true≢false (sym there))
  full-unlooked key (x ∷ queue) zero there unlooked = refl
  full-unlooked key (x ∷ queue) (suc room) there unlooked =
      let parts = or_parts (key_eq key x) (has_key key (looked_at due (room_after (due x) room) queue)) unlooked in
      let later : has_key key queue ≡ true = ap (λ b. b || has_key key queue) (sym parts.0) ∙ there in
      by (due x) (full-unlooked key queue (room_after (due x) room) later parts.1)
    where
      by : (o : Option Kevent) → length (filter_map due (looked_at due (room_after o room) queue)) ≡ room_after o room
          → length (cons_option o (filter_map due (looked_at due (room_after o room) queue))) ≡ suc room
      by None is = is
      by (Some e) is = ap suc is

  -- the keys of the events of some keys
  has_key-events : ((key : Key) (e : Kevent) → due key ≡ Some e → key_of_event e ≡ key) → (key : Key) (keys : List Key)
      → has_key key (map key_of_event (filter_map due keys)) ≡ has_key key keys && is_some (due key)
  has_key-events named key [] = refl
  has_key-events named key (x ∷ keys) = by (has_key-events named key keys) (due x) refl
    where
      and_off : (a : Bool) → a && false ≡ false
      and_off true = refl
      and_off false = refl

      by : has_key key (map key_of_event (filter_map due keys)) ≡ has_key key keys && is_some (due key)
          → (o : Option Kevent) → due x ≡ o → has_key key (map key_of_event (cons_option o (filter_map due keys)))
          ≡ (key_eq key x || has_key key keys) && is_some (due key)
      by rest None is =
          rest ∙ by_test (λ b. key_eq key x ≡ b → has_key key keys && is_some (due key)
          ≡ (b || has_key key keys) && is_some (due key)) (key_eq key x)
          (λ _ same. let off : is_some (due key) ≡ false = ap (λ (k : Key). is_some (due k)) (same_key key x same)
          ∙ ap is_some is in
          ap (λ b. has_key key keys && b) off ∙ and_off (has_key key keys) ∙ sym off)
          (λ _ _. refl) refl
      by rest (Some e) is =
          ap (λ (k : Key). key_eq key k || has_key key (map key_of_event (filter_map due keys))) (named x e is)
          ∙ by_test (λ b. key_eq key x ≡ b → b || has_key key (map key_of_event (filter_map due keys))
          ≡ (b || has_key key keys) && is_some (due key)) (key_eq key x)
          (λ _ same. sym (ap (λ (k : Key). is_some (due k)) (same_key key x same) ∙ ap is_some is))
          (λ _ _. rest) refl

-- an event that is due names its key
due-key : (views : Views) (ks : List Knote) (key : Key) (e : Kevent) → event_due views ks key ≡ Some e
    → key_of_event e ≡ key
due-key views ks key e is = by (find_knote key ks) refl is
  where
    seen : (k : Knote) (s : Option Seen) → option_map (event_of k) s ≡ Some e → key_of_event e ≡ k.key
    seen k None none = absurd (none-some e none)
    seen k (Some s) some = ap key_of_event (sym (same_Some (event_of k s) e some)) ∙ event_of-key k s

    by : (f : Option Knote) → find_knote key ks ≡ f → option_and_then (event_seen views) f ≡ Some e
        → key_of_event e ≡ key
    by None found none = absurd (none-some e none)
    by (Some k) found some = seen k (look views k) some ∙ sym (find_knote-key key ks k found)

pub returns_looked : (views : Views) (room : ℕ) (kq : Kqueue) → IsSound kq → ReturnsOfThoseLookedAt views room kq
returns_looked views room kq sound =
    returns_first views room kq sound ∙ first-looked (event_due views kq.knotes) kq.queue room

-- what was returned was looked at, and had an event
returned-is : (views : Views) (room : ℕ) (kq : Kqueue) (key : Key) → IsSound kq
    → has_key key (map key_of_event (retrieval views room kq).events)
    ≡ has_key key (keys_looked_at (outcome.Read room) views kq) && is_some (event_due views kq.knotes key)
returned-is views room kq key sound =
    ap (λ (es : List Kevent). has_key key (map key_of_event es)) (returns_looked views room kq sound)
    ∙ has_key-events (event_due views kq.knotes) (due-key views kq.knotes) key
    (looked_at (event_due views kq.knotes) room kq.queue)

full-events : (views : Views) (room : ℕ) (kq : Kqueue) (key : Key) → IsSound kq → has_key key kq.queue ≡ true
    → has_key key (keys_looked_at (outcome.Read room) views kq) ≡ false
    → length (retrieval views room kq).events ≡ room
full-events views room kq key sound there unlooked =
    ap (length {A = Kevent}) (returns_looked views room kq sound)
    ∙ full-unlooked (event_due views kq.knotes) key kq.queue room there unlooked

-- ---- there is a verdict

pub verdict-pending : (end : Outcome) (views : Views) (kq : Kqueue) (key : Key) (e : Kevent) → IsSound kq
    → IsPending views kq.knotes key e
    → IsVerdict end views kq key (verdict_in_queue end (has_key key (keys_looked_at end views kq)) Returned)
verdict-pending outcome.Failed views kq key e sound p = (refl, pending-queued views kq key e sound p)
verdict-pending outcome.EntriesPlaced views kq key e sound p = (refl, pending-queued views kq key e sound p)
verdict-pending (outcome.Read room) views kq key e sound p =
    let queued = pending-queued views kq key e sound p in
    let looked = has_key key (keys_looked_at (outcome.Read room) views kq) in
    by_test (λ b. looked ≡ b → IsVerdict (outcome.Read room) views kq key (cond b Returned RoomWasFull)) looked
    (λ _ there. returned-is views room kq key sound ∙ ap (λ b. b && is_some (event_due views kq.knotes key)) there
    ∙ ap is_some (pending-due views kq.knotes key e p))
    (λ _ off. (queued, off, full-events views room kq key sound queued off)) refl

-- a key of the queue, by its knote
idle-queued : (views : Views) (kq : Kqueue) (key : Key) → IsSound kq → IsAbsence views kq.knotes key Idle
    → has_key key kq.queue ≡ true
idle-queued views kq key sound idle =
    sound.waiting key ∙ ap is_waiting idle.1 ∙ waiting-some idle.0 ∙ ap (λ b. b && idle.0.enabled) idle.3 ∙ idle.2

pub verdict-idle : (end : Outcome) (views : Views) (kq : Kqueue) (key : Key) → IsSound kq
    → IsAbsence views kq.knotes key Idle
    → IsVerdict end views kq key (verdict_in_queue end (has_key key (keys_looked_at end views kq)) (Absent Idle))
verdict-idle outcome.Failed views kq key sound idle = (refl, idle-queued views kq key sound idle)
verdict-idle outcome.EntriesPlaced views kq key sound idle = (refl, idle-queued views kq key sound idle)
verdict-idle (outcome.Read room) views kq key sound idle =
    let queued = idle-queued views kq key sound idle in
    let looked = has_key key (keys_looked_at (outcome.Read room) views kq) in
    by_test (λ b. looked ≡ b → IsVerdict (outcome.Read room) views kq key (cond b (Absent Idle) RoomWasFull)) looked
    (λ _ there. (idle, there))
    (λ _ off. (queued, off, full-events views room kq key sound queued off)) refl

-- ---- and no other

found_by : Option Seen → Verdict
found_by None = Absent Idle
found_by (Some seen) = Returned

-- the one that it is
the_verdict : Outcome → Views → Bool → Option Knote → Verdict
the_verdict end views looked None = Absent NotRegistered
the_verdict end views looked (Some k) =
    cond (not k.enabled) (Absent Disabled) (cond (not k.active) (Absent (NotActive (is_some (look views k))))
    (verdict_in_queue end looked (found_by (look views k))))

abbrev of_key : Outcome → Views → Kqueue → Key → Verdict
of_key end views kq key =
    the_verdict end views (has_key key (keys_looked_at end views kq)) (find_knote key kq.knotes)

-- a knote that waits
record Waits (kq : Kqueue) (key : Key) : Type 0 where
  knote : Knote
  found : find_knote key kq.knotes ≡ Some knote
  enabled : knote.enabled ≡ true
  active : knote.active ≡ true

queued-waits : (kq : Kqueue) (key : Key) → IsSound kq → has_key key kq.queue ≡ true → Waits kq key
queued-waits kq key sound there = by (find_knote key kq.knotes) refl (sym (sound.waiting key) ∙ there)
  where
    by : (f : Option Knote) → find_knote key kq.knotes ≡ f → is_waiting f ≡ true → Waits kq key
    by None found waits = absurd (true≢false (sym waits ∙ waiting-none))
    by (Some k) found waits =
        let both = and_parts k.active k.enabled (sym (waiting-some k) ∙ waits) in
        record { knote = k; found = found; enabled = both.1; active = both.0 }

the-waiting : (end : Outcome) (views : Views) (kq : Kqueue) (key : Key) (looked : Bool) (w : Waits kq key)
    → the_verdict end views looked (find_knote key kq.knotes)
    ≡ verdict_in_queue end looked (found_by (look views w.knote))
unfolding the_verdict
the-waiting end views kq key looked w =
    ap (the_verdict end views looked) w.found
    ∙ ap (λ b. cond (not b) (Absent Disabled)
    (cond (not w.knote.active) (Absent (NotActive (is_some (look views w.knote))))
    (verdict_in_queue end looked (found_by (look views w.knote))))) w.enabled
    ∙ ap (λ b. cond (not b) (Absent (NotActive (is_some (look views w.knote))))
    (verdict_in_queue end looked (found_by (look views w.knote)))) w.active

the-read : (views : Views) (room : ℕ) (kq : Kqueue) (key : Key) → IsSound kq
    → has_key key (map key_of_event (retrieval views room kq).events) ≡ true
    → Returned ≡ of_key (outcome.Read room) views kq key
unfolding found_by
the-read views room kq key sound returned =
    let both = and_parts (has_key key (keys_looked_at (outcome.Read room) views kq))
    (is_some (event_due views kq.knotes key)) (sym (returned-is views room kq key sound) ∙ returned) in
    let w = queued-waits kq key sound
    (looked-queued (event_due views kq.knotes) key kq.queue room both.0) in
    sym (the-waiting (outcome.Read room) views kq key (has_key key (keys_looked_at (outcome.Read room) views kq)) w
    ∙ ap (λ b. cond b (found_by (look views w.knote)) RoomWasFull) both.0
    ∙ seen w.knote (look views w.knote)
    (sym (ap (λ (o : Option Knote). is_some (option_and_then (event_seen views) o)) w.found) ∙ both.1))
  where
    seen : (k : Knote) (s : Option Seen) → is_some (option_map (event_of k) s) ≡ true → found_by s ≡ Returned
    seen k None none = absurd (true≢false (sym none))
    seen k (Some s) some = refl

verdict-is : (end : Outcome) (views : Views) (kq : Kqueue) (key : Key) (v : Verdict) → IsSound kq
    → IsVerdict end views kq key v → v ≡ of_key end views kq key
unfolding the_verdict found_by
verdict-is end views kq key (Absent NotRegistered) sound is =
    sym (ap (the_verdict end views (has_key key (keys_looked_at end views kq))) is)
verdict-is end views kq key (Absent Disabled) sound is =
    sym (ap (the_verdict end views (has_key key (keys_looked_at end views kq))) is.1
    ∙ ap (λ b. cond (not b) (Absent Disabled) (cond (not is.0.active) (Absent (NotActive (is_some (look views is.0))))
    (verdict_in_queue end (has_key key (keys_looked_at end views kq)) (found_by (look views is.0))))) is.2)
verdict-is end views kq key (Absent (NotActive holds)) sound is =
    sym (ap (the_verdict end views (has_key key (keys_looked_at end views kq))) is.1
    ∙ ap (λ b. cond (not b) (Absent Disabled) (cond (not is.0.active) (Absent (NotActive (is_some (look views is.0))))
    (verdict_in_queue end (has_key key (keys_looked_at end views kq)) (found_by (look views is.0))))) is.2
    ∙ ap (λ b. cond (not b) (Absent (NotActive (is_some (look views is.0))))
    (verdict_in_queue end (has_key key (keys_looked_at end views kq)) (found_by (look views is.0)))) is.3
    ∙ ap (λ b. Absent (NotActive b)) (sym is.4))
verdict-is (outcome.Read room) views kq key (Absent Idle) sound is =
    let w : Waits kq key = record { knote = is.0.0; found = is.0.1; enabled = is.0.2; active = is.0.3 } in
    sym (the-waiting (outcome.Read room) views kq key (has_key key (keys_looked_at (outcome.Read room) views kq)) w
    ∙ ap (λ b. cond b (found_by (look views is.0.0)) RoomWasFull) is.1 ∙ ap found_by is.0.4)
verdict-is outcome.EntriesPlaced views kq key (Absent Idle) sound is = absurd (true≢false (sym is.1))
verdict-is outcome.Failed views kq key (Absent Idle) sound is = absurd (true≢false (sym is.1))
verdict-is (outcome.Read room) views kq key Returned sound is = the-read views room kq key sound is
verdict-is outcome.EntriesPlaced views kq key Returned sound is = absurd is
verdict-is outcome.Failed views kq key Returned sound is = absurd is
verdict-is (outcome.Read room) views kq key RoomWasFull sound is =
    let w = queued-waits kq key sound is.0 in
    sym (the-waiting (outcome.Read room) views kq key (has_key key (keys_looked_at (outcome.Read room) views kq)) w
    ∙ ap (λ b. cond b (found_by (look views w.knote)) RoomWasFull) is.1)
verdict-is outcome.EntriesPlaced views kq key RoomWasFull sound is = absurd is
verdict-is outcome.Failed views kq key RoomWasFull sound is = absurd is
verdict-is end views kq key EntriesPlaced sound is =
    let w = queued-waits kq key sound is.1 in
    let looked = has_key key (keys_looked_at end views kq) in
    sym (the-waiting end views kq key looked w
    ∙ ap (λ (o : Outcome). verdict_in_queue o looked (found_by (look views w.knote))) is.0)
verdict-is end views kq key CallFailed sound is =
    let w = queued-waits kq key sound is.1 in
    let looked = has_key key (keys_looked_at end views kq) in
    sym (the-waiting end views kq key looked w
    ∙ ap (λ (o : Outcome). verdict_in_queue o looked (found_by (look views w.knote))) is.0)

pub verdict-alone : (end : Outcome) (views : Views) (kq : Kqueue) (key : Key) (v other : Verdict) → IsSound kq
    → IsVerdict end views kq key v → IsVerdict end views kq key other → other ≡ v
verdict-alone end views kq key v other sound is too =
    verdict-is end views kq key other sound too ∙ sym (verdict-is end views kq key v sound is)
