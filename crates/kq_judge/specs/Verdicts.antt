-- What became of each kevent in a call: one verdict, and no other.
use Rattle.std.specs.Prelude.{◌≡◌, ℕ, suc, zero, Bool, true, false, List, [], ◌∷◌, map, length}
use Rattle.std.specs.Prelude.{Option, Some, None}
use Rattle.std.specs.Prelude.{if◌then◌else◌}
use Rattle.std.specs.List.{filter_map}
use Rattle.kq_model.specs.declared.kevent.Kevent.{Kevent}
use Rattle.kq_model.specs.declared.key.Key.{Key}
use Rattle.kq_model.specs.CallLaws.{key_of_event}
use Rattle.kq_model.specs.Hearing.{Hearing}
use Rattle.kq_model.specs.Knote.{has_key}
use Rattle.kq_model.specs.Kqueue.{Kqueue}
use Rattle.kq_model.specs.Retrieval.{retrieval}
use Rattle.kq_model.specs.Views.{Views}
use Rattle.kq_judge.specs.declared.absence.Absence.TheVariants.{NotRegistered, Disabled, NotActive, Idle}
use Rattle.kq_judge.specs.declared.verdict.Outcome.{Outcome}
use Rattle.kq_judge.specs.declared.verdict.Outcome.TheVariants as outcome
use Rattle.kq_judge.specs.declared.verdict.Verdict.{Verdict}
use Rattle.kq_judge.specs.declared.verdict.Verdict.TheVariants.{Returned, Absent, RoomWasFull, EntriesPlaced}
use Rattle.kq_judge.specs.declared.verdict.Verdict.TheVariants.{CallFailed}
use Rattle.kq_judge.specs.Allowed.{event_due}
use Rattle.kq_judge.specs.Pending.{IsAbsence}

-- ---- at which knotes a retrieval looks

-- an event takes up room
abbrev pub room_after : Option Kevent → ℕ → ℕ
room_after None room = suc room
room_after (Some e) room = room

-- The keys at whose knotes a retrieval looks, where `due` gives the event of a key: those of the queue from its front,
-- until there is no room for another event.
unfoldable pub looked_at : (Key → Option Kevent) → ℕ → List Key → List Key
looked_at due room [] = []
looked_at due zero (key ∷ queue) = []
looked_at due (suc room) (key ∷ queue) = key ∷ looked_at due (room_after (due key) room) queue

-- the fact holds of the room of a call that read events
abbrev pub OnRead : Outcome → (ℕ → Type 0) → Type 0
OnRead (outcome.Read room) P = P room
OnRead outcome.EntriesPlaced P = ⊥
OnRead outcome.Failed P = ⊥

-- a key in the queue: what was found at its knote, where it was looked at
abbrev pub verdict_in_queue : Outcome → Bool → Verdict → Verdict
verdict_in_queue (outcome.Read room) looked found = if looked then found else RoomWasFull
verdict_in_queue outcome.EntriesPlaced looked found = EntriesPlaced
verdict_in_queue outcome.Failed looked found = CallFailed

module _ {S : Type 0} {h : Hearing S} where
  -- the keys at which a call looks; it reads no events where it failed, or placed entries
  abbrev pub keys_looked_at : Outcome → Views → Kqueue h → List Key
  keys_looked_at (outcome.Read room) views kq = looked_at (event_due views kq.knotes) room kq.queue
  keys_looked_at outcome.EntriesPlaced views kq = []
  keys_looked_at outcome.Failed views kq = []

  -- what is looked at gives the events: so this is where the retrieval looked
  abbrev pub ReturnsOfThoseLookedAt : Views → ℕ → Kqueue h → Type 0
  ReturnsOfThoseLookedAt views room kq =
      (retrieval views room kq).events
      ≡ filter_map (event_due views kq.knotes) (keys_looked_at (outcome.Read room) views kq)

  -- Where a knote is not registered, disabled or not active, that is why, whatever the call did. Else it stands in the
  -- queue, and it comes to how the call ended and to the look at it.
  abbrev pub IsVerdict : Outcome → Views → Kqueue h → Key → Verdict → Type 0
  IsVerdict end views kq key (Absent NotRegistered) = IsAbsence views kq.knotes key NotRegistered
  IsVerdict end views kq key (Absent Disabled) = IsAbsence views kq.knotes key Disabled
  IsVerdict end views kq key (Absent (NotActive holds)) = IsAbsence views kq.knotes key (NotActive holds)
  IsVerdict end views kq key (Absent Idle) =
      IsAbsence views kq.knotes key Idle × (has_key key (keys_looked_at end views kq) ≡ true)
  IsVerdict end views kq key Returned =
      OnRead end (λ room. has_key key (map key_of_event (retrieval views room kq).events) ≡ true)
  IsVerdict end views kq key RoomWasFull =
      OnRead end (λ room. (has_key key kq.queue ≡ true) × (has_key key (keys_looked_at end views kq) ≡ false)
      × (length (retrieval views room kq).events ≡ room))
  IsVerdict end views kq key EntriesPlaced = (end ≡ outcome.EntriesPlaced) × (has_key key kq.queue ≡ true)
  IsVerdict end views kq key CallFailed = (end ≡ outcome.Failed) × (has_key key kq.queue ≡ true)
