-- What contracts see of a live system and of its seats, and what its calls promise.
use Rattle.std.specs.Prelude.{◌≡◌, ℕ, ◌-◌, ◌^◌, ◌≤◌, Some, List, ◌∷◌, [], ◌++◌}
use Rattle.std.specs.Prelude.{length, map}
use mathlib.Core.List.{IsPrefix}
use Rattle.kq_lock.specs.declared.entry.Entry.{Entry}
use Rattle.kq_lock.specs.declared.view.Call.{Call}
use Rattle.kq_lock.specs.Calls.{calls_by, call_of}
use Rattle.kq_lock.specs.Seats.{LockName, Seated, own_calls}
use Rattle.kq_model.specs.declared.event.Event.{Event}
use Rattle.kq_model.specs.declared.reply.Reply.{Reply}
use Rattle.kq_live.specs.declared.machine.LiveMachine.{LiveMachine}
use Rattle.kq_model.specs.Limits.{IsVersion}
use Rattle.kq_live.specs.LiveSteps.{IsEmpty}
use Rattle.kq_live.specs.Recorded.{Recorded}
use Rattle.kq_live.specs.Replies.{replies}

-- a live system: its lock, and the version of the format of its events
pub record LiveName : Type 0 where
  pub lock : LockName LiveMachine
  pub version : ℕ

abbrev pub LiveSeated : Type 0
LiveSeated = Seated LiveMachine Event Reply

abbrev pub LiveCall : Type 0
LiveCall = Call Event Reply

abbrev pub events_of : List LiveCall → List Event
events_of log = map (λ (c : LiveCall). c.step) log

abbrev pub replies_of : List LiveCall → List Reply
replies_of log = map (λ (c : LiveCall). c.answer) log

-- each reply of the history is the one that the fold of its events gives there
abbrev pub Replays : ℕ → List LiveCall → Type 0
Replays version log = replies_of log ≡ replies version (events_of log)

-- the lock was opened on the empty system, with no more tickets than there can be events
abbrev pub OpensEmpty : LockName LiveMachine → ℕ → Type 0
OpensEmpty lock version =
    (o : LiveMachine) × (lock.opening ≡ Some o) × IsEmpty version o × IsVersion version
    × (lock.last ≤ 2 ^ 31 - 1)

-- The seat v called the system with this event and got this reply, and is w afterwards. All that it had seen
-- begins what it sees now, which ends with this call, replays, and has each call of the seat once.
pub record IsCalled (version : ℕ) (v w : LiveSeated) (event : Event) (at : ℕ) (reply : Reply) (seen_len : ℕ)
    : Type 0 where
  pub same : w ≡ record v { seen = w.seen }
  pub begins : IsPrefix v.seen w.seen
  pub replays : Replays version w.seen
  pub ends : (log : List LiveCall) × (w.seen ≡ log ++ call_of v.number (record { step = event; answer = reply })
      ∷ [])
  pub own : own_calls w ≡ own_calls v ++ call_of v.number (record { step = event; answer = reply }) ∷ []
  pub place : at ≡ length w.seen
  pub shorter : seen_len ≡ length v.seen

-- The book has all calls of the system, as the last seat finds them: what the seat has seen begins them, and they
-- have no further call of the seat.
pub record IsWhole (live : LiveName) (v : LiveSeated) (book : Recorded) : Type 0 where
  pub log : List LiveCall
  pub version : book.version ≡ live.version
  pub events : book.events ≡ events_of log
  pub replies : book.replies ≡ replies_of log
  pub seen : IsPrefix v.seen log
  pub short : length log ≤ live.lock.last
  pub own : own_calls v ≡ calls_by v.number log
