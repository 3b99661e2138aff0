-- What C asks of one kqueue, and what it is told.
use Rattle.std.specs.Prelude.{◌≡◌, ◌+◌, ℕ, ℤ, pos, neg_ℤ, Bool, ◌⊎◌, [], Option, Some, None, if◌then◌else◌}
use Rattle.kq_freebsd.specs.Answers.{reason_number, refusal_number}
use Rattle.kq_freebsd.specs.declared.refusal.Refusal.TheVariants.{Argument}
use Rattle.kq_freebsd.specs.Numbers.{filter_number}
use Rattle.kq_model.specs.declared.filter.Filter.{Filter}
use Rattle.kq_model.specs.declared.errno.Errno.TheVariants.{ENOENT}
use Rattle.kq_model.specs.declared.key.Key.{Key}
use Rattle.kq_model.specs.declared.why.Why.{Why}
use Rattle.kq_model.specs.DescriptorPlans.{plan_kevent}
use Rattle.kq_model.specs.Errno.{error_number}
use Rattle.kq_model.specs.Tallied.{Knote, Live}
use Rattle.kq_model.specs.World.{Impossible, views_of}
use Rattle.kq_process.specs.Effects.{IsPossible}
use Rattle.kq_process.specs.World.{world_of}
use Rattle.kq_system.specs.Asked.{IsNextIn, pending_in, registered_in}
use Rattle.kq_system.specs.Beginning.{live_named}
use Rattle.kq_system.specs.SystemState.{SystemState, system_of}
use Rattle.libkqsim.specs.declared.c_knote.CKnote.{CKnote}
use Rattle.libkqsim.specs.declared.asked.Answer.{Answer}
use Rattle.libkqsim.specs.declared.asked.Answer.TheVariants as answer
use Rattle.libkqsim.specs.declared.asked.Asked.{Asked}
use Rattle.libkqsim.specs.declared.asked.Question.{Question}
use Rattle.libkqsim.specs.declared.asked.Question.TheVariants as question

-- a call of kevent(2) by this number, with no changes and this room, is possible
abbrev pub IsCallable : ℕ → ℕ → ℕ → SystemState → Type 0
IsCallable pid fd room s = IsPossible (plan_kevent pid fd [] room (world_of s.world))

-- it is impossible, for this reason
abbrev pub IsUncallable : ℕ → ℕ → ℕ → SystemState → Why → Type 0
IsUncallable pid fd room s why = plan_kevent pid fd [] room (world_of s.world) ≡ Impossible why

-- the live kqueue that the number names
abbrev pub kqueue_of : ℕ → ℕ → SystemState → Option Live
kqueue_of pid fd s = live_named pid fd (system_of s)

-- ---- what the system tells

abbrev pub room_of : Question → ℕ
room_of question.Next = 0
room_of (question.Pending room) = room
room_of (question.Registered key) = 0

-- the answer is one to this question
abbrev pub IsTold : Asked → SystemState → Answer → Type 0
IsTold a s (answer.Next next) =
    (a.question ≡ question.Next) × IsCallable a.pid a.fd 0 s
    × IsNextIn (world_of s.world).now (kqueue_of a.pid a.fd s) next
IsTold a s (answer.Pending n) =
    (room : ℕ) × (a.question ≡ question.Pending room) × IsCallable a.pid a.fd room s
    × (n ≡ pending_in (views_of (world_of s.world)) room (kqueue_of a.pid a.fd s))
IsTold a s (answer.Registered knote) =
    (key : Key) × (a.question ≡ question.Registered key) × IsCallable a.pid a.fd 0 s
    × (knote ≡ registered_in key (kqueue_of a.pid a.fd s))
IsTold a s (answer.Impossible why) = IsUncallable a.pid a.fd (room_of a.question) s why

-- ---- what C is told

-- a call is impossible: the number is that of the reason
abbrev pub IsReason : ℕ → ℕ → ℕ → SystemState → ℤ → Type 0
IsReason pid fd room s number = (why : Why) × IsUncallable pid fd room s why × (number ≡ reason_number why)

-- a moment in nanoseconds, or -1 for none
abbrev pub moment_number : Option ℕ → ℤ
moment_number None = neg_ℤ (pos 1)
moment_number (Some moment) = pos moment

-- the number is 0 and the moment is the next one, or the number is a reason and the moment is as it was
abbrev pub IsNextTold : ℕ → ℕ → SystemState → ℤ → ℤ → ℤ → Type 0
IsNextTold pid fd s before after number =
    ((next : Option ℕ) × IsCallable pid fd 0 s × IsNextIn (world_of s.world).now (kqueue_of pid fd s) next
    × (after ≡ moment_number next) × (number ≡ pos 0))
    ⊎ (IsReason pid fd 0 s number × (after ≡ before))

-- the same of the count of pending events
abbrev pub IsPendingTold : ℕ → ℕ → ℕ → SystemState → ℕ → ℕ → ℤ → Type 0
IsPendingTold pid fd room s before after number =
    (IsCallable pid fd room s × (after ≡ pending_in (views_of (world_of s.world)) room (kqueue_of pid fd s))
    × (number ≡ pos 0))
    ⊎ (IsReason pid fd room s number × (after ≡ before))

-- a bit, where it is set
abbrev pub bit_if : Bool → ℕ → ℕ
bit_if set bit = if set then bit else 0

-- a knote as C has it: of the flags ONESHOT, CLEAR and DISPATCH
abbrev pub knote_as_c : Knote → CKnote
knote_as_c k = record {
  udata = k.udata;
  datum = k.datum;
  fflags = k.fflags;
  flags = bit_if k.oneshot 16 + bit_if k.clear 32 + bit_if k.dispatch 128;
  enabled = k.enabled;
  active = k.active;
}

abbrev pub IsFound : Option Knote → CKnote → CKnote → ℤ → Type 0
IsFound None before after number = (number ≡ pos (error_number ENOENT)) × (after ≡ before)
IsFound (Some k) before after number = (number ≡ pos 0) × (after ≡ knote_as_c k)

-- the number is 0 and the knote is the one of this key; or there is none, which is ENOENT; or the number is a reason
abbrev pub IsFoundTold : ℕ → ℕ → Key → SystemState → CKnote → CKnote → ℤ → Type 0
IsFoundTold pid fd key s before after number =
    (IsCallable pid fd 0 s × IsFound (registered_in key (kqueue_of pid fd s)) before after number)
    ⊎ (IsReason pid fd 0 s number × (after ≡ before))

-- the same for the filter of this number; where there is none, the argument is none that the call takes
abbrev pub IsFoundBy : ℕ → ℕ → ℕ → ℤ → SystemState → CKnote → CKnote → ℤ → Type 0
IsFoundBy pid fd ident filter s before after number =
    ((f : Filter) × (filter_number f ≡ filter)
    × IsFoundTold pid fd (record { ident = ident; filter = f }) s before after number)
    ⊎ (((f : Filter) → filter_number f ≡ filter → ⊥) × (number ≡ refusal_number Argument) × (after ≡ before))
