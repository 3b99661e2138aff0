-- The steps of the system as a machine under the lock.
use Rattle.std.specs.Prelude.{◌≡◌, ℕ, ◌+◌}
use Rattle.kq_model.specs.declared.event.Event.{Event}
use Rattle.kq_model.specs.declared.reply.Reply.{Reply}
use Rattle.kq_model.specs.System.{empty_system}
use Rattle.kq_system.specs.SystemState.{IsStep, SystemState, system_of}

-- the next event takes the old system to the new one, with this reply
abbrev pub IsNextStep : SystemState → Event → Reply → SystemState → Type 0
IsNextStep old event reply new =
    IsStep (old.applied + 1) event (system_of old) (system_of new) reply × (new.applied ≡ old.applied + 1)

-- the system before the first event of a trace of this version
abbrev pub IsEmpty : ℕ → SystemState → Type 0
IsEmpty version s = (system_of s ≡ empty_system version) × (s.applied ≡ 0)
