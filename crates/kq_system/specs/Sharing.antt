-- A share of the system of the code, as contracts see it.
use Rattle.std.specs.Prelude.{◌≡◌, ℕ, Bool, Option}
use Rattle.kq_model.specs.declared.event.Event.{Event}
use Rattle.kq_model.specs.declared.reply.Reply.{Reply}
use Rattle.kq_model.specs.Shares.{dealt, share, share_step}
use Rattle.kq_model.specs.System as system
use Rattle.kq_model.specs.Tallied.{System}
use Rattle.kq_system.specs.declared.dealing.Dealing.{Dealing}
use Rattle.kq_system.specs.Dealing.{share_for}
use Rattle.kq_system.specs.SystemState.{SystemState}

pub record ShareState : Type 0 where
  pub state : SystemState
  -- its number, from 0 on, and how the kqueues are dealt
  pub number : ℕ
  pub dealing : Dealing

-- what is its own
abbrev pub own_of : ShareState → Option ℕ → Bool
own_of s = dealt (share_for s.dealing) s.number

-- the event at this place takes the old share to the new one, with this reply
abbrev pub IsShareStep : (Option ℕ → Bool) → ℕ → Event → System → System → Reply → Type 0
IsShareStep own place event old new reply =
    (new ≡ (share_step own place event old).system) × (reply ≡ (share_step own place event old).reply)

-- so it does where replies to impossible records are everybody's
abbrev pub IsStepBeside : (Option ℕ → Bool) → ℕ → Event → System → System → Reply → Type 0
IsStepBeside own place event old new reply =
    (new ≡ share own (system.step place event old).system) × (reply ≡ (system.step place event old).reply)

-- it has no kqueue of others
abbrev pub IsOwnShare : (Option ℕ → Bool) → System → Type 0
IsOwnShare own s = share own s ≡ s
