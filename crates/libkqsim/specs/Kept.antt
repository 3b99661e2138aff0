-- What C owns of a handle.
use Rattle.std.specs.Prelude.{◌≡◌, ℕ, ℤ, pos, Option, Some, None}
use Rattle.std.specs.Ptr.{Ptr}
use Rattle.std.specs.Borrow.{Fml, ftrue, fsep}
use Rattle.std.specs.Box.Ownership.{box_owns}
use Rattle.std.specs.contracts.impls.GlobalAllocator.TheImpl.{ghosts}
use base.Fml.{fex}
use Rattle.kq_freebsd.specs.declared.refusal.Refusal.{Refusal}
use Rattle.kq_freebsd.specs.declared.refusal.Refusal.TheVariants.{Argument}
use Rattle.kq_freebsd.specs.Answers.{refusal_number}
use Rattle.kq_model.specs.Limits.{IsVersion}
use Rattle.libkqsim.specs.Handles.{IsEmpty, heap}
use Rattle.libkqsim.specs.contracts.handle.Kqsim.{the_row}
use Rattle.libkqsim.specs.declared.handle.Kqsim.{Kqsim}

-- a handle at this address, and the right to free it
abbrev pub kept : Ptr → Kqsim → Fml
kept at handle = box_owns (ghosts.dealloc_token heap) the_row at handle

-- the same, where there is a handle
abbrev pub kept_if : Option Kqsim → Ptr → Fml
kept_if None at = ftrue
kept_if (Some handle) at = kept at handle

-- a handle or none, of which this holds
abbrev pub published : (Option Kqsim → Type 0) → Ptr → Fml
published Holds at = fex (Option Kqsim) (λ made. fsep (kept_if made at) (fex (Holds made) (λ _. ftrue)))

-- a number, and what was made: with 0 a handle to an empty system of this version, and else nothing, where the number
-- is that of a refusal and the pointer is as it was
abbrev pub IsNew : ℕ → Ptr → Ptr → ℤ → Option Kqsim → Type 0
IsNew version old new number None =
    (refusal : Refusal) × (number ≡ refusal_number refusal) × (refusal ≡ Argument → IsVersion version → ⊥)
    × (new ≡ old)
IsNew version old new number (Some handle) = (number ≡ pos 0) × IsVersion version × IsEmpty version handle.state
