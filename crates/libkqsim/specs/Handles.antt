-- What a handle owns, and the system with which it begins.
use Rattle.std.specs.Prelude.{◌≡◌, ℕ}
use Rattle.std.specs.Ptr.{Ptr}
use Rattle.std.specs.Borrow.{Fml}
use Rattle.std.specs.Box.Ownership.{box_owns}
use Rattle.std.specs.Global.{Global}
use Rattle.std.specs.contracts.impls.GlobalAllocator.TheImpl.{ghosts}
use Rattle.kq_model.specs.System.{empty_system}
use Rattle.kq_system.specs.SystemState.{system_of}
use Rattle.libkqsim.specs.Logs.{SimState, no_log}
use Rattle.libkqsim.specs.contracts.sim.Sim.{the_row}

-- the allocator, of which all are equal
abbrev pub heap : Global
heap = record { memory = record { seal = tt } }

-- a system with its log at this address, and the right to free it
abbrev pub held : Ptr → SimState → Fml
held at sim = box_owns (ghosts.dealloc_token heap) the_row at sim

-- before the first record of a trace of this version, with nothing logged
abbrev pub IsEmpty : ℕ → SimState → Type 0
IsEmpty version sim =
    (system_of sim.system ≡ empty_system version) × (sim.system.applied ≡ 0) × (sim.log ≡ no_log version)
