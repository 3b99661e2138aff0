-- The fault of a run, by the bytes that its trace was read from.
use Rattle.std.specs.Prelude.{◌≡◌, ℕ, List, Result, IfErr}
use Rattle.std.proofs.lemmas.Result.{IfErr-weaker}
use Rattle.kq_model.specs.declared.event.Event.{Event}
use Rattle.kq_model.specs.Reading.{Good, reading}
use Rattle.kq_trace.specs.Faults.{IsFault}
use Rattle.kq_trace.specs.declared.fault.TraceError.{TraceError}
use Rattle.kq_trace.specs.declared.fault.TraceError.TheVariants as error
use Rattle.kq_run.specs.Fault.{fault_of}
use Rattle.kq_run.specs.Living.{IsLiveFault, IsRunFault}
use Rattle.kq_run.specs.declared.fault.Fault.{Fault}
use Rattle.kq_run.specs.declared.fault.Fault.TheVariants.{Usage, Read, Trace, Memory, Spawn, Write}

fault_of_run : (bytes : List ℕ) (threads version : ℕ) (events : List Event) → reading bytes ≡ Good version events
    → (fault : Fault) → IsRunFault threads fault → IsLiveFault bytes threads fault
fault_of_run bytes threads version events good Usage h = h
fault_of_run bytes threads version events good Read h = h
fault_of_run bytes threads version events good (Trace line fault) h = absurd h
fault_of_run bytes threads version events good Memory h = tt
fault_of_run bytes threads version events good Spawn h = ((version, events, good), h)
fault_of_run bytes threads version events good Write h = h

pub run_fault : {B : Type 0} (bytes : List ℕ) (threads version : ℕ) (events : List Event) (r : Result B Fault)
    → reading bytes ≡ Good version events → IfErr r (IsRunFault threads) → IfErr r (IsLiveFault bytes threads)
run_fault bytes threads version events r good =
    IfErr-weaker r (IsRunFault threads) (IsLiveFault bytes threads) (fault_of_run bytes threads version events good)

-- a text that is no trace
pub read_fault : (bytes : List ℕ) (threads : ℕ) (error : TraceError) → IsFault bytes error → IsLiveFault bytes threads (fault_of error)
read_fault bytes threads error.Memory is = tt
read_fault bytes threads (error.Bad line fault) is = is
