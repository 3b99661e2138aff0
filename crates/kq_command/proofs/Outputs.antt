-- What writing leaves, and the faults, by the bytes that a reader had.
use Rattle.std.proofs.Common.{◌≡◌, ◌++◌, ℕ, List, Option, Result, Ok, Err, IfErr, inl, inr, subst}
use Rattle.std.specs.Prelude.{OnErr}
use Rattle.std.specs.Io.KnownBytes.{Appends}
use Rattle.kq_run.specs.Living.{IsLiveFault}
use Rattle.kq_run.specs.Replay.{Had, IsFault, IsInputFault}
use Rattle.kq_run.specs.Workers.{IsThreadCount}
use Rattle.kq_run.specs.Written.{Leaves}
use Rattle.kq_run.specs.declared.fault.Fault.{Fault}
use Rattle.kq_run.specs.declared.fault.Fault.TheVariants.{Usage, Read, Trace, Memory, Spawn, Write}
use Rattle.kq_command.specs.Run.{IsOutputFault, IsReaderFault, most_bytes}
use Rattle.kq_command.specs.declared.order.Order.{Order}

-- a fault of an input
pub input_fault_given : (o : Order) (workers : ℕ) (given : Option (List ℕ))
    → ((bytes : List ℕ) (fault : Fault) → IsFault bytes workers fault → IsOutputFault o bytes fault)
    → (fault : Fault) → IsInputFault given most_bytes workers fault → IsReaderFault o given fault
input_fault_given o workers given of Usage h = h
input_fault_given o workers given of Read h = tt
input_fault_given o workers given of (Trace line fault) (bytes, had, is) = (bytes, had, of bytes (Trace line fault) is)
input_fault_given o workers given of Memory h = tt
input_fault_given o workers given of Spawn (bytes, had, is) = (bytes, had, of bytes Spawn is)
input_fault_given o workers given of Write h = h

-- a fault of bytes that a reader had
pub live_fault_given : (o : Order) (threads : ℕ) (given : Option (List ℕ)) (bytes : List ℕ) → Had given most_bytes bytes
    → IsThreadCount threads
    → ((fault : Fault) → IsLiveFault bytes threads fault → IsOutputFault o bytes fault)
    → (fault : Fault) → IsLiveFault bytes threads fault → IsReaderFault o given fault
live_fault_given o threads given bytes had is of Usage h = h is
live_fault_given o threads given bytes had is of Read h = tt
live_fault_given o threads given bytes had is of (Trace line fault) h = (bytes, had, of (Trace line fault) h)
live_fault_given o threads given bytes had is of Memory h = tt
live_fault_given o threads given bytes had is of Spawn h = (bytes, had, of Spawn h)
live_fault_given o threads given bytes had is of Write h = absurd h

-- what writing the bytes of such a text leaves
pub bytes_left : (A : List ℕ → Type 0) (F : Fault → Type 0) (r : Result (Unit {0}) Fault) (before after : Option (List ℕ)) (bytes : List ℕ)
    → A bytes → OnErr r ((done : List ℕ) × (rest : List ℕ) × (bytes ≡ done ++ rest) × Appends before after done)
    → IfErr r (λ f. f ≡ Write) → IfErr r (λ f. Leaves A F f before after)
bytes_left A F (Ok x) before after bytes is part fault = tt
bytes_left A F (Err f) before after bytes is (done, rest, cut, appended) fault = inr (fault, (done, rest, subst A cut is, appended))

-- a text that is one of these, too, and a fault
pub leaves_as : (A B : List ℕ → Type 0) (F G : Fault → Type 0) (before after : Option (List ℕ)) → ((text : List ℕ) → A text → B text)
    → ((fault : Fault) → F fault → G fault) → (fault : Fault) → Leaves A F fault before after → Leaves B G fault before after
leaves_as A B F G before after as_other as_fault fault (inl (is, keeps)) = inl (as_fault fault is, keeps)
leaves_as A B F G before after as_other as_fault fault (inr (is, (done, rest, text, appended))) =
    inr (is, (done, rest, as_other (done ++ rest) text, appended))
