-- The faults by which the program ends, and the exit status of each: that of kqsim after the same.
use Rattle.std.specs.Prelude.{ℕ}
use Rattle.kq_answers.specs.declared.fault.AnswersError.{AnswersError}
use Rattle.kq_answers.specs.declared.fault.AnswersError.TheVariants as answers
use Rattle.kq_trace.specs.declared.fault.TraceError.{TraceError}
use Rattle.kq_trace.specs.declared.fault.TraceError.TheVariants as trace
use Rattle.kqcheck.specs.declared.fault.Fault.{Fault}
use Rattle.kqcheck.specs.declared.fault.Fault.TheVariants.{Usage, ReadTrace, ReadAnswers, Trace, Answers, NoCall}
use Rattle.kqcheck.specs.declared.fault.Fault.TheVariants.{Memory, Write}

abbrev pub status_of : Fault → ℕ
status_of Usage = 2
status_of ReadTrace = 3
status_of ReadAnswers = 3
status_of (Trace line fault) = 4
status_of (Answers line fault) = 4
status_of (NoCall at) = 4
status_of Memory = 5
status_of Write = 7

abbrev pub trace_fault_of : TraceError → Fault
trace_fault_of trace.Memory = Memory
trace_fault_of (trace.Bad line fault) = Trace line fault

abbrev pub answers_fault_of : AnswersError → Fault
answers_fault_of answers.Memory = Memory
answers_fault_of (answers.Bad line fault) = Answers line fault
