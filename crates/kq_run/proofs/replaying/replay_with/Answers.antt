-- The report of the rows is that of the trace that was read.
use Rattle.std.proofs.Common.{◌≡◌, length, rules}
use Rattle.kq_model.specs.Report.{report}
use Rattle.kq_model.proofs.Results.{error_passed}
use Rattle.kq_run.specs.Fault.{fault_of}
use Rattle.kq_run.specs.Replay.{IsFault}
use Rattle.kq_run.proofs.ReplayedTraces.{fault_of_replay, read_fault, report_is}
use Rattle.kq_run.proofs.replaying.replay_with.Goals as goal

pub returns-in_err-trace-clause-fault : goal.returns-in_err-trace-clause-fault
returns-in_err-trace-clause-fault g c =
    let bytes = c.args.bytes.now in
    let error = c.in_err-trace.field-0.0 in
    error_passed c.from_residual.result (fault_of error) (IsFault bytes c.args.workers) c.from_residual.ensures.1
    (read_fault bytes c.args.workers error c.in_err-trace.ensures.bad)

pub returns-in_err-rows-clause-fault : goal.returns-in_err-rows-clause-fault
returns-in_err-rows-clause-fault g c =
    let bytes = c.args.bytes.now in
    let trace = c.in_ok-trace.trace in
    let fault = c.in_err-rows.field-0.0 in
    error_passed c.from_residual-in_err-rows.result fault (IsFault bytes c.args.workers) c.from_residual-in_err-rows.ensures.1
    (fault_of_replay bytes c.args.workers trace.version trace.events c.in_ok-trace.ensures.good fault c.in_err-rows.ensures.fault)

pub returns-clause-report : goal.returns-clause-report
returns-clause-report g c =
    let trace = c.in_ok-trace.trace in
    let found = c.in_ok-rows.rows.items in
    let records = c.len-records.result in
    let counts : records ≡ length trace.events = search rules in
    let text = c.in_ok-report_text.field-0.items in
    let is : text ≡ report found records = search rules in
    (trace.version, trace.events, c.in_ok-trace.ensures.good, report_is trace.version records trace.events found text counts c.in_ok-rows.ensures.rows is)
