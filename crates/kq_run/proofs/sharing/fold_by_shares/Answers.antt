-- A start is refused only where the trace makes two kqueues.
use Rattle.std.proofs.Common.{Err, IfErr, Ok, Result}
use Rattle.kq_run.specs.Replay.{IsSourceFault}
use Rattle.kq_run.proofs.ReplayedTraces.{source_fault_of_replay}
use Rattle.kq_run.proofs.sharing.fold_by_shares.Goals as goal

weaker : {A E : Type 0} {Q R : E → Type 0} (r : Result A E) → ((e : E) → Q e → R e) → IfErr r Q → IfErr r R
weaker (Ok x) then q = tt
weaker (Err e) then q = then e q

pub returns-clause-fault : goal.returns-clause-fault
returns-clause-fault g c =
    let version = c.in_ok-read_trace_into.field-0 in
    let ahead = g.I.Source.ahead c.args.source.now in
    let (events, trace, took) = c.in_ok-read_trace_into.ensures.good in
    weaker c.report.result (λ fault is.
    source_fault_of_replay g.I.Source.may_fail ahead c.args.workers version events trace.bytes trace.had trace.means fault
    (is version events c.args.workers c.requires took))
    c.report.ensures.fault
