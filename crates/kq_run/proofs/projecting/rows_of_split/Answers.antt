-- In one order only each kqueue's rows and the plain ones are the rows of the trace.
use Rattle.std.proofs.Common.{◌≡◌, List, rules, subst}
use Rattle.kq_model.specs.declared.row.Row.{Row}
use Rattle.kq_model.specs.System.{rows}
use Rattle.kq_model.proofs.Results.{error_passed}
use Rattle.kq_projection.specs.Traced.{plain_rows_of}
use Rattle.kq_merge.specs.ByPlace.{IsOnlyOrder, rows_in}
use Rattle.kq_run.specs.Replay.{IsReplayFault}
use Rattle.kq_run.specs.declared.fault.Fault.TheVariants.{Memory}
use Rattle.kq_run.proofs.projecting.rows_of_split.Goals as goal

pub returns-clause-rows : goal.returns-clause-rows
returns-clause-rows g c =
    let split = c.args.split.now in
    let kqueues = c.in-Ok.kqueues.items in
    let merged = c.in_ok-merge.field-0.items in
    let are : c.plain_rows.result.now ≡ plain_rows_of split = search rules in
    let only = subst (λ (plain : List Row). IsOnlyOrder (rows_in kqueues plain) merged) are c.in_ok-merge.ensures.only in
    only (rows split.version split.events) c.in-Ok.ensures.ok.whole c.in-Ok.ensures.ok.ordered

pub returns-in_err-merge-clause-fault : goal.returns-in_err-merge-clause-fault
returns-in_err-merge-clause-fault g c =
    let split = c.args.split.now in
    error_passed c.from_residual.result Memory (IsReplayFault split.version split.events c.args.workers) c.from_residual.ensures.1 tt
