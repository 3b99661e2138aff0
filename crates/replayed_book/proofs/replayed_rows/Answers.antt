-- In one order only each kqueue's rows and the plain ones are the rows of the trace.
use Rattle.std.proofs.Common.{◌≡◌, ◌∙◌, ◌<◌, ◌⊎◌, List, length, ap, ap₂, rules, subst}
use Rattle.kq_model.specs.declared.row.Row.{Row}
use Rattle.kq_model.specs.System.{rows}
use Rattle.kq_model.proofs.Results.{error_passed}
use Rattle.kq_projection.specs.Traced.{Traced, places_of, plain_rows_of}
use Rattle.kq_merge.specs.ByPlace.{IsOnlyOrder, rows_in}
use Rattle.kq_projection.specs.declared.RunFault.{RunFault}
use Rattle.replayed_book.proofs.Faults.{memory_is_no_count, workers_are_told}
use Rattle.replayed_book.proofs.replayed_rows.Goals as goal

pub returns-clause-rows : goal.returns-clause-rows
returns-clause-rows g c =
    let split = c.in_ok-split.split in
    let kqueues = c.in_ok-kqueues.kqueues.items in
    let merged = c.in_ok-merged.merged.items in
    let are : c.plain_rows.result.now ≡ plain_rows_of split = search rules in
    let only = subst (λ (plain : List Row). IsOnlyOrder (rows_in kqueues plain) merged) are
    c.in_ok-merged.ensures.only in
    let trace = c.in_ok-trace.ensures in
    only (rows split.version split.events) c.in_ok-kqueues.ensures.ok.whole c.in_ok-kqueues.ensures.ok.ordered
    ∙ (ap (λ (t : Traced). rows t.version t.events) c.in_ok-split.ensures ∙ ap₂ rows trace.0 trace.1)

pub returns-in_err-merged-clause-fault : goal.returns-in_err-merged-clause-fault
returns-in_err-merged-clause-fault g c =
    memory_is_no_count c.from_residual-in_err-merged.result _ c.from_residual-in_err-merged.ensures.1

pub returns-in_err-kqueues-clause-fault : goal.returns-in_err-kqueues-clause-fault
returns-in_err-kqueues-clause-fault g c =
    let workers = c.args.workers in
    let fault = c.in_err-kqueues.field-0.0 in
    error_passed c.from_residual-in_err-kqueues.result fault
    (λ (f : RunFault). f ≡ RunFault.Workers → (workers ≡ 0) ⊎ (256 < workers)) c.from_residual-in_err-kqueues.ensures.1
    (workers_are_told (length (places_of c.in_ok-split.split)) workers fault c.in_err-kqueues.ensures.err)
