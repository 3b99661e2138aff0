-- The rows so far are all of them.
use Rattle.std.proofs.Common.{ℕ, List, ap, ◌∙◌}
use Rattle.std.proofs.lemmas.Result.{IfOk-weaker}
use Rattle.kq_model.specs.declared.event.Event.{Event}
use Rattle.kq_system.specs.SystemState.{SystemState}
use Rattle.kq_run.proofs.FoldLemmas.{reported}
use Rattle.kq_run.proofs.fold.Fold.report.Goals as goal

pub returns : goal.returns
returns c =
    let all = c.in_ok-with_rows.field-0 in
    IfOk-weaker c.end_in_chunks.result _ _
    (λ text is (version : ℕ) (events : List Event) folded.
    reported version c.applied.result c.args.self events all text folded (c.applied.ensures ∙ ap (λ (s : SystemState). s.applied) c.deref.ensures)
    c.in_ok-with_rows.ensures is)
    c.end_in_chunks.ensures
