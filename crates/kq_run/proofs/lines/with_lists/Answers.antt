-- In one order only the rows of the lists rise by place.
use Rattle.std.proofs.Common.{◌∙◌, ◌++◌, List, ap}
use Rattle.std.proofs.lemmas.Result.{IfOk-weaker}
use Rattle.kq_model.specs.declared.row.Row.{Row}
use Rattle.kq_merge.specs.Written.{written}
use Rattle.kq_run.proofs.lines.with_lists.Goals as goal

pub returns : goal.returns
returns c =
    IfOk-weaker c.with_rows.result _ _ (λ after lines before rows is are.
    lines before is ∙ ap (λ (rs : List Row). written (before ++ rs)) (c.in_ok-merge.ensures.only rows are.0 are.1))
    c.with_rows.ensures
