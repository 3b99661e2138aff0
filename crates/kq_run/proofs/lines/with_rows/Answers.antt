-- One row more is written, or all are.
use Rattle.std.proofs.Common.{◌∙◌, ◌∷◌, ◌++◌, [], ap, append-nil, append_assoc, sym, take}
use Rattle.std.proofs.lemmas.List.{take_all, take_more}
use Rattle.kq_merge.specs.Written.{written}
use Rattle.kq_merge.proofs.WrittenRows.{row_more}
use Rattle.kq_run.proofs.lines.with_rows.Goals as goal

pub loop-row-init : goal.loop-row-init
loop-row-init c = λ before is. is ∙ ap written (sym (append-nil before))

pub loop-row-preserved : goal.loop-row-preserved
loop-row-preserved c =
    let rows = c.as_slice-row-items.result.now in
    let i = c.loop-row.row-index in
    let row = c.row-item.result in
    λ before is.
    c.in_ok-text.ensures ∙ row_more (before ++ take i rows) row c.loop-row.text (c.loop-row.invariant before is)
    ∙ ap written (append_assoc before (take i rows) (row ∷ [])
    ∙ ap (λ rs. before ++ rs) (sym (take_more rows i row c.loop-row-test.true ∙ ap (λ r. take i rows ++ r ∷ []) (sym c.row-item.is))))

pub returns : goal.returns
returns c =
    let rows = c.as_slice-row-items.result.now in
    λ before is.
    c.loop-row.invariant before is
    ∙ ap (λ rs. written (before ++ rs)) (take_all c.loop-row.row-index rows c.loop-row-test.false ∙ c.as_slice-row-items.ensures.value)
