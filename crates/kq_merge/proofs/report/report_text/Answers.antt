-- One row more is written, or all are.
use Rattle.std.proofs.Common.{◌∙◌, ◌∷◌, ◌++◌, [], ap, sym, take}
use Rattle.std.proofs.lemmas.List.{take_all, take_more}
use Rattle.std.proofs.lemmas.Result.{IfOk-weaker}
use Rattle.kq_merge.specs.Written.{written}
use Rattle.kq_merge.proofs.WrittenRows.{nothing_is, report-is, row_more}
use Rattle.kq_merge.proofs.report.report_text.Goals as goal

pub loop-row-init : goal.loop-row-init
loop-row-init c = c.new-text.ensures ∙ nothing_is

pub loop-row-preserved : goal.loop-row-preserved
loop-row-preserved c =
    let rows = c.args.rows.now in
    let i = c.loop-row.row-index in
    let row = c.row-item.result in
    c.in_ok-text.ensures ∙ row_more (take i rows) row c.loop-row.text c.loop-row.invariant
    ∙ ap written (sym (take_more rows i row c.loop-row-test.true ∙ ap (λ r. take i rows ++ r ∷ []) (sym c.row-item.is)))

pub returns : goal.returns
returns c =
    let rows = c.args.rows.now in
    let all = c.loop-row.invariant ∙ ap written (take_all c.loop-row.row-index rows c.loop-row-test.false) in
    IfOk-weaker c.end.result _ _ (λ text is. report-is rows c.args.records _ text.items all is) c.end.ensures
