use Rattle.std.proofs.Common.{◌≡◌, ◌∙◌, ◌∷◌, ◌+◌, ◌++◌, drop, sym, ap, arith, append-nil, append_assoc}
use Rattle.std.proofs.lemmas.List.{at_drop_more, at_drop_all}
use Rattle.kq_model.specs.declared.row.Row.{Row}
use Rattle.kq_model.specs.Report.{reply_line, row_lines}
use Rattle.kq_split.proofs.listing.lines_of_rows.Goals as goal

pub loop-row-preserved : goal.loop-row-preserved
unfolding row_lines
loop-row-preserved c =
    let i = c.loop-row.row-index in
    let rows = c.args.rows.now in
    let row = c.row-item.result in
    let before = c.loop-row.text.items in
    let left = drop (i + 1) rows in
    let next : row_lines (drop i rows) ≡ reply_line row.at row.reply ++ row_lines left =
    at_drop_more row_lines rows i row (omega arith) ∙ ap (λ (r : Row). row_lines (r ∷ left)) (sym c.row-item.is) in
    ap (λ text. text ++ row_lines left) c.in_ok-put_reply.ensures.is
    ∙ append_assoc before (reply_line row.at row.reply) (row_lines left)
    ∙ ap (λ text. before ++ text) (sym next)
    ∙ c.loop-row.invariant

pub returns : goal.returns
unfolding row_lines
returns c =
    let text = c.loop-row.text.items in
    sym (append-nil text)
    ∙ ap (λ rest. text ++ rest) (sym (at_drop_all row_lines c.args.rows.now c.loop-row.row-index (omega arith)))
    ∙ c.loop-row.invariant
