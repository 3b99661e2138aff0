use Rattle.std.proofs.Common.{◌∙◌, ◌+◌, ap}
use Rattle.kq_live.proofs.Copying.{kept_row, rows_end}
use Rattle.kq_live.proofs.book.rows_of_replies.Goals as goal

pub loop-entry-preserved : goal.loop-entry-preserved
loop-entry-preserved c =
    let at = ap (λ n. n + 1) c.loop-entry.invariant.1 in (
      kept_row c.args.entries.now c.loop-entry.entry-index (c.loop-entry.at + 1) c.entry-item.result
          c.in_ok-reply.reply c.loop-entry.rows.items c.put_row.new.rows.items c.loop-entry-test.true
          c.entry-item.is c.in_ok-reply.ensures at c.in_ok-put_row.ensures
          ∙ c.loop-entry.invariant.0,
      at,
    )

pub returns : goal.returns
returns c =
    rows_end c.args.entries.now c.loop-entry.entry-index (c.loop-entry.entry-index + 1) c.loop-entry.rows.items
    c.loop-entry-test.false ∙ c.loop-entry.invariant.0
