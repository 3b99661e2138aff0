use Rattle.std.proofs.Common.{◌∙◌}
use Rattle.std.proofs.lemmas.Result.{IfOk-weaker}
use Rattle.kq_live.proofs.Copying.{book_rows}
use Rattle.kq_live.proofs.book.Book.rows.Goals as goal

pub returns : goal.returns
returns c =
    let same = book_rows c.self.inside.version c.self.inside.entries.items c.as_slice.result.now c.args.self.now
    c.as_slice.ensures.value c.self.invariant.replays c.self.view_is in
    IfOk-weaker c.rows_of_replies.result _ _ (λ rs h. h ∙ same) c.rows_of_replies.ensures
