-- The report of a book's rows is that of its trace.
use Rattle.std.proofs.Common.{◌≡◌, length, rules}
use Rattle.std.proofs.lemmas.Result.{IfOk-weaker}
use Rattle.kq_model.specs.System.{rows}
use Rattle.kq_run.proofs.ReplayedTraces.{report_is}
use Rattle.kq_run.proofs.living.report_of.Goals as goal

pub returns : goal.returns
returns c =
    let book = c.args.book.now in
    let found = c.as_slice.result.now in
    let records = c.len.result in
    let are : found ≡ rows book.version book.events = search rules in
    let counts : records ≡ length book.events = search rules in
    IfOk-weaker c.report_text.result _ _
    (λ text is. report_is book.version records book.events found text.items counts are is) c.report_text.ensures
