-- The line of one row more.
use Rattle.std.proofs.Common.{◌∙◌, ap, List}
use Rattle.std.proofs.lemmas.Result.{IfOk-weaker}
use Rattle.kq_model.specs.declared.row.Row.{Row}
use Rattle.kq_merge.specs.Written.{Written, with_reply}
use Rattle.kq_run.proofs.FoldLemmas.{reply_written}
use Rattle.kq_run.proofs.row_sink.ReportTextRowSink.with_reply.Goals as goal

pub returns : goal.returns
returns c =
    let at = c.args.at in
    let reply = c.args.reply in
    IfOk-weaker c.with_row.result _ _
    (λ (after : Written) is (rows : List Row) so. is ∙ ap (λ (w : Written). with_reply at reply w) so ∙ reply_written at reply rows) c.with_row.ensures
