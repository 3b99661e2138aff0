use Rattle.std.proofs.Common.{subst, sym}
use Rattle.kq_model.specs.Report.{reply_line}
use Rattle.kq_text.specs.Writes.{Writes}
use Rattle.kq_merge.proofs.ReportLines.{done_line}
use Rattle.kq_merge.proofs.report.line.write_reply_at.Goals as goal

pub returns-in-Done-clause-text : goal.returns-in-Done-clause-text
returns-in-Done-clause-text c =
    let old = c.args.out.now in
    let start = c.args.start in
    subst (λ reply. Writes old start (reply_line c.args.at reply) old start) (sym c.in-Done.is)
    (done_line c.args.at old start)
