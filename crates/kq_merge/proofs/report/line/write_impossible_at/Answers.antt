use Rattle.std.proofs.Common.{subst}
use Rattle.kq_text.specs.Writes.{Writes}
use Rattle.kq_text.proofs.WritesLemmas.{and_then, as_text}
use Rattle.kq_merge.proofs.ReportLines.{impossible_line}
use Rattle.kq_merge.proofs.report.line.write_impossible_at.Goals as goal

pub returns-clause-text : goal.returns-clause-text
returns-clause-text c =
    let before = c.write_at-end in
    let after = c.write_at-end-2 in
    let name = subst (λ name. Writes before.new.out before.result name after.new.out after.result) c.name.ensures
    after.ensures in
    as_text (impossible_line c.args.at c.args.why)
    (and_then c.write_place_at-end.ensures.text (and_then before.ensures (and_then name c.write_at.ensures)))
