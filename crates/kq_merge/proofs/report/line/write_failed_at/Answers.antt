use Rattle.std.proofs.Common.{◌∙◌, subst}
use Rattle.std.specs.Prelude.{decimal}
use Rattle.kq_text.specs.Writes.{Writes}
use Rattle.kq_text.proofs.WritesLemmas.{and_then, as_text}
use Rattle.kq_merge.proofs.ReportLines.{failed_line}
use Rattle.kq_merge.proofs.report.line.write_failed_at.Goals as goal

pub returns-clause-text : goal.returns-clause-text
returns-clause-text c =
    let name = c.write_at-end in
    let code = c.write_number_at-end in
    let number = subst (λ n. Writes name.new.out name.result (decimal n) code.new.out code.result)
    (c.from.ensures ∙ c.code.ensures) code.ensures.text in
    as_text (failed_line c.args.at c.args.error)
    (and_then c.write_place_at-end.ensures.text (and_then name.ensures (and_then number c.write_at.ensures)))
