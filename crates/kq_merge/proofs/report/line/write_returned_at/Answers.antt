use Rattle.std.proofs.Common.{◌∙◌, sym}
use Rattle.kq_text.proofs.WritesLemmas.{and_then, as_text}
use Rattle.kq_merge.proofs.ReportLines.{nothing_returned_line, returned_line}
use Rattle.kq_merge.proofs.report.line.write_returned_at.Goals as goal

pub returns-then-is_empty-clause-text : goal.returns-then-is_empty-clause-text
returns-then-is_empty-clause-text c =
    as_text (nothing_returned_line c.args.at c.args.events.now (sym c.is_empty.ensures ∙ c.if-is_empty.true))
    (and_then c.write_place_at-end.ensures.text c.write_at.ensures)

pub returns-clause-text : goal.returns-clause-text
returns-clause-text c =
    as_text (returned_line c.args.at c.args.events.now)
    (and_then c.write_place_at-end.ensures.text (and_then c.write_at-end.ensures
    (and_then c.write_events_at-end.ensures.text c.write_at-2.ensures)))
