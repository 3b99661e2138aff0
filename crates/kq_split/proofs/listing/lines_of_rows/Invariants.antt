-- What is written, and the lines of the rows that are left.
use Rattle.std.proofs.Common.{◌≡◌, ◌++◌, drop}
use Rattle.kq_model.specs.Report.{row_lines}
use Rattle.kq_split.proofs.listing.lines_of_rows.Given as goal

abbrev pub invariant-loop-row : goal.invariant-loop-row
invariant-loop-row l = l.text.items ++ row_lines (drop l.row-index l.rows) ≡ row_lines l.rows
