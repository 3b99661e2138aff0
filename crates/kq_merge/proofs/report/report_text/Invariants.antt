-- The rows so far are written.
use Rattle.std.proofs.Common.{◌≡◌, take}
use Rattle.kq_merge.specs.Written.{written}
use Rattle.kq_merge.proofs.report.report_text.Given as goal

abbrev pub invariant-loop-row : goal.invariant-loop-row
invariant-loop-row l = l.text ≡ written (take l.row-index l.rows)
