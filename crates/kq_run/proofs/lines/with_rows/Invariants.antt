-- The rows so far are written behind those before.
use Rattle.std.proofs.Common.{◌≡◌, ◌++◌, List, take}
use Rattle.kq_model.specs.declared.row.Row.{Row}
use Rattle.kq_merge.specs.Written.{written}
use Rattle.kq_run.proofs.lines.with_rows.Given as goal

abbrev pub invariant-loop-row : goal.invariant-loop-row
invariant-loop-row l =
    (before : List Row) → l.initial.text ≡ written before → l.text ≡ written (before ++ take l.row-index l.row-items)
