-- What is written, and the lines of the items that are left.
use Rattle.std.proofs.Common.{◌≡◌, ◌++◌, drop}
use Rattle.kq_split.specs.Lines.{item_lines}
use Rattle.kq_split.proofs.listing.lines_of_items.Given as goal

abbrev pub invariant-loop-item : goal.invariant-loop-item
invariant-loop-item l = l.text.items ++ item_lines (drop l.item-index l.items) ≡ item_lines l.items
