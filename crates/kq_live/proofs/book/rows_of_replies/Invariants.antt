use Rattle.std.proofs.Common.{◌≡◌, ◌+◌, ◌++◌, drop}
use Rattle.kq_live.specs.Recorded.{replies_in}
use Rattle.kq_live.specs.Replies.{rows_of}
use Rattle.kq_live.proofs.book.rows_of_replies.Given as goal

abbrev pub invariant-loop-entry : goal.invariant-loop-entry
invariant-loop-entry l =
    (l.rows.items ++ rows_of (l.entry-index + 1) (replies_in (drop l.entry-index l.entries))
    ≡ rows_of 1 (replies_in l.entries)) × (l.at ≡ l.entry-index)
