use Rattle.std.proofs.Common.{◌≡◌, ◌++◌, drop}
use Rattle.kq_live.specs.Recorded.{events_in}
use Rattle.kq_live.proofs.book.copied_events.Given as goal

abbrev pub invariant-loop-entry : goal.invariant-loop-entry
invariant-loop-entry l = l.events.items ++ events_in (drop l.entry-index l.entries) ≡ events_in l.entries
