-- What was read so far is what the reader lost, and each turn gave a byte at least.
use Rattle.std.proofs.Common.{◌≤◌, length}
use Rattle.std.specs.Io.KnownBytes.{Consumes}
use Rattle.kqcheck.proofs.input.read_in.Given as goal

abbrev pub invariant-loop : goal.invariant-loop
invariant-loop g l = (length l.bytes.items ≤ l.limit) × (l.counter ≤ length l.bytes.items)
    × Consumes (g.R.Read.remaining l.initial.reader) (g.R.Read.remaining l.reader) l.bytes.items
