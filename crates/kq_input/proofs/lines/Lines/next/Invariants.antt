-- What came of the line, all of it without a line feed, and that nothing waits behind it.
use Rattle.std.proofs.Common.{◌≡◌, ◌+◌, ◌<◌, []}
use Rattle.std.specs.Io.KnownBytes.{prepend_known}
use Rattle.kq_model.specs.Limits.{most_line_bytes}
use Rattle.kq_input.proofs.LineFeeds.{HasSoFar}
use Rattle.kq_input.proofs.lines.Lines.next.Given as goal

abbrev pub invariant-pieces : goal.invariant-pieces
invariant-pieces g l = record {
  so_far : HasSoFar (most_line_bytes + 1) (prepend_known l.fn.self.waiting (g.I.Read.remaining l.fn.input))
      (prepend_known l.self.waiting (g.I.Read.remaining l.input)) l.self.line l.some;
  all : 0 < l._turn → l.self.waiting ≡ [];
}
