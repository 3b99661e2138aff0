-- More was left out.
use Rattle.std.proofs.Common.{◌≡◌, ◌++◌, false, rules, tests}
use Rattle.kq_trace.proofs.BlockSoFar.{came, more_taken}
use Rattle.kq_trace.proofs.blocks.Blocks.drain.Goals as goal

pub chunks-preserved : goal.chunks-preserved
chunks-preserved g c =
    let before = g.S.Source.ahead c.args.source.now in
    let mid = g.S.Source.ahead c.chunks.source in
    let after = g.S.Source.ahead c.read_on.new.source in
    let going_on : c.chunks.self.ended ≡ false = search (rules, tests) in
    let count = c.in_ok-read_on.field-0 in
    let read = c.in_ok-read_on.ensures.read in
    let old = c.args.self.now in (
      c.chunks.invariant.0 ++ came before mid after old c.chunks.self c.read_on.new.self count going_on read,
      more_taken before mid after old c.chunks.self c.read_on.new.self count going_on read c.chunks.invariant.0 c.chunks.invariant.1,
    )
