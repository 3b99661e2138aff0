-- The records that the sink took, behind them the part that was decoded, and then the block that came.
use Rattle.std.proofs.Common.{◌≡◌, ◌<◌, ◌+◌, ◌-◌, ◌*◌, false, length}
use Rattle.kq_trace.proofs.BlocksRead.{IsUnderWay}
use Rattle.kq_trace.proofs.reading.read_blocks.Given as goal

abbrev pub invariant-rounds : goal.invariant-rounds
invariant-rounds g l = record {
  under_way : IsUnderWay (g.S.Source.ahead l.fn.source) (g.S.Source.ahead l.source) l.text.coming (g.K.Sink.took l.version l.sink) l.decoded.before
      l.decoded.part l.version l.text.block.items;
  some : l.text.coming.ended ≡ false → 0 < length l.text.block.items;
}

abbrev pub decreases-rounds : goal.decreases-rounds
decreases-rounds g l = 2 * (1000000 - l.decoded.before) + (1 - length l.decoded.part)
