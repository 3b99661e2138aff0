-- The chunks so far were written.
use Rattle.std.proofs.Common.{take}
use Rattle.std.specs.Io.KnownBytes.{Appends}
use Rattle.kq_merge.specs.Chunks.{text_in}
use Rattle.kq_merge.proofs.report.chunks.TextChunks.write_out.Given as goal

abbrev pub invariant-loop-chunk : goal.invariant-loop-chunk
invariant-loop-chunk g l =
    Appends (g.W.Write.contents l.initial.out) (g.W.Write.contents l.out) (text_in (take l.chunk-index l.chunk-items))
