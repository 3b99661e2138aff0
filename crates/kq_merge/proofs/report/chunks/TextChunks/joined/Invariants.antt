-- The chunks so far and those that are left are all.
use Rattle.std.proofs.Common.{◌≡◌, ◌++◌}
use Rattle.kq_merge.specs.Chunks.{text_in}
use Rattle.kq_merge.proofs.report.chunks.TextChunks.joined.Given as goal

abbrev pub invariant-loop-chunk : goal.invariant-loop-chunk
invariant-loop-chunk l = l.text.items ++ text_in l.chunk-iterator.rest.items ≡ text_in l.initial.chunk-iterator.rest.items
