use Rattle.std.proofs.Common.{take}
use Rattle.kq_projection.specs.Sources.{Grows}
use Rattle.kq_projection.proofs.history.sources.Sources.add_all.Given as goal

abbrev pub invariant-loop-source : goal.invariant-loop-source
invariant-loop-source l = Grows (take l.source-index l.list) l.initial.self l.self
