use Rattle.std.proofs.Common.{take}
use Rattle.kq_projection.specs.Sources.{call_sources, Grows}
use Rattle.kq_projection.proofs.history.sources.Sources.name_all.Given as goal

abbrev pub invariant-loop-change : goal.invariant-loop-change
invariant-loop-change g l =
    Grows (call_sources (g.V.Views.sees l.views) l.pid (take l.change-index l.changes)) l.initial.self l.self
