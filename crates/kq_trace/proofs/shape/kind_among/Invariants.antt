-- The kinds that are left decide.
use Rattle.std.proofs.Common.{◌≡◌, drop}
use Rattle.kq_model.specs.Kinds.{kind_among}
use Rattle.kq_trace.proofs.shape.kind_among.Given as goal

abbrev pub invariant-loop-kind : goal.invariant-loop-kind
invariant-loop-kind l = kind_among l.kinds l.name ≡ kind_among (drop l.kind-index l.kinds) l.name
