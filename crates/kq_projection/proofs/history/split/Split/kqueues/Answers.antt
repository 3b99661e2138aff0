use Rattle.std.proofs.Common.{ℕ, List, sym, subst}
use Rattle.std.specs.List.Sorted.{IsStrictlyIncreasing}
use Rattle.kq_projection.proofs.SplitNext.{places-rise}
use Rattle.kq_projection.proofs.history.split.Split.kqueues.Goals as goal

pub returns-clause-rising : goal.returns-clause-rising
returns-clause-rising c =
    subst (λ (ps : List ℕ). IsStrictlyIncreasing ps) (sym c.places.ensures)
    (places-rise _ c.self.inside.said.kqueues c.self.invariant.said.kqueues)
