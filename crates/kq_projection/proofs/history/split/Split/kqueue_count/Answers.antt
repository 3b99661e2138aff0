use Rattle.std.proofs.Common.{◌≡◌, ◌∙◌, ◌<◌, ◌≤◌, ◌^◌, ℕ, List, length, ap, arith}
use Rattle.kq_projection.specs.Traced.{Traced, places_of}
use Rattle.kq_projection.proofs.SplitNext.{few-kqueues}
use Rattle.kq_projection.proofs.history.split.Split.kqueue_count.Goals as goal

pub overflow_cast-result : goal.overflow_cast-result
overflow_cast-result c =
    let t : Traced = record { version = c.self.inside.version; events = c.self.inside.events.now } in
    let all : length c.places.result.now ≡ length (places_of t) =
    ap (λ (ps : List ℕ). length ps) (c.places.ensures ∙ c.self.invariant.said.kqueues.births) in
    let few : length (places_of t) ≤ length c.self.inside.events.now = few-kqueues t in
    let countable : length c.self.inside.events.now < 2 ^ 31 = c.self.invariant.countable in
    omega (arith, all, few, countable)
