use Rattle.std.proofs.Common.{◌≡◌, ◌∙◌, ◌==◌, not, List, ℕ, sym, subst, rules}
use Rattle.std.specs.List.{Contains}
use Rattle.kq_projection.specs.Children.{AreReached}
use Rattle.kq_projection.specs.Private.{IsPrivate}
use Rattle.kq_projection.specs.Traced.{Traced, places_of}
use Rattle.kq_projection.proofs.PrivateOf.{is-private}
use Rattle.kq_projection.proofs.SplitNext.{one-each, places-rise}
use Rattle.kq_projection.proofs.history.split.Split.private.Goals as goal

pub of-concerned-requires-clause-rising : goal.of-concerned-requires-clause-rising
of-concerned-requires-clause-rising c = places-rise _ c.self.inside.said.kqueues c.self.invariant.said.kqueues

pub of-concerned-requires-clause-one_each : goal.of-concerned-requires-clause-one_each
of-concerned-requires-clause-one_each c = one-each _ c.self.inside.said.kqueues c.self.invariant.said.kqueues

pub of-concerned-requires-clause-born : goal.of-concerned-requires-clause-born
of-concerned-requires-clause-born c =
    let same : c.self.inside.said.kqueues.places.items ≡ places_of c.args.self.now = c.self.invariant.said.kqueues.births ∙ search rules in
    subst (λ (ps : List ℕ). Contains ps c.args.kqueue) (sym same) c.requires

pub invariant_of-result : goal.invariant_of-result
invariant_of-result c =
    let t : Traced = record { version = c.self.inside.version; events = c.self.inside.events.now } in
    let same : t ≡ c.args.self.now = search rules in
    let concerned = c.of-concerned.result.now in
    record {
      own = subst (λ (x : Traced). IsPrivate x c.args.kqueue concerned.owner c.in_ok-items.items.items) same
          (is-private t c.self.inside.said c.self.invariant.said c.args.kqueue concerned c.of-concerned.ensures
          c.in_ok-items.ensures.0 c.in_ok-items.items.items
          (subst (λ ss. AreReached (not (t.version == 1)) c.self.inside.said.log ss c.in_ok-items.ensures.0) c.as_slice.ensures.list
          (subst (λ (v : ℕ). AreReached (not (v == 1)) c.self.inside.said.log c.as_slice.result.now c.in_ok-items.ensures.0) c.number.ensures.exact c.in_ok-items.ensures.1))
          c.in_ok-items.ensures.2);
    }
