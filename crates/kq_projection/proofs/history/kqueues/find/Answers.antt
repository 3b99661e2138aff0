use Rattle.std.proofs.Common.{◌≡◌, ◌≢◌, ◌<◌, ◌≤◌, ℕ, true, false, ltb, length, get_or, rules, arith}
use Rattle.std.proofs.lemmas.List.Sorted.{IsPartitionPoint-from_clause, IsPartitionedBy-ltb}
use Rattle.kq_projection.proofs.Places.{does-not-fall, index-absent, index-alone}
use Rattle.kq_projection.proofs.history.kqueues.find.Goals as goal
use Rattle.kq_projection.proofs.history.kqueues.find.Goals.{else-index-places-via-then-index-places+else-places-index, else-index-places-via-else-index-places}

pub returns-then-places-index-clause-there : goal.returns-then-places-index-clause-there
returns-then-places-index-clause-there c =
    let xs = c.args.places.now in
    let place = c.args.place in
    let index = c.partition_point-index.result in
    let parted = IsPartitionedBy-ltb (λ (x : ℕ). x) xs place (does-not-fall xs c.requires) in
    let point = IsPartitionPoint-from_clause (λ (x : ℕ). ltb x place) xs index c.partition_point-index.ensures.partitioned parted (λ a r q k. search rules) in
    let before : (k d : ℕ) → k < index → ltb (get_or xs k d) place ≡ true = λ k d less. point.0 k d (omega arith) (omega (arith, less)) in
    let after : (k d : ℕ) → index ≤ k → k < length xs → ltb (get_or xs k d) place ≡ false = λ k d from within. point.1 k d (omega (arith, from)) within in
    record {
      inside = omega arith;
      there = search rules;
      alone = index-alone xs place index c.requires before after;
    }

pub returns-clause-absent : goal.returns-clause-absent
returns-clause-absent c =
    let xs = c.args.places.now in
    let place = c.args.place in
    let index = c.partition_point-index.result in
    let parted = IsPartitionedBy-ltb (λ (x : ℕ). x) xs place (does-not-fall xs c.requires) in
    let point = IsPartitionPoint-from_clause (λ (x : ℕ). ltb x place) xs index c.partition_point-index.ensures.partitioned parted (λ a r q k. search rules) in
    let before : (k d : ℕ) → k < index → ltb (get_or xs k d) place ≡ true = λ k d less. point.0 k d (omega arith) (omega (arith, less)) in
    let after : (k d : ℕ) → index ≤ k → k < length xs → ltb (get_or xs k d) place ≡ false = λ k d from within. point.1 k d (omega (arith, from)) within in
    let not_here : index < length xs → get_or xs index 0 ≢ place =
    elim c.else-index-places.branch [
      | else-index-places-via-then-index-places+else-places-index w ↦ λ within here. w.if-places-index.false here
      | else-index-places-via-else-index-places w ↦ λ within here. absurd (omega (arith, within))
    ] in
    λ none. index-absent xs place index c.requires before after not_here
