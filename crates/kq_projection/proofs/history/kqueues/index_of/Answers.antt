use Rattle.std.proofs.Common.{◌≡◌, ◌<◌, ◌≤◌, ℕ, true, false, ltb, length, get_or, rules, arith}
use Rattle.std.proofs.lemmas.List.Sorted.{IsPartitionPoint-from_clause, IsPartitionedBy-ltb}
use Rattle.kq_projection.proofs.Places.{does-not-fall, index-alone, index-inside, index-there}
use Rattle.kq_projection.proofs.history.kqueues.index_of.Goals as goal

pub returns : goal.returns
returns c =
    let xs = c.args.places.now in
    let place = c.args.place in
    let count = c.partition_point.result in
    let rises = c.requires.rising in
    let parted = IsPartitionedBy-ltb (λ (x : ℕ). x) xs place (does-not-fall xs rises) in
    let point = IsPartitionPoint-from_clause (λ (x : ℕ). ltb x place) xs count c.partition_point.ensures.partitioned parted (λ a r q k. search rules) in
    let before : (k d : ℕ) → k < count → ltb (get_or xs k d) place ≡ true = λ k d less. point.0 k d (omega arith) (omega (arith, less)) in
    let after : (k d : ℕ) → count ≤ k → k < length xs → ltb (get_or xs k d) place ≡ false = λ k d from within. point.1 k d (omega (arith, from)) within in
    record {
      inside = index-inside xs place count rises before after c.requires.there;
      there = index-there xs place count rises before after c.requires.there;
      alone = index-alone xs place count rises before after;
    }
