-- Rows that were sorted never fall, and so they stand in their only order by rising place.
use Rattle.std.proofs.Common.{rules}
use Rattle.std.specs.List.Sorted.{IsPermutation}
use Rattle.std.proofs.lemmas.List.Sorted.{IsNonDecreasingBy-from_sort_by_key}
use Rattle.kq_merge.specs.ByPlace.{rows_in}
use Rattle.kq_merge.proofs.Places.{only_order, sorted_never_falls}
use Rattle.kq_merge.proofs.merging.merge.Goals as goal

pub returns-clause-by_place : goal.returns-clause-by_place
returns-clause-by_place c =
    sorted_never_falls _ (IsNonDecreasingBy-from_sort_by_key (λ row. row.at) _ c.sort_unstable_by_key.ensures.sorted (λ a r q k. search rules))

pub returns-clause-only : goal.returns-clause-only
returns-clause-only c =
    let all = rows_in c.args.kqueues.items c.args.plain.now in
    let rows = c.sort_unstable_by_key.new.self.items in
    let same : IsPermutation all rows = search rules in
    only_order all rows same (returns-clause-by_place c)
