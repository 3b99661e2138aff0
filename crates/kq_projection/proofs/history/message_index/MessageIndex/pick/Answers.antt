use Rattle.std.proofs.Common.{◌≡◌, ◌<◌, All, List, ℕ, length, map, sym, ap, subst, ◌∙◌, rules}
use Rattle.std.specs.List.Sorted.{IsPermutation, IsSortedByKey}
use Rattle.std.specs.Ordering.{nat_cmp}
use Rattle.std.proofs.lemmas.List.Sorted.{IsNonDecreasingBy-from_sort}
use Rattle.std.proofs.lemmas.Result.{IfOk-weaker}
use Rattle.kq_projection.specs.contracts.history.item.SourceEq.TheImpl.Laws.{laws-law}
use Rattle.kq_projection.specs.Items.{is_from}
use Rattle.kq_projection.specs.MessageIndex.{all_standing, item_at, standing}
use Rattle.kq_projection.proofs.Picked.{sorted_is, standing-inside, read_all}
use Rattle.kq_projection.proofs.Rising.{do_not_fall}
use Rattle.kq_projection.proofs.history.message_index.MessageIndex.pick.Goals as goal

pub items_at-requires : goal.items_at-requires
items_at-requires c =
    let items = c.args.self.now in
    let sources = c.args.sources.now in
    let sorted = c.sort.new.self.items in
    let moved : IsPermutation (all_standing items sources) sorted = search rules in
    let in_order : IsSortedByKey (λ (n : ℕ). n) nat_cmp sorted = search rules in
    let rises = do_not_fall sorted (IsNonDecreasingBy-from_sort (λ n. n) sorted in_order) in
    let is : sorted ≡ standing (is_from sources) 0 items = sorted_is laws-law items sources sorted c.requires moved rises in
    subst (λ (ns : List ℕ). All (λ n. n < length items) ns) (sym (c.as_slice.ensures.value ∙ is)) (standing-inside (is_from sources) items)

pub returns : goal.returns
returns c =
    let items = c.args.self.now in
    let sources = c.args.sources.now in
    let sorted = c.sort.new.self.items in
    let moved : IsPermutation (all_standing items sources) sorted = search rules in
    let in_order : IsSortedByKey (λ (n : ℕ). n) nat_cmp sorted = search rules in
    let rises = do_not_fall sorted (IsNonDecreasingBy-from_sort (λ n. n) sorted in_order) in
    let is : sorted ≡ standing (is_from sources) 0 items = sorted_is laws-law items sources sorted c.requires moved rises in
    IfOk-weaker c.items_at.result _ _
    (λ picked has. has ∙ ap (map (item_at items)) (c.as_slice.ensures.value ∙ is) ∙ read_all (is_from sources) items) c.items_at.ensures
