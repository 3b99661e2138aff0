use Rattle.std.proofs.Common.{◌≡◌, ◌∙◌, ◌+◌, ◌<◌, ◌++◌, List, length, take, sym, ap, ap₂, arith, rules}
use Rattle.std.proofs.lemmas.List.{length-take-le, take_more}
use Rattle.kq_projection.specs.declared.history.item.Item.{Item}
use Rattle.kq_projection.specs.declared.history.item.Source.{Source}
use Rattle.kq_projection.specs.Items.{source_eq, source_of}
use Rattle.kq_projection.specs.MessageIndex.{comes_from, item_at, no_item, standing}
use Rattle.kq_projection.specs.PostingLists.{posting}
use Rattle.kq_projection.proofs.Picked.{standing-push}
use Rattle.kq_projection.proofs.history.message_index.MessageIndex.of.Goals as goal

pub loop-number-preserved : goal.loop-number-preserved
loop-number-preserved c = λ (s : Source).
    let items = c.args.items.items in
    let n = c.loop-number.number in
    let item : Item = item_at items n in
    let so_far : List Item = take n items in
    let same : c.deref-item-items.result.now ≡ items = c.deref-item-items.ensures.value in
    let within : n < length items = search rules in
    let here : c.source.result ≡ source_of item.what = search rules in
    let count = length-take-le n items (omega (arith, within)) in
    let last : n ≡ 0 + length so_far = omega (arith, count) in
    c.in_ok-add.ensures s
    ∙ ap₂ (λ xs x. xs ++ posting (source_eq x s) n) (c.loop-number.invariant s) here
    ∙ ap (λ k. standing (comes_from s) 0 so_far ++ posting (comes_from s item) k) last
    ∙ sym (standing-push (comes_from s) 0 so_far item)
    ∙ ap (standing (comes_from s) 0) (sym (take_more items n no_item within))
