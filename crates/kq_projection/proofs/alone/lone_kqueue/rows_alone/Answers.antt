use Rattle.std.proofs.Common.{◌+◌, get_or, drop, sym, ap, ◌∙◌, arith}
use Rattle.std.proofs.lemmas.List.{at_drop_more, at_drop_all}
use Rattle.kq_projection.specs.declared.history.item.Item.{Item}
use Rattle.kq_projection.specs.declared.history.item.What.TheVariants.{Closed}
use Rattle.kq_projection.specs.LoneKqueue.{LoneKqueue, after_items}
use Rattle.kq_projection.proofs.Kept.{item-trace}
use Rattle.kq_projection.proofs.alone.lone_kqueue.rows_alone.Goals as goal

-- what a read past the end of the items would give
abbrev no_item : Item
no_item = record { place = 0; what = Closed 0 0 }

pub loop-item-preserved : goal.loop-item-preserved
unfolding after_items
loop-item-preserved c =
    let i = c.loop-item.item-index in
    let items = c.args.items.now in
    let before = c.loop-item.alone in
    record {
      left = ap (after_items (drop (i + 1) items)) c.in_ok-go_on.ensures
          ∙ sym (at_drop_more (λ is. after_items is before) items i no_item (omega arith))
          ∙ c.loop-item.invariant.left;
      trace = ap (λ (a : LoneKqueue). a.trace) c.in_ok-go_on.ensures
          ∙ item-trace (get_or items i no_item) before
          ∙ c.loop-item.invariant.trace;
    }

pub returns : goal.returns
unfolding after_items
returns c =
    c.into_rows.ensures
    ∙ ap (λ (a : LoneKqueue). a.rows)
    (sym (at_drop_all (λ is. after_items is c.loop-item.alone) c.args.items.now c.loop-item.item-index (omega arith))
    ∙ c.loop-item.invariant.left)
