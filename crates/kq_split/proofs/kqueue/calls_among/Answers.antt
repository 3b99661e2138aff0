use Rattle.std.proofs.Common.{◌∙◌, ◌+◌, get_or, drop, sym, ap, arith}
use Rattle.std.proofs.lemmas.List.{at_drop_more, at_drop_all}
use Rattle.kq_projection.specs.declared.history.item.Item.{Item}
use Rattle.kq_projection.specs.declared.history.item.What.TheVariants.{Closed}
use Rattle.kq_split.specs.Lines.{call_count}
use Rattle.kq_split.proofs.kqueue.calls_among.Goals as goal

-- what a read past the end of the items would give
abbrev no_item : Item
no_item = record { place = 0; what = Closed 0 0 }

pub loop-item-preserved : goal.loop-item-preserved
unfolding call_count
loop-item-preserved c =
    let i = c.loop-item.item-index in
    let items = c.args.items.now in
    let next = at_drop_more call_count items i no_item (omega arith) in
    let is = c.calls_in-calls.ensures.calls in
    let few = c.calls_in-calls.ensures.few in
    record {
      left = omega (arith, is, next, c.loop-item.invariant.left);
      few = omega (arith, few, c.loop-item.invariant.few);
    }

pub returns : goal.returns
unfolding call_count
returns c =
    let none = at_drop_all call_count c.args.items.now c.loop-item.item-index (omega arith) in
    omega (arith, none, c.loop-item.invariant.left)
