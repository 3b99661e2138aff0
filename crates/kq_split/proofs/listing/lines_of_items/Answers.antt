use Rattle.std.proofs.Common.{◌∙◌, ◌+◌, ◌++◌, get_or, drop, sym, ap, arith, append-nil, append_assoc}
use Rattle.std.proofs.lemmas.List.{at_drop_more, at_drop_all}
use Rattle.kq_projection.specs.declared.history.item.Item.{Item}
use Rattle.kq_projection.specs.declared.history.item.What.TheVariants.{Closed}
use Rattle.kq_split.specs.Lines.{item_line, item_lines}
use Rattle.kq_split.proofs.listing.lines_of_items.Goals as goal

-- what a read past the end of the items would give
abbrev no_item : Item
no_item = record { place = 0; what = Closed 0 0 }

pub loop-item-preserved : goal.loop-item-preserved
unfolding item_lines
loop-item-preserved c =
    let i = c.loop-item.item-index in
    let items = c.args.items.now in
    let before = c.loop-item.text.items in
    let rest = item_lines (drop (i + 1) items) in
    ap (λ text. text ++ rest) c.in_ok-put_item.ensures.is
    ∙ append_assoc before (item_line (get_or items i no_item)) rest
    ∙ ap (λ text. before ++ text) (sym (at_drop_more item_lines items i no_item (omega arith)))
    ∙ c.loop-item.invariant

pub returns : goal.returns
unfolding item_lines
returns c =
    let text = c.loop-item.text.items in
    sym (append-nil text)
    ∙ ap (λ rest. text ++ rest) (sym (at_drop_all item_lines c.args.items.now c.loop-item.item-index (omega arith)))
    ∙ c.loop-item.invariant
