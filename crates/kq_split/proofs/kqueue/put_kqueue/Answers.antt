use Rattle.std.proofs.Common.{ℕ, List, refl, sym, subst}
use Rattle.std.proofs.lemmas.Result.{on_ok_weaker}
use Rattle.kq_projection.specs.declared.history.item.Item.{Item}
use Rattle.kq_projection.specs.Private.{IsPrivate}
use Rattle.kq_split.specs.Lines.{kqueue_line}
use Rattle.kq_split.proofs.Born.{born-record, is-birth}
use Rattle.kq_split.proofs.kqueue.put_kqueue.Goals as goal

pub number_at-requires : goal.number_at-requires
number_at-requires c = born-record c.args.split.now c.args.place c.requires

pub returns : goal.returns
returns c =
    let t = c.args.split.now in
    let place = c.args.place in
    let owner = c.owner.result in
    let items = c.items.result.now in
    let (other, record_is) = c.number_at.ensures in
    let own = subst (λ (o : ℕ). IsPrivate t place o items) (sym c.owner.ensures)
    (subst (λ (is : List Item). IsPrivate t place c.in_ok-list.list.owner is) (sym c.items.ensures) c.in_ok-list.ensures.items) in
    on_ok_weaker c.put_line.result
    (λ added. (
      kqueue_line place owner c.number_at.result items,
      record {
        owner = owner;
        number = c.number_at.result;
        items = items;
        born = is-birth t place owner c.number_at.result other items own record_is;
        own = own;
        is = refl;
      },
      added,
    ))
    c.put_line.ensures
