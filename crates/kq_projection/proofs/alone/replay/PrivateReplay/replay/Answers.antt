use Rattle.std.proofs.Common.{◌≡◌, ◌∙◌, ℕ, List, sym, ap, ap₂, subst}
use Rattle.std.specs.List.{All}
use Rattle.kq_projection.specs.declared.history.item.Item.{Item}
use Rattle.kq_projection.specs.Traced.{Traced}
use Rattle.kq_projection.specs.LoneKqueue.{LoneKqueue, after_items, unborn}
use Rattle.kq_projection.specs.Recorded.{IsRecorded}
use Rattle.kq_projection.specs.Replayed.{IsReplayed}
use Rattle.kq_projection.proofs.PrivateRows.{private-recorded, private-replayed}
use Rattle.kq_projection.proofs.alone.replay.PrivateReplay.replay.Goals as goal

pub rows_alone-requires : goal.rows_alone-requires
rows_alone-requires c =
    let p = c.args.self.now in
    subst (λ (t : Traced). All (IsRecorded t) c.items.result.now) (sym c.split.ensures)
    (subst (λ (items : List Item). All (IsRecorded p.split.now) items) (sym c.items.ensures)
    (private-recorded p.split.now p.kqueue p.owner p.items.items p.own))

pub returns : goal.returns
returns c =
    let p = c.args.self.now in
    let start : unborn c.split.result.now c.owner.result ≡ unborn p.split.now p.owner =
    ap₂ (λ (t : Traced) (owner : ℕ). unborn t owner) c.split.ensures c.owner.ensures in
    subst (λ (place : ℕ). IsReplayed p.split.now p.kqueue (record { kqueue = place; rows = c.in_ok-rows.rows })) (sym c.kqueue.ensures)
    (private-replayed p.split.now p.kqueue p.owner p.items.items p.own c.in_ok-rows.rows
    (c.in_ok-rows.ensures ∙ ap (λ (a : LoneKqueue). a.rows) (ap₂ after_items c.items.ensures start)))
