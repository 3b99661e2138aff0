use Rattle.std.proofs.Common.{◌≤◌, le_refl, map, ap, ◌∙◌, arith}
use Rattle.slab.specs.Slab.{Slab, slab_len}
use Rattle.kq_table.specs.declared.node.Node.{Node}
use Rattle.kq_table.specs.declared.node.Thread.TheVariants.{Order, Queue}
use Rattle.kq_table.specs.Rows.{Tabled}
use Rattle.kq_table.specs.Threads.{rows_along}
use Rattle.kq_table.proofs.RoomLaws.{roomier}
use Rattle.kq_table.proofs.table.Table.reserve.Goals as goal

pub invariant_of-self : goal.invariant_of-self
invariant_of-self g c =
    let i = c.self.inside in
    let k = c.self.invariant in
    let is = c.in_err-fit.ensures in
    let room = k.room in
    roomier k c.fit.new.nodes c.fit.new.index c.fit.new.targets i.limit is.nodes is.keys is.targets (le_refl _) (omega arith) (omega arith) (omega arith)

pub returns-in_err-fit-clause-rows : goal.returns-in_err-fit-clause-rows
returns-in_err-fit-clause-rows g c =
    ap (λ (s : Slab (Node g.row.T.Denot)). rows_along Order s (slab_len s) c.self.inside.order.first) c.fit.ensures.nodes
    ∙ ap (λ (v : Tabled g.row.T-Key.Denot g.row.T.Denot). v.rows) c.self.view_is

pub returns-in_err-fit-clause-queue : goal.returns-in_err-fit-clause-queue
returns-in_err-fit-clause-queue g c =
    ap (λ (s : Slab (Node g.row.T.Denot)). map g.T.Keyed.key_of (rows_along Queue s c.self.inside.waiting c.self.inside.queue.first)) c.fit.ensures.nodes
    ∙ ap (λ (v : Tabled g.row.T-Key.Denot g.row.T.Denot). v.queue) c.self.view_is

pub invariant_of-self-2 : goal.invariant_of-self-2
invariant_of-self-2 g c =
    let i = c.self.inside in
    let k = c.self.invariant in
    let is = c.in_ok-fit.ensures in
    let room_is = ap (λ (v : Tabled g.row.T-Key.Denot g.row.T.Denot). v.room) c.self.view_is in
    let room = c.room.ensures in
    let len = c.len.ensures in
    let sum = c.in-Some.ensures in
    let up : i.limit ≤ c.in-Some.limit = omega arith in
    roomier k c.fit.new.nodes c.fit.new.index c.fit.new.targets c.in-Some.limit is.nodes is.keys is.targets up is.nodes_fit is.keys_fit is.targets_fit

pub returns-clause-rows : goal.returns-clause-rows
returns-clause-rows g c =
    ap (λ (s : Slab (Node g.row.T.Denot)). rows_along Order s (slab_len s) c.self.inside.order.first) c.fit.ensures.nodes
    ∙ ap (λ (v : Tabled g.row.T-Key.Denot g.row.T.Denot). v.rows) c.self.view_is

pub returns-clause-queue : goal.returns-clause-queue
returns-clause-queue g c =
    ap (λ (s : Slab (Node g.row.T.Denot)). map g.T.Keyed.key_of (rows_along Queue s c.self.inside.waiting c.self.inside.queue.first)) c.fit.ensures.nodes
    ∙ ap (λ (v : Tabled g.row.T-Key.Denot g.row.T.Denot). v.queue) c.self.view_is
