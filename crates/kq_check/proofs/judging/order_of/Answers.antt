-- The judgement, and whether the order as it stands gives the same.
use Rattle.std.proofs.Common.{◌≡◌, ap, sym}
use Rattle.kq_model.specs.World.{views_of}
use Rattle.kq_process.specs.World.{world_of}
use Rattle.kq_system.specs.Beginning.{live_named}
use Rattle.kq_system.specs.SystemState.{system_of}
use Rattle.kq_check.proofs.Orders.{IsThatOne, no_order, this_order}
use Rattle.kq_check.proofs.judging.order_of.Goals as goal

pub returns-then-are_same : goal.returns-then-are_same
returns-then-are_same c =
    let one : IsThatOne (live_named c.args.call.pid c.args.call.fd (system_of c.args.system.now)) (system_of c.args.system.now)
    (views_of (world_of c.world-world.result.now)) c.in-Some.kq.now.kq =
    record {
      live = c.in-Some.ensures.live;
      is = c.in-Some.ensures.is;
      kq_is = c.in-Some.ensures.kq_is;
      views_is = ap (λ w. views_of (world_of w)) c.world-world.ensures;
    } in
    this_order c.args.ignored.now c.args.call.room c.args.own.now _ _ _ c.in-Some.kq.now.kq c.in_ok-events-in-Allowed.events.items one
    c.in_ok-events-in-Allowed.ensures c.in_ok-judge.ensures.first (rw c.as_slice.ensures.value at c.if-are_same.ensures)

pub returns-in-Wrong : goal.returns-in-Wrong
returns-in-Wrong c =
    let one : IsThatOne (live_named c.args.call.pid c.args.call.fd (system_of c.args.system.now)) (system_of c.args.system.now)
    (views_of (world_of c.world-world.result.now)) c.in-Some.kq.now.kq =
    record {
      live = c.in-Some.ensures.live;
      is = c.in-Some.ensures.is;
      kq_is = c.in-Some.ensures.kq_is;
      views_is = ap (λ w. views_of (world_of w)) c.world-world.ensures;
    } in
    let judged = rw c.in-Wrong.is at c.in_ok-judge.ensures.judged in
    no_order c.args.ignored.now c.args.call.room c.args.own.now _ _ _ c.in-Some.kq.now.kq one judged.0
