use Rattle.std.proofs.Common.{rules}
use Rattle.kq_lock.proofs.Apart.{apart_of_parted}
use Rattle.kq_lock.proofs.Seating.{more_seats, all_seats}
use Rattle.kq_lock.proofs.lock.TurnLock.new.Goals as goal

pub loop-preserved : goal.loop-preserved
loop-preserved g c = (
  more_seats c.in_ok-lock.lock c.loop.first c.split-next.new.seat c.split-next.result
      c.loop.all.items c.push_reserved.new.self.items c.loop.invariant.0 c.split-next.ensures.kept
      c.split-next.ensures.new c.split-next.ensures.halves c.push_reserved.ensures.items,
  search rules,
  search rules,
)

pub returns-clause-fresh : goal.returns-clause-fresh
returns-clause-fresh g c =
    let made = all_seats c.in_ok-lock.lock c.loop.first c.loop.all.items
    c.push_reserved-2.new.self.items c.loop.invariant.0 c.push_reserved-2.ensures.items in
    made.0

pub returns-clause-apart : goal.returns-clause-apart
returns-clause-apart g c =
    let made = all_seats c.in_ok-lock.lock c.loop.first c.loop.all.items
    c.push_reserved-2.new.self.items c.loop.invariant.0 c.push_reserved-2.ensures.items in
    apart_of_parted c.push_reserved-2.new.self.items made.1

pub returns-clause-parted : goal.returns-clause-parted
returns-clause-parted g c =
    let made = all_seats c.in_ok-lock.lock c.loop.first c.loop.all.items
    c.push_reserved-2.new.self.items c.loop.invariant.0 c.push_reserved-2.ensures.items in
    made.1
