use Rattle.std.proofs.Common.{arith}
use Rattle.kq_kevent.proofs.NextLaws.{next-none, next-some}
use Rattle.kq_kevent.proofs.kq.Kq.next_expiry.Goals as goal

pub returns-then-soonest-gt-LAST_MOMENT : goal.returns-then-soonest-gt-LAST_MOMENT
returns-then-soonest-gt-LAST_MOMENT c =
    let e = c.next_moment-soonest.ensures in
    next-none c.args.now c.next_moment-soonest.result c.args.self.now.kq.knotes (omega arith) e.none (omega arith)

pub returns : goal.returns
returns c =
    let e = c.next_moment-soonest.ensures in
    next-some c.args.now c.next_moment-soonest.result c.args.self.now.kq.knotes (omega arith) (omega (arith, e.later)) (omega arith) e.none e.reached
