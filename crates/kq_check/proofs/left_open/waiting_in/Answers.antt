-- The kqueue is there, or there is none.
use Rattle.kq_check.proofs.Unanswered.{none_waits, waiting_is}
use Rattle.kq_check.proofs.left_open.waiting_in.Goals as goal

pub returns-in-Some : goal.returns-in-Some
returns-in-Some c =
    waiting_is _ c.in-Some.ensures.live c.in-Some.kq.now.kq c.waiting_len.result c.in-Some.ensures.is c.in-Some.ensures.kq_is
    c.waiting_len.ensures.len

pub returns-in-None : goal.returns-in-None
returns-in-None c = none_waits _ c.in-None.ensures
