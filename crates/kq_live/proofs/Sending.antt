-- What of a live system may go to another thread, or lie before several. The machine has a box and an allocator, and a
-- snapshot, which owns nothing; a seat and the lock are the machine's, an event's and a reply's.
use denote.RattleType.{RattleType}
use denote.Param.Send.{IsSend, IsSync, sendable}
use Rattle.std.specs.contracts.snapshot.Snapshot as snapshot
use Rattle.std.proofs.Crossing.{Box-send}
use Rattle.kq_model.specs.contracts.event.Event as event
use Rattle.kq_model.specs.contracts.reply.Reply as reply
use Rattle.kq_model.proofs.event.Event.TheSendSync as an_event
use Rattle.kq_model.proofs.reply.Reply.TheSendSync as a_reply
use Rattle.kq_lock.specs.contracts.lock.TurnLock as lock
use Rattle.kq_lock.specs.contracts.seat.TurnSeat as seat
use Rattle.kq_lock.proofs.lock.TurnLock.TheSendSync as a_lock
use Rattle.kq_lock.proofs.seat.TurnSeat.TheSendSync as a_seat
use Rattle.kq_system.proofs.system.System.TheSendSync as system
use Rattle.kq_live.specs.contracts.machine.LiveMachine as machine
use Rattle.kq_live.specs.contracts.machine.LiveMachineMachine.TheImpl.{ghosts}
use Rattle.kq_live.specs.contracts.live.Live as live

snapshot_send : (Y : RattleType) → IsSend (snapshot.the_row Y)
snapshot_send Y = record { owned = λ d vs. ((λ vss. (tt, ((λ uss. (tt, tt)), tt))), tt); leaving = λ k f vs. tt }

pub machine_send : IsSend machine.the_row
machine_send = search (sendable, Box-send, snapshot_send, system.the_send) depth 20

pub seat_send : IsSend (seat.the_row machine.the_row event.the_row reply.the_row ghosts)
seat_send =
    a_seat.the_send machine.the_row event.the_row reply.the_row ghosts machine_send an_event.the_send a_reply.the_send

lock_sync : IsSync (lock.the_row machine.the_row event.the_row reply.the_row ghosts)
lock_sync =
    a_lock.the_sync machine.the_row event.the_row reply.the_row ghosts machine_send an_event.the_send a_reply.the_send

pub live_sync : IsSync live.the_row
live_sync = search (lock_sync, sendable) depth 20
