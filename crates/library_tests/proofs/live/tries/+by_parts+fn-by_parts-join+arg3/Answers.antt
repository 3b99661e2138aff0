-- A seat may go to another thread, and the live system lie before both.
use denote.Param.Send.{sendable}
use Rattle.kq_live.proofs.Sending.{seat_send, live_sync}
use Rattle.library_tests.proofs.live.tries.+by_parts+fn-by_parts-join+arg3.Goals as goal

pub join-first-requires-send-F : goal.join-first-requires-send-F
join-first-requires-send-F g c κs within = search (seat_send, live_sync, sendable) depth 20

pub join-first-requires-send-A : goal.join-first-requires-send-A
join-first-requires-send-A g c κs within = search (seat_send, sendable) depth 20
