-- Records about sockets by example: each effect, each hint and each reason.
use Rattle.std.specs.Prelude.{◌≡◌, pos, true, false, [], ◌∷◌, None, Some}
use Rattle.std.proofs.Common.{refl}
use Rattle.kq_model.specs.declared.act.Act.TheVariants.{Socket, Listen, Arrive, Accept, Connect, Receive, Transmit, Shut, LowWater, Pipe, Read, Write}
use Rattle.kq_model.specs.declared.object.Hint.TheVariants.{Readable, Writable}
use Rattle.kq_model.specs.declared.object.Named.TheVariants as on
use Rattle.kq_model.specs.declared.object.Target.TheVariants as target
use Rattle.kq_model.specs.declared.object.View.TheVariants as view
use Rattle.kq_model.specs.declared.side.Side.TheVariants as side
use Rattle.kq_model.specs.declared.why.Why.TheVariants.{WrongKind, Absent, TooMany}
use Rattle.kq_model.proofs.ObjectBuilders.{objects_opened, answers, after, seen, quiet, says, cannot}

-- a new socket: its low-water marks are 1 and the lesser of 2,048 and its send buffer
pub new_sockets : seen (target.Socket 1) (after (Socket 100 200 ∷ [])) ≡ Some (view.Sock (pos 0) (pos 1) false false 0 (pos 200) (pos 200) false 0)
unfolding objects_opened
new_sockets = refl

pub large_send_buffer : seen (target.Socket 1) (after (Socket 100 5000 ∷ [])) ≡ Some (view.Sock (pos 0) (pos 1) false false 0 (pos 5000) (pos 2048) false 0)
unfolding objects_opened
large_send_buffer = refl

pub buffer_sizes : answers (Socket 0 1 ∷ Socket 1 0 ∷ Socket 2147483647 2147483647 ∷ Socket 2147483648 1 ∷ Socket 1 2147483648 ∷ [])
    ≡ cannot TooMany ∷ cannot TooMany ∷ quiet ∷ cannot TooMany ∷ cannot TooMany ∷ []
unfolding objects_opened
buffer_sizes = refl

-- ---- listening

pub listening : answers (Socket 9 9 ∷ Listen (on.Socket 1) 2 ∷ Arrive (on.Socket 1) ∷ Arrive (on.Socket 1) ∷ Arrive (on.Socket 1) ∷ [])
    ≡ quiet ∷ quiet ∷ says (target.Socket 1) Readable ∷ says (target.Socket 1) Readable ∷ cannot TooMany ∷ []
unfolding objects_opened
listening = refl

pub listening_seen : seen (target.Socket 1) (after (Socket 9 9 ∷ Listen (on.Socket 1) 2 ∷ Arrive (on.Socket 1) ∷ Arrive (on.Socket 1) ∷ [])) ≡ Some (view.Listen (pos 2))
unfolding objects_opened
listening_seen = refl

-- only an unconnected socket can listen; what is wrong with it comes before the backlog
pub cannot_listen : answers (Socket 9 9 ∷ Listen (on.Socket 1) 0 ∷ Listen (on.Socket 1) 2147483648 ∷ Listen (on.Socket 1) 1 ∷ Listen (on.Socket 1) 0
    ∷ Socket 9 9 ∷ Connect (on.Socket 6) ∷ Listen (on.Socket 6) 1 ∷ Pipe 9 ∷ Listen (on.PipeRead 9) 1 ∷ Listen (on.Kqueue 3) 1 ∷ [])
    ≡ quiet ∷ cannot TooMany ∷ cannot TooMany ∷ quiet ∷ cannot WrongKind
    ∷ quiet ∷ says (target.Socket 6) Writable ∷ cannot WrongKind ∷ quiet ∷ cannot WrongKind ∷ cannot WrongKind ∷ []
unfolding objects_opened
cannot_listen = refl

pub cannot_arrive : answers (Socket 9 9 ∷ Arrive (on.Socket 1) ∷ Connect (on.Socket 1) ∷ Arrive (on.Socket 1) ∷ [])
    ≡ quiet ∷ cannot WrongKind ∷ says (target.Socket 1) Writable ∷ cannot WrongKind ∷ []
unfolding objects_opened
cannot_arrive = refl

-- ---- accepting

pub accepting : answers (Socket 9 9 ∷ Listen (on.Socket 1) 2 ∷ Arrive (on.Socket 1) ∷ Accept (on.Socket 1) 0 9 ∷ Accept (on.Socket 1) 10 3000 ∷ Accept (on.Socket 1) 0 10 ∷ Receive (on.Socket 5) 11 ∷ [])
    ≡ quiet ∷ quiet ∷ says (target.Socket 1) Readable ∷ cannot TooMany ∷ quiet ∷ cannot Absent ∷ cannot TooMany ∷ []
unfolding objects_opened
accepting = refl

-- the new socket is connected and has the marks of a new one; one fewer waits
pub accepted : seen (target.Socket 4) (after (Socket 9 9 ∷ Listen (on.Socket 1) 2 ∷ Arrive (on.Socket 1) ∷ Accept (on.Socket 1) 10 3000 ∷ []))
    ≡ Some (view.Sock (pos 0) (pos 1) false true 0 (pos 3000) (pos 2048) false 0)
unfolding objects_opened
accepted = refl

pub one_fewer : seen (target.Socket 1) (after (Socket 9 9 ∷ Listen (on.Socket 1) 2 ∷ Arrive (on.Socket 1) ∷ Arrive (on.Socket 1) ∷ Accept (on.Socket 1) 1 1 ∷ []))
    ≡ Some (view.Listen (pos 1))
unfolding objects_opened
one_fewer = refl

pub cannot_accept : answers (Socket 9 9 ∷ Accept (on.Socket 1) 0 0 ∷ Listen (on.Socket 1) 1 ∷ Accept (on.Socket 1) 0 0 ∷ [])
    ≡ quiet ∷ cannot WrongKind ∷ quiet ∷ cannot Absent ∷ []
unfolding objects_opened
cannot_accept = refl

-- ---- connecting

pub connecting : answers (Socket 9 9 ∷ Connect (on.Socket 1) ∷ Connect (on.Socket 1) ∷ Socket 9 9 ∷ Listen (on.Socket 4) 1 ∷ Connect (on.Socket 4) ∷ [])
    ≡ quiet ∷ says (target.Socket 1) Writable ∷ cannot WrongKind ∷ quiet ∷ quiet ∷ cannot WrongKind ∷ []
unfolding objects_opened
connecting = refl

-- ---- bytes

-- the receive buffer holds 10: bytes come, are read, and are too many to come or to be read
pub bytes_in : answers (Socket 10 9 ∷ Connect (on.Socket 1) ∷ Receive (on.Socket 1) 10 ∷ Receive (on.Socket 1) 1 ∷ Read (on.Socket 1) 11 ∷ Read (on.Socket 1) 4 ∷ Receive (on.Socket 1) 0 ∷ [])
    ≡ quiet ∷ says (target.Socket 1) Writable ∷ says (target.Socket 1) Readable ∷ cannot TooMany ∷ cannot TooMany ∷ quiet ∷ says (target.Socket 1) Readable ∷ []
unfolding objects_opened
bytes_in = refl

pub bytes_in_seen : seen (target.Socket 1) (after (Socket 10 9 ∷ Connect (on.Socket 1) ∷ Receive (on.Socket 1) 10 ∷ Read (on.Socket 1) 4 ∷ Receive (on.Socket 1) 2 ∷ []))
    ≡ Some (view.Sock (pos 8) (pos 1) false true 0 (pos 9) (pos 9) false 0)
unfolding objects_opened
bytes_in_seen = refl

-- the send buffer holds 10
pub bytes_out : answers (Socket 9 10 ∷ Connect (on.Socket 1) ∷ Write (on.Socket 1) 11 ∷ Write (on.Socket 1) 10 ∷ Write (on.Socket 1) 1 ∷ Transmit (on.Socket 1) 11 ∷ Transmit (on.Socket 1) 3 ∷ Write (on.Socket 1) 3 ∷ [])
    ≡ quiet ∷ says (target.Socket 1) Writable ∷ cannot TooMany ∷ quiet ∷ cannot TooMany ∷ cannot TooMany ∷ says (target.Socket 1) Writable ∷ quiet ∷ []
unfolding objects_opened
bytes_out = refl

pub bytes_out_seen : seen (target.Socket 1) (after (Socket 9 10 ∷ Connect (on.Socket 1) ∷ Write (on.Socket 1) 10 ∷ Transmit (on.Socket 1) 3 ∷ []))
    ≡ Some (view.Sock (pos 0) (pos 1) false true 0 (pos 3) (pos 10) false 0)
unfolding objects_opened
bytes_out_seen = refl

-- an unconnected socket has nothing to read, and takes nothing
pub unconnected : answers (Socket 9 9 ∷ Receive (on.Socket 1) 0 ∷ Transmit (on.Socket 1) 0 ∷ Write (on.Socket 1) 0 ∷ Read (on.Socket 1) 1 ∷ Read (on.Socket 1) 0 ∷ [])
    ≡ quiet ∷ cannot WrongKind ∷ cannot WrongKind ∷ cannot WrongKind ∷ cannot TooMany ∷ quiet ∷ []
unfolding objects_opened
unconnected = refl

pub listening_takes_nothing : answers (Socket 9 9 ∷ Listen (on.Socket 1) 1 ∷ Receive (on.Socket 1) 0 ∷ Transmit (on.Socket 1) 0 ∷ Write (on.Socket 1) 0 ∷ Read (on.Socket 1) 0 ∷ Shut (on.Socket 1) side.Read 0 ∷ LowWater (on.Socket 1) side.Read 0 ∷ [])
    ≡ quiet ∷ quiet ∷ cannot WrongKind ∷ cannot WrongKind ∷ cannot WrongKind ∷ cannot WrongKind ∷ cannot WrongKind ∷ cannot WrongKind ∷ []
unfolding objects_opened
listening_takes_nothing = refl

-- ---- shutting a side

pub shut_read : answers (Socket 9 9 ∷ Connect (on.Socket 1) ∷ Receive (on.Socket 1) 2 ∷ Shut (on.Socket 1) side.Read 54 ∷ Receive (on.Socket 1) 0 ∷ Read (on.Socket 1) 1 ∷ Write (on.Socket 1) 1 ∷ [])
    ≡ quiet ∷ says (target.Socket 1) Writable ∷ says (target.Socket 1) Readable ∷ says (target.Socket 1) Readable ∷ cannot WrongKind ∷ quiet ∷ quiet ∷ []
unfolding objects_opened
shut_read = refl

pub shut_write : answers (Socket 9 9 ∷ Connect (on.Socket 1) ∷ Write (on.Socket 1) 2 ∷ Shut (on.Socket 1) side.Write 32 ∷ Write (on.Socket 1) 0 ∷ Transmit (on.Socket 1) 1 ∷ Receive (on.Socket 1) 1 ∷ [])
    ≡ quiet ∷ says (target.Socket 1) Writable ∷ quiet ∷ says (target.Socket 1) Writable ∷ cannot WrongKind ∷ says (target.Socket 1) Writable ∷ says (target.Socket 1) Readable ∷ []
unfolding objects_opened
shut_write = refl

-- the last error given counts; an unconnected socket can be shut, and can listen afterwards
pub shut_seen : seen (target.Socket 1) (after (Socket 9 9 ∷ Shut (on.Socket 1) side.Read 54 ∷ Shut (on.Socket 1) side.Write 32 ∷ Shut (on.Socket 1) side.Read 0 ∷ []))
    ≡ Some (view.Sock (pos 0) (pos 1) true false 0 (pos 9) (pos 9) true 32)
unfolding objects_opened
shut_seen = refl

pub shut_then_listening : seen (target.Socket 1) (after (Socket 9 9 ∷ Shut (on.Socket 1) side.Read 54 ∷ Listen (on.Socket 1) 1 ∷ [])) ≡ Some (view.Listen (pos 0))
unfolding objects_opened
shut_then_listening = refl

-- ---- low-water marks: from 1 to the side's buffer

pub marks : answers (Socket 5 7 ∷ LowWater (on.Socket 1) side.Read 0 ∷ LowWater (on.Socket 1) side.Read 6 ∷ LowWater (on.Socket 1) side.Read 5 ∷ LowWater (on.Socket 1) side.Write 8 ∷ LowWater (on.Socket 1) side.Write 6 ∷ LowWater (on.Kqueue 1) side.Read 1 ∷ [])
    ≡ quiet ∷ cannot TooMany ∷ cannot TooMany ∷ says (target.Socket 1) Readable ∷ cannot TooMany ∷ says (target.Socket 1) Writable ∷ cannot WrongKind ∷ []
unfolding objects_opened
marks = refl

pub marks_seen : seen (target.Socket 1) (after (Socket 5 7 ∷ LowWater (on.Socket 1) side.Read 5 ∷ LowWater (on.Socket 1) side.Write 6 ∷ []))
    ≡ Some (view.Sock (pos 0) (pos 5) false false 0 (pos 7) (pos 6) false 0)
unfolding objects_opened
marks_seen = refl

-- ---- a socket that was not made

pub not_made : seen (target.Socket 1) (after []) ≡ None
unfolding objects_opened
not_made = refl
