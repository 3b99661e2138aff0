-- Sockets, files, signals and the clock by example, as the records of a trace give them.
use Rattle.std.specs.Prelude.{◌≡◌, ℕ, pos, negsuc, ◌^◌, true, false, List, [], ◌∷◌, Some}
use Rattle.std.proofs.Common.{refl}
use Rattle.kq_model.specs.declared.act.Act.TheVariants as act
use Rattle.kq_model.specs.declared.mode.Mode.{Mode}
use Rattle.kq_model.specs.declared.mode.Mode.TheVariants as mode
use Rattle.kq_model.specs.declared.note.Note.TheVariants as note
use Rattle.kq_model.specs.declared.object.Hint.TheVariants.{Readable, Writable, Note, Delivered}
use Rattle.kq_model.specs.declared.object.Target.TheVariants as target
use Rattle.kq_model.specs.declared.object.View.TheVariants as view
use Rattle.kq_model.specs.declared.side.Side.TheVariants as side
use Rattle.kq_model.specs.declared.why.Why.TheVariants.{NoProcess, UsedDescriptor, WrongKind, Absent, UsedFile, ClockBack, TooMany}
use Rattle.kq_model.specs.DescriptorPlans.{plan_close}
use Rattle.kq_model.specs.ObjectRecordPlans.{plan_act, plan_at, plan_accept, plan_open, plan_socket}
use Rattle.kq_model.specs.ProcessPlans.{plan_proc, plan_exit, plan_sigset, plan_sig, plan_clock_at}
use Rattle.kq_model.specs.World.{view_in}
use Rattle.kq_model.proofs.WorldPlayed.{Done, Refused, Planning, outcomes, world_after, world_opened}

abbrev proc : ℕ → Planning
proc pid place w = plan_proc pid w

-- of process 1
abbrev socket : ℕ → ℕ → ℕ → Planning
socket fd receive send place w = plan_socket place 1 fd receive send w

abbrev accept : ℕ → ℕ → ℕ → Planning
accept fd to size place w = plan_accept place 1 fd to size size w

abbrev listen : ℕ → ℕ → Planning
listen fd backlog place w = plan_at place 1 fd (λ on. act.Listen on backlog) w

abbrev arrive : ℕ → Planning
arrive fd place w = plan_at place 1 fd (λ on. act.Arrive on) w

abbrev connect : ℕ → Planning
connect fd place w = plan_at place 1 fd (λ on. act.Connect on) w

abbrev receive : ℕ → ℕ → Planning
receive fd bytes place w = plan_at place 1 fd (λ on. act.Receive on bytes) w

abbrev transmit : ℕ → ℕ → Planning
transmit fd bytes place w = plan_at place 1 fd (λ on. act.Transmit on bytes) w

abbrev read : ℕ → ℕ → Planning
read fd bytes place w = plan_at place 1 fd (λ on. act.Read on bytes) w

abbrev write : ℕ → ℕ → Planning
write fd bytes place w = plan_at place 1 fd (λ on. act.Write on bytes) w

abbrev close : ℕ → Planning
close fd place w = plan_close 1 fd w

-- ---- a server's connections wait, and are accepted one by one

abbrev server : List Planning
server =
    proc 1 ∷ socket 3 100 100 ∷ listen 3 2 ∷ arrive 3 ∷ accept 3 5 10 ∷ accept 3 6 10 ∷ receive 5 11
    ∷ accept 3 3 10 ∷ receive 5 10 ∷ receive 5 1 ∷ receive 3 1 ∷ listen 3 1 ∷ connect 5 ∷ read 5 10 ∷ write 5 4
    ∷ transmit 5 5 ∷ transmit 5 4 ∷ write 3 1 ∷ arrive 5 ∷ []

pub server_outcomes : outcomes server ≡
    Done [] [] ∷ Done [] [] ∷ Done [] []
    ∷ Done [] ((target.Socket 2, Readable) ∷ [])
    ∷ Done [] []
    ∷ Refused Absent
    ∷ Refused TooMany
    ∷ Refused UsedDescriptor
    ∷ Done [] ((target.Socket 5, Readable) ∷ [])
    ∷ Refused TooMany
    ∷ Refused WrongKind
    ∷ Refused WrongKind
    ∷ Refused WrongKind
    ∷ Done [] []
    ∷ Done [] []
    ∷ Refused TooMany
    ∷ Done [] ((target.Socket 5, Writable) ∷ [])
    ∷ Refused WrongKind
    ∷ Refused WrongKind ∷ []
unfolding world_opened
server_outcomes = refl

-- ---- a side that was shut, low-water marks, and what is seen of the socket

abbrev shut_socket : List Planning
shut_socket =
    proc 1 ∷ socket 3 100 100 ∷ connect 3 ∷ write 3 60
    ∷ (λ place w. plan_at place 1 3 (λ on. act.LowWater on side.Write 40) w)
    ∷ (λ place w. plan_at place 1 3 (λ on. act.LowWater on side.Read 101) w)
    ∷ (λ place w. plan_at place 1 3 (λ on. act.Shut on side.Write 32) w)
    ∷ write 3 0 ∷ receive 3 7 ∷ []

pub shut_socket_outcomes : outcomes shut_socket ≡
    Done [] [] ∷ Done [] []
    ∷ Done [] ((target.Socket 2, Writable) ∷ [])
    ∷ Done [] []
    ∷ Done [] ((target.Socket 2, Writable) ∷ [])
    ∷ Refused TooMany
    ∷ Done [] ((target.Socket 2, Writable) ∷ [])
    ∷ Refused WrongKind
    ∷ Done [] ((target.Socket 2, Readable) ∷ []) ∷ []
unfolding world_opened
shut_socket_outcomes = refl

pub shut_socket_view : view_in (world_after shut_socket) (target.Socket 2)
    ≡ Some (view.Sock (pos 7) (pos 1) false true 0 (pos 40) (pos 40) true 32)
unfolding world_opened
shut_socket_view = refl

-- ---- files: two descriptions of one file, and the last descriptor of each

abbrev opens : ℕ → Mode → Planning
opens fd mode place w = plan_open place 1 fd 8 mode w

abbrev files : List Planning
files =
    proc 1 ∷ opens 3 mode.Read
    ∷ (λ place w. plan_act place [] (act.File 8 (pos 0)) w)
    ∷ (λ place w. plan_act place [] (act.File 8 (pos 0)) w)
    ∷ opens 3 mode.Read ∷ opens 4 mode.Write ∷ write 4 6 ∷ write 4 0 ∷ read 3 7 ∷ read 3 5 ∷ read 4 0 ∷ write 3 0
    ∷ (λ place w. plan_act place [] (act.Truncate 8 (pos 2)) w)
    ∷ read 3 1 ∷ read 3 0 ∷ close 4 ∷ close 3
    ∷ (λ place w. plan_act place [] (act.Note 8 note.Delete) w)
    ∷ opens 5 mode.Read ∷ []

pub files_outcomes : outcomes files ≡
    Done [] []
    ∷ Refused Absent
    ∷ Done [] []
    ∷ Refused UsedFile
    ∷ Done [] ((target.File 8, Note 128) ∷ [])
    ∷ Done [] ((target.File 8, Note 128) ∷ [])
    ∷ Done [] ((target.Open 5, Readable) ∷ (target.Open 6, Readable) ∷ (target.File 8, Note 6) ∷ [])
    ∷ Done [] ((target.Open 5, Readable) ∷ (target.Open 6, Readable) ∷ (target.File 8, Note 2) ∷ [])
    ∷ Refused TooMany
    ∷ Done [] ((target.File 8, Note 1024) ∷ [])
    ∷ Refused WrongKind
    ∷ Refused WrongKind
    ∷ Done [] ((target.Open 5, Readable) ∷ (target.Open 6, Readable) ∷ (target.File 8, Note 8) ∷ [])
    ∷ Refused TooMany
    ∷ Done [] ((target.File 8, Note 1024) ∷ [])
    ∷ Done (record { pid = 1; number = 4 } ∷ []) ((target.File 8, Note 512) ∷ [])
    ∷ Done (record { pid = 1; number = 3 } ∷ []) ((target.File 8, Note 256) ∷ [])
    ∷ Done [] ((target.File 8, Note 1) ∷ [])
    ∷ Refused Absent ∷ []
unfolding world_opened
files_outcomes = refl

-- ---- signals and the clock

abbrev signals : List Planning
signals =
    proc 1
    ∷ (λ place w. plan_sig 1 20 w)
    ∷ (λ place w. plan_sigset 1 20 true w)
    ∷ (λ place w. plan_sigset 1 15 true w)
    ∷ (λ place w. plan_sig 1 20 w)
    ∷ (λ place w. plan_sig 1 15 w)
    ∷ (λ place w. plan_sigset 1 20 false w)
    ∷ (λ place w. plan_sig 1 20 w)
    ∷ (λ place w. plan_sig 1 0 w)
    ∷ (λ place w. plan_sigset 1 129 true w)
    ∷ (λ place w. plan_clock_at (negsuc 0) w)
    ∷ (λ place w. plan_clock_at (pos 5) w)
    ∷ (λ place w. plan_clock_at (pos 4) w)
    ∷ (λ place w. plan_clock_at (pos 5) w)
    ∷ (λ place w. plan_exit 1 256 w)
    ∷ (λ place w. plan_sig 1 15 w) ∷ []

pub signals_outcomes : outcomes signals ≡
    Done [] []
    ∷ Done [] ((target.Signal 1 20, Delivered) ∷ [])
    ∷ Done [] [] ∷ Done [] [] ∷ Done [] []
    ∷ Done [] ((target.Signal 1 15, Delivered) ∷ [])
    ∷ Done [] []
    ∷ Done [] ((target.Signal 1 20, Delivered) ∷ [])
    ∷ Refused TooMany
    ∷ Refused TooMany
    ∷ Refused ClockBack
    ∷ Done [] []
    ∷ Refused ClockBack
    ∷ Done [] []
    ∷ Done [] ((target.Process 1, Note (2 ^ 31)) ∷ [])
    ∷ Refused NoProcess ∷ []
unfolding world_opened
signals_outcomes = refl

pub signals_view : view_in (world_after signals) (target.Process 1) ≡ Some (view.Process (Some 256))
unfolding world_opened
signals_view = refl
