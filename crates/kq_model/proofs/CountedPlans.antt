-- A plan makes descriptors name just what its record makes: the objects stay counted by the tables, with
-- these names more.
use Rattle.std.proofs.Common.{◌≡◌, ◌+◌, ◌-◌, ◌==◌, not, ◌&&◌, ◌||◌, nat_lt, nat_le, int_lt, int_le, pos, ◌+ℤ◌, ℕ, ℤ, Bool, true, false, List, [], ◌∷◌, ◌++◌, Option, None, Some, Result, Ok, Err, refl, subst, if◌then◌else◌}
use Rattle.std.specs.Option.{is_some}
use Rattle.kq_model.specs.declared.act.Act.{Act}
use Rattle.kq_model.specs.declared.act.Act.TheVariants as act
use Rattle.kq_model.specs.declared.doing.DescriptionRecord.TheVariants as description
use Rattle.kq_model.specs.declared.doing.Doing.{Doing}
use Rattle.kq_model.specs.declared.doing.Doing.TheVariants.{ToSocket, ToPipe, ToDescription, ToFile}
use Rattle.kq_model.specs.declared.doing.FileRecord.TheVariants as file
use Rattle.kq_model.specs.declared.doing.PipeRecord.{PipeRecord}
use Rattle.kq_model.specs.declared.doing.PipeRecord.TheVariants as pipe
use Rattle.kq_model.specs.declared.doing.SocketRecord.{SocketRecord}
use Rattle.kq_model.specs.declared.doing.SocketRecord.TheVariants as socket
use Rattle.kq_model.specs.declared.mode.Mode.{Mode}
use Rattle.kq_model.specs.declared.note.Note.{Note}
use Rattle.kq_model.specs.declared.note.Note.TheVariants as note
use Rattle.kq_model.specs.declared.object.Hint.{Hint}
use Rattle.kq_model.specs.declared.object.Hint.TheVariants as hint
use Rattle.kq_model.specs.declared.object.Named.{Named}
use Rattle.kq_model.specs.declared.object.Named.TheVariants.{Socket, PipeRead, PipeWrite, Open, Kqueue}
use Rattle.kq_model.specs.declared.object.Target.{Target}
use Rattle.kq_model.specs.declared.side.Side.{Side}
use Rattle.kq_model.specs.declared.why.Why.{Why}
use Rattle.kq_model.specs.declared.why.Why.TheVariants.{WrongKind, Absent, UsedFile, TooMany}
use Rattle.kq_model.specs.FilePlans as file_plans
use Rattle.kq_model.specs.Files.{DescriptionState, FileState, may_read, may_write}
use Rattle.kq_model.specs.Holders.{IsCounted, made_names}
use Rattle.kq_model.specs.Limits.{most_file_size}
use Rattle.kq_model.specs.NoteBits.{note_read}
use Rattle.kq_model.specs.ObjectPlan.{ObjectPlan, Planned}
use Rattle.kq_model.specs.Objects.{Objects, counted, done, all_done, size_of}
use Rattle.kq_model.specs.PipePlans as pipe_plans
use Rattle.kq_model.specs.PipeSteps as pipe_steps
use Rattle.kq_model.specs.PipeSteps.{PipeStep}
use Rattle.kq_model.specs.Pipes as pipes
use Rattle.kq_model.specs.Pipes.{PipeState, has_reader, pipe_space}
use Rattle.kq_model.specs.Planning.{plan, plan_read, plan_write}
use Rattle.kq_model.specs.SocketPlans as socket_plans
use Rattle.kq_model.specs.SocketSteps as steps
use Rattle.kq_model.specs.SocketSteps.{SocketStep, is_capacity}
use Rattle.kq_model.specs.Sockets as sockets
use Rattle.kq_model.specs.Sockets.{SocketState, is_unconnected, socket_space}
use Rattle.kq_model.proofs.CountedNotes.{counted-quiet_socket, counted-quiet_pipe, counted-quiet_description, counted-file, counted-made_socket, counted-made_pipe, counted-opened}

abbrev Keeps : Objects counted → List Named → Planned → Type 0
Keeps o ns (Err why) = Unit {0}
Keeps o ns (Ok p) = (names : List Named) → IsCounted o names → IsCounted (all_done p.doings o) (ns ++ names)

-- what a plan notes of these objects keeps them counted, with these names more
record AddsNames (o : Objects counted) (ns : List Named) (p : Planned) : Type 0 where
  keeps : Keeps o ns p

adds-if : (refused : Bool) (o : Objects counted) (ns : List Named) (why : Why) (p : Planned) → AddsNames o ns p → AddsNames o ns (if refused then Err why else p)
adds-if true o ns why p adds = record { keeps = tt }
adds-if false o ns why p adds = adds

adds-one : (o : Objects counted) (ns : List Named) (d : Doing) (hints : List (Target × Hint))
    → ((names : List Named) → IsCounted o names → IsCounted (done d o) (ns ++ names)) → AddsNames o ns (Ok (record { doings = d ∷ []; hints = hints }))
unfolding all_done
adds-one o ns d hints adds = record { keeps = adds }

-- ---- sockets

abbrev SaysNothing : SocketStep → Type 0
SaysNothing (Err why) = Unit {0}
SaysNothing (Ok step) = (sockets.holds step.0 ≡ None) × (sockets.releases step.0 ≡ None)

-- a step says nothing of descriptors
record IsQuiet (step : SocketStep) : Type 0 where
  quiet : SaysNothing step

said-quiet : (told : SocketRecord) (hint : Option Hint) → sockets.holds told ≡ None → sockets.releases told ≡ None → IsQuiet (Ok (told, hint))
said-quiet told hint more fewer = record { quiet = (more, fewer) }

-- what is said once a reason, two or three have been ruled out
quiet-unless : (refused : Bool) (why : Why) (told : SocketRecord) (hint : Option Hint) → sockets.holds told ≡ None → sockets.releases told ≡ None
    → IsQuiet (if refused then Err why else Ok (told, hint))
quiet-unless true why told hint more fewer = record { quiet = tt }
quiet-unless false why told hint more fewer = said-quiet told hint more fewer

quiet-unless_either : (first second : Bool) (why other : Why) (told : SocketRecord) (hint : Option Hint)
    → sockets.holds told ≡ None → sockets.releases told ≡ None
    → IsQuiet (if first then Err why else if second then Err other else Ok (told, hint))
quiet-unless_either true second why other told hint more fewer = record { quiet = tt }
quiet-unless_either false second why other told hint more fewer = quiet-unless second other told hint more fewer

quiet-unless_any : (first second third : Bool) (why other last : Why) (told : SocketRecord) (hint : Option Hint)
    → sockets.holds told ≡ None → sockets.releases told ≡ None
    → IsQuiet (if first then Err why else if second then Err other else if third then Err last else Ok (told, hint))
quiet-unless_any true second third why other last told hint more fewer = record { quiet = tt }
quiet-unless_any false second third why other last told hint more fewer = quiet-unless_either second third other last told hint more fewer

listen-quiet : (backlog : ℕ) (s : SocketState) → IsQuiet (steps.listen backlog s)
unfolding steps.listen
listen-quiet backlog s =
    quiet-unless_either (not (is_unconnected s)) (not (is_capacity backlog)) WrongKind TooMany (socket.Listened backlog) None refl refl

arrive-quiet : (s : SocketState) → IsQuiet (steps.arrive s)
unfolding steps.arrive
arrive-quiet s =
    quiet-unless_either (not s.listening) (int_le (pos s.backlog) s.pending) WrongKind TooMany socket.Arrived (Some hint.Readable) refl refl

accept-quiet : (receive send : ℕ) (s : SocketState) → IsQuiet (steps.accept receive send s)
unfolding steps.accept
accept-quiet receive send s =
    quiet-unless_any (not s.listening) (int_le s.pending (pos 0)) (not (is_capacity receive && is_capacity send)) WrongKind Absent TooMany socket.Accepted None refl refl

connect-quiet : (s : SocketState) → IsQuiet (steps.connect s)
unfolding steps.connect
connect-quiet s = quiet-unless (not (is_unconnected s)) WrongKind socket.Connected (Some hint.Writable) refl refl

receive-quiet : (bytes : ℕ) (s : SocketState) → IsQuiet (steps.receive bytes s)
unfolding steps.receive
receive-quiet bytes s =
    quiet-unless_either (not s.connected || s.read_shut) (int_lt (pos s.receive_buffer) (s.readable +ℤ pos bytes)) WrongKind TooMany
    (socket.Received bytes) (Some hint.Readable) refl refl

transmit-quiet : (bytes : ℕ) (s : SocketState) → IsQuiet (steps.transmit bytes s)
unfolding steps.transmit
transmit-quiet bytes s =
    quiet-unless_either (not s.connected) (int_lt s.unsent (pos bytes)) WrongKind TooMany (socket.Transmitted bytes) (Some hint.Writable) refl refl

shut-quiet : (side : Side) (error : ℕ) (s : SocketState) → IsQuiet (steps.shut side error s)
unfolding steps.shut
shut-quiet side error s = quiet-unless s.listening WrongKind (socket.Shut side error) (Some (steps.hint_on side)) refl refl

-- a side that is marked or shut is nothing to the descriptors
low_water-quiet : (side : Side) (mark : ℕ) (s : SocketState) → IsQuiet (steps.low_water side mark s)
unfolding steps.low_water
low_water-quiet side mark s =
    quiet-unless_either s.listening (not (nat_lt 0 mark && nat_le mark (steps.capacity_of side s))) WrongKind TooMany
    (socket.Marked side mark) (Some (steps.hint_on side)) refl refl

read_socket-quiet : (bytes : ℕ) (s : SocketState) → IsQuiet (steps.read_socket bytes s)
unfolding steps.read_socket
read_socket-quiet bytes s =
    quiet-unless_either s.listening (int_lt s.readable (pos bytes)) WrongKind TooMany (socket.Read bytes) None refl refl

write_socket-quiet : (bytes : ℕ) (s : SocketState) → IsQuiet (steps.write_socket bytes s)
unfolding steps.write_socket
write_socket-quiet bytes s =
    quiet-unless_either (not s.connected || s.write_shut) (int_lt (socket_space s) (pos bytes)) WrongKind TooMany (socket.Written bytes) None refl refl

socket_plan-adds : (o : Objects counted) (place : ℕ) (step : SocketStep) → IsQuiet step → AddsNames o [] (socket_plans.socket_plan place step)
unfolding socket_plans.socket_plan all_done
socket_plan-adds o place (Err why) quiet = record { keeps = tt }
socket_plan-adds o place (Ok (told, hint)) quiet = record { keeps = λ names c. counted-quiet_socket o names c place told quiet.quiet.0 quiet.quiet.1 }

step_of-adds : (o : Objects counted) (step : SocketState → SocketStep) → ((s : SocketState) → IsQuiet (step s)) → (found : Result (ℕ × SocketState) Why)
    → AddsNames o [] (socket_plans.step_of step found)
unfolding socket_plans.step_of
step_of-adds o step quiet (Err why) = record { keeps = tt }
step_of-adds o step quiet (Ok (place, s)) = socket_plan-adds o place (step s) (quiet s)

at_socket-adds : (o : Objects counted) (step : SocketState → SocketStep) → ((s : SocketState) → IsQuiet (step s)) → (on : Named) → AddsNames o [] (socket_plans.plan_at_socket step on o)
unfolding socket_plans.plan_at_socket
at_socket-adds o step quiet on = step_of-adds o step quiet (socket_plans.socket_at on o)

plan_socket-adds : (o : Objects counted) (place receive send : ℕ) → AddsNames o (Socket place ∷ []) (socket_plans.plan_socket place receive send)
unfolding socket_plans.plan_socket all_done
plan_socket-adds o place receive send =
    adds-if (not (is_capacity receive && is_capacity send)) o (Socket place ∷ []) TooMany (Ok (record { doings = ToSocket place (socket.Made receive send) ∷ []; hints = [] }))
    (adds-one o (Socket place ∷ []) (ToSocket place (socket.Made receive send)) [] (λ names c. counted-made_socket o names c place receive send))

-- the new socket, and then the step at the one that listens
accepted-adds : (o : Objects counted) (place receive send : ℕ) (p : Planned)
    → AddsNames (done (ToSocket place socket.Connected) (done (ToSocket place (socket.Made receive send)) o)) [] p
    → AddsNames o (Socket place ∷ []) (socket_plans.accepted place receive send p)
unfolding socket_plans.accepted all_done
accepted-adds o place receive send (Err why) adds = record { keeps = tt }
accepted-adds o place receive send (Ok p) adds = record {
  keeps = λ names c. adds.keeps (Socket place ∷ names)
      (counted-quiet_socket _ (Socket place ∷ names) (counted-made_socket o names c place receive send) place socket.Connected refl refl);
}

plan_accept-adds : (o : Objects counted) (place : ℕ) (on : Named) (receive send : ℕ) → AddsNames o (Socket place ∷ []) (socket_plans.plan_accept place on receive send o)
unfolding socket_plans.plan_accept socket_plans.plan_at_socket
plan_accept-adds o place on receive send =
    accepted-adds o place receive send _
    (step_of-adds (done (ToSocket place socket.Connected) (done (ToSocket place (socket.Made receive send)) o)) (steps.accept receive send) (accept-quiet receive send) (socket_plans.socket_at on o))

-- ---- pipes

abbrev SaysNothingAtPipe : PipeStep → Type 0
SaysNothingAtPipe (Err why) = Unit {0}
SaysNothingAtPipe (Ok step) =
    (pipes.holds_read step.0 ≡ None) × (pipes.releases_read step.0 ≡ None)
    × (pipes.holds_write step.0 ≡ None) × (pipes.releases_write step.0 ≡ None)

record IsQuietAtPipe (step : PipeStep) : Type 0 where
  quiet : SaysNothingAtPipe step

pipe-unless : (refused : Bool) (why : Why) (told : PipeRecord) (hint : Option Hint) → pipes.holds_read told ≡ None → pipes.releases_read told ≡ None
    → pipes.holds_write told ≡ None → pipes.releases_write told ≡ None → IsQuietAtPipe (if refused then Err why else Ok (told, hint))
pipe-unless true why told hint more_r fewer_r more_w fewer_w = record { quiet = tt }
pipe-unless false why told hint more_r fewer_r more_w fewer_w = record { quiet = (more_r, fewer_r, more_w, fewer_w) }

pipe-unless_either : (first second : Bool) (why other : Why) (told : PipeRecord) (hint : Option Hint)
    → pipes.holds_read told ≡ None → pipes.releases_read told ≡ None → pipes.holds_write told ≡ None → pipes.releases_write told ≡ None
    → IsQuietAtPipe (if first then Err why else if second then Err other else Ok (told, hint))
pipe-unless_either true second why other told hint more_r fewer_r more_w fewer_w = record { quiet = tt }
pipe-unless_either false second why other told hint more_r fewer_r more_w fewer_w = pipe-unless second other told hint more_r fewer_r more_w fewer_w

read_pipe-quiet : (bytes : ℕ) (s : PipeState) → IsQuietAtPipe (pipe_steps.read_pipe bytes s)
unfolding pipe_steps.read_pipe
read_pipe-quiet bytes s = pipe-unless (int_lt s.bytes (pos bytes)) TooMany (pipe.Read bytes) (Some hint.Writable) refl refl refl refl

write_pipe-quiet : (bytes : ℕ) (s : PipeState) → IsQuietAtPipe (pipe_steps.write_pipe bytes s)
unfolding pipe_steps.write_pipe
write_pipe-quiet bytes s =
    pipe-unless_either (not (has_reader s)) (int_lt (pipe_space s) (pos bytes)) WrongKind TooMany (pipe.Written bytes) (Some hint.Readable) refl refl refl refl

pipe_plan-adds : (o : Objects counted) (place : ℕ) (step : PipeStep) → IsQuietAtPipe step → AddsNames o [] (pipe_plans.pipe_plan place step)
unfolding pipe_plans.pipe_plan all_done
pipe_plan-adds o place (Err why) quiet = record { keeps = tt }
pipe_plan-adds o place (Ok (told, hint)) quiet = record { keeps = λ names c. counted-quiet_pipe o names c place told quiet.quiet.0 quiet.quiet.1 quiet.quiet.2 quiet.quiet.3 }

at_pipe-adds : (o : Objects counted) (step : PipeState → PipeStep) → ((s : PipeState) → IsQuietAtPipe (step s)) → (place : ℕ) (x : Option PipeState)
    → AddsNames o [] (pipe_plans.plan_at_pipe step place x)
unfolding pipe_plans.plan_at_pipe
at_pipe-adds o step quiet place None = record { keeps = tt }
at_pipe-adds o step quiet place (Some s) = pipe_plan-adds o place (step s) (quiet s)

plan_pipe-adds : (o : Objects counted) (place size : ℕ) → AddsNames o (PipeRead place ∷ PipeWrite place ∷ []) (pipe_plans.plan_pipe place size)
unfolding pipe_plans.plan_pipe all_done
plan_pipe-adds o place size =
    adds-if (not (is_capacity size)) o (PipeRead place ∷ PipeWrite place ∷ []) TooMany (Ok (record { doings = ToPipe place (pipe.Made size) ∷ []; hints = [] }))
    (adds-one o (PipeRead place ∷ PipeWrite place ∷ []) (ToPipe place (pipe.Made size)) [] (λ names c. counted-made_pipe o names c place size))

-- ---- files

made_file-adds : (o : Objects counted) (number : ℕ) (size : Option ℕ) → AddsNames o [] (file_plans.made_file number size)
unfolding file_plans.made_file all_done
made_file-adds o number None = record { keeps = tt }
made_file-adds o number (Some size) = record { keeps = λ names c. counted-file o names c number (file.Made size) }

plan_file-adds : (o : Objects counted) (number : ℕ) (size : ℤ) → AddsNames o [] (file_plans.plan_file number size o)
unfolding file_plans.plan_file
plan_file-adds o number size =
    adds-if (is_some (o.file number)) o [] UsedFile (file_plans.made_file number (file_plans.file_amount size)) (made_file-adds o number (file_plans.file_amount size))

opened-adds : (o : Objects counted) (place number : ℕ) (mode : Mode) (x : Option FileState) → AddsNames o (Open place number ∷ []) (file_plans.opened place number mode x)
unfolding file_plans.opened all_done
opened-adds o place number mode None = record { keeps = tt }
opened-adds o place number mode (Some s) = record { keeps = λ names c. counted-file _ (Open place number ∷ names) (counted-opened o names c place number mode) number (file.Opened place) }

sized-adds : (o : Objects counted) (number : ℕ) (s : FileState) (size : Option ℕ) → AddsNames o [] (file_plans.sized number s size)
unfolding file_plans.sized all_done
sized-adds o number s None = record { keeps = tt }
sized-adds o number s (Some size) = record { keeps = λ names c. counted-file o names c number (file.Sized size) }

truncated-adds : (o : Objects counted) (number : ℕ) (size : ℤ) (x : Option FileState) → AddsNames o [] (file_plans.truncated number size x)
unfolding file_plans.truncated
truncated-adds o number size None = record { keeps = tt }
truncated-adds o number size (Some s) = sized-adds o number s (file_plans.file_amount size)

deletion-counted : (o : Objects counted) (number : ℕ) (what : Note) (names : List Named) → IsCounted o names → IsCounted (all_done (file_plans.deletion number what) o) names
unfolding file_plans.deletion all_done
deletion-counted o number note.Delete names c = counted-file o names c number file.Deleted
deletion-counted o number note.Attrib names c = c
deletion-counted o number note.Link names c = c
deletion-counted o number note.Rename names c = c
deletion-counted o number note.Revoke names c = c

said-adds : (o : Objects counted) (number : ℕ) (what : Note) (x : Option FileState) → AddsNames o [] (file_plans.said number what x)
unfolding file_plans.said
said-adds o number what None = record { keeps = tt }
said-adds o number what (Some s) = record { keeps = deletion-counted o number what }

-- ---- open file descriptions

sought-adds : (o : Objects counted) (place : ℕ) (offset : Option ℕ) → AddsNames o [] (file_plans.sought place offset)
unfolding file_plans.sought all_done
sought-adds o place None = record { keeps = tt }
sought-adds o place (Some offset) = record { keeps = λ names c. counted-quiet_description o names c place (description.Sought offset) refl refl }

sought_in-adds : (o : Objects counted) (place : ℕ) (offset : ℤ) (x : Option DescriptionState) → AddsNames o [] (file_plans.sought_in place offset x)
unfolding file_plans.sought_in
sought_in-adds o place offset None = record { keeps = tt }
sought_in-adds o place offset (Some s) = sought-adds o place (file_plans.file_amount offset)

plan_seek-adds : (o : Objects counted) (on : Named) (offset : ℤ) → AddsNames o [] (file_plans.plan_seek on offset o)
unfolding file_plans.plan_seek
plan_seek-adds o (Open place number) offset = sought_in-adds o place offset (o.description place)
plan_seek-adds o (Socket place) offset = record { keeps = tt }
plan_seek-adds o (PipeRead place) offset = record { keeps = tt }
plan_seek-adds o (PipeWrite place) offset = record { keeps = tt }
plan_seek-adds o (Kqueue place) offset = record { keeps = tt }

read_file-adds : (o : Objects counted) (place bytes : ℕ) (x : Option DescriptionState) → AddsNames o [] (file_plans.read_file place bytes x o)
unfolding file_plans.read_file all_done
read_file-adds o place bytes None = record { keeps = tt }
read_file-adds o place bytes (Some s) =
    let moves : Planned = Ok (record { doings = ToDescription place (description.Moved bytes) ∷ []; hints = file_plans.noted s.file note_read ∷ [] }) in
    let past_end : Bool = nat_lt (size_of (o.file s.file) - s.offset) bytes in
    adds-if (not (may_read s.mode)) o [] WrongKind (if past_end then Err TooMany else moves) (adds-if past_end o [] TooMany moves (adds-one o [] (ToDescription place (description.Moved bytes)) (file_plans.noted s.file note_read ∷ [])
    (λ names c. counted-quiet_description o names c place (description.Moved bytes) refl refl)))

reached-counted : (nothing : Bool) (o : Objects counted) (number end : ℕ) (names : List Named) → IsCounted o names
    → IsCounted (all_done (if nothing then [] else ToFile number (file.Reached end) ∷ []) o) names
unfolding all_done
reached-counted true o number end names c = c
reached-counted false o number end names c = counted-file o names c number (file.Reached end)

written-adds : (o : Objects counted) (place bytes : ℕ) (s : DescriptionState) (x : Option FileState) → AddsNames o [] (file_plans.written place bytes s x)
unfolding file_plans.written file_plans.reached all_done
written-adds o place bytes s None = record { keeps = tt }
written-adds o place bytes s (Some f) = record {
  keeps = λ names c. reached-counted (bytes == 0) (done (ToDescription place (description.Moved bytes)) o) s.file (s.offset + bytes) names
      (counted-quiet_description o names c place (description.Moved bytes) refl refl);
}

write_file-adds : (o : Objects counted) (place bytes : ℕ) (x : Option DescriptionState) → AddsNames o [] (file_plans.write_file place bytes x o)
unfolding file_plans.write_file
write_file-adds o place bytes None = record { keeps = tt }
write_file-adds o place bytes (Some s) =
    let writes : Planned = file_plans.written place bytes s (o.file s.file) in
    let too_far : Bool = nat_lt most_file_size (s.offset + bytes) in
    adds-if (not (may_write s.mode)) o [] WrongKind (if too_far then Err TooMany else writes)
    (adds-if too_far o [] TooMany writes (written-adds o place bytes s (o.file s.file)))

-- ---- every record

plan_read-adds : (o : Objects counted) (on : Named) (bytes : ℕ) → AddsNames o [] (plan_read on bytes o)
unfolding plan_read
plan_read-adds o (Socket place) bytes = at_socket-adds o (steps.read_socket bytes) (read_socket-quiet bytes) (Socket place)
plan_read-adds o (PipeRead place) bytes = at_pipe-adds o (pipe_steps.read_pipe bytes) (read_pipe-quiet bytes) place (o.pipe place)
plan_read-adds o (Open place number) bytes = read_file-adds o place bytes (o.description place)
plan_read-adds o (PipeWrite place) bytes = record { keeps = tt }
plan_read-adds o (Kqueue place) bytes = record { keeps = tt }

plan_write-adds : (o : Objects counted) (on : Named) (bytes : ℕ) → AddsNames o [] (plan_write on bytes o)
unfolding plan_write
plan_write-adds o (Socket place) bytes = at_socket-adds o (steps.write_socket bytes) (write_socket-quiet bytes) (Socket place)
plan_write-adds o (PipeWrite place) bytes = at_pipe-adds o (pipe_steps.write_pipe bytes) (write_pipe-quiet bytes) place (o.pipe place)
plan_write-adds o (Open place number) bytes = write_file-adds o place bytes (o.description place)
plan_write-adds o (PipeRead place) bytes = record { keeps = tt }
plan_write-adds o (Kqueue place) bytes = record { keeps = tt }

plan-adds : (place : ℕ) (a : Act) (o : Objects counted) → AddsNames o (made_names place a) (plan place a o)
unfolding plan made_names file_plans.plan_open file_plans.plan_truncate file_plans.plan_note
plan-adds place (act.Socket receive send) o = plan_socket-adds o place receive send
plan-adds place (act.Listen on backlog) o = at_socket-adds o (steps.listen backlog) (listen-quiet backlog) on
plan-adds place (act.Arrive on) o = at_socket-adds o steps.arrive arrive-quiet on
plan-adds place (act.Accept on receive send) o = plan_accept-adds o place on receive send
plan-adds place (act.Connect on) o = at_socket-adds o steps.connect connect-quiet on
plan-adds place (act.Receive on bytes) o = at_socket-adds o (steps.receive bytes) (receive-quiet bytes) on
plan-adds place (act.Transmit on bytes) o = at_socket-adds o (steps.transmit bytes) (transmit-quiet bytes) on
plan-adds place (act.Shut on side error) o = at_socket-adds o (steps.shut side error) (shut-quiet side error) on
plan-adds place (act.LowWater on side mark) o = at_socket-adds o (steps.low_water side mark) (low_water-quiet side mark) on
plan-adds place (act.Pipe size) o = plan_pipe-adds o place size
plan-adds place (act.Read on bytes) o = plan_read-adds o on bytes
plan-adds place (act.Write on bytes) o = plan_write-adds o on bytes
plan-adds place (act.File number size) o = plan_file-adds o number size
plan-adds place (act.Open number mode) o = opened-adds o place number mode (file_plans.present (o.file number))
plan-adds place (act.Seek on offset) o = plan_seek-adds o on offset
plan-adds place (act.Truncate number size) o = truncated-adds o number size (file_plans.present (o.file number))
plan-adds place (act.Note number what) o = said-adds o number what (file_plans.present (o.file number))

-- carrying a plan out keeps the objects counted, with the names of what its record makes
pub counted-plan : (place : ℕ) (a : Act) (o : Objects counted) (p : ObjectPlan) (names : List Named) → plan place a o ≡ Ok p
    → IsCounted o names → IsCounted (all_done p.doings o) (made_names place a ++ names)
counted-plan place a o p names is = let Adds : Planned → Type 0 = AddsNames o (made_names place a) in (subst Adds is (plan-adds place a o)).keeps names
