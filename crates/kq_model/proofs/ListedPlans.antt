-- Every plan of a record about objects keeps each file's list of its open descriptions whole.
use Rattle.std.proofs.Common.{◌≡◌, ◌+◌, ◌-◌, ◌==◌, ◌&&◌, not, nat_lt, ℕ, ℤ, Bool, true, false, [], ◌∷◌, Option, None, Some, Result, Ok, Err, refl, subst, if◌then◌else◌}
use Rattle.std.specs.Option.{is_some}
use Rattle.kq_model.specs.declared.act.Act.{Act}
use Rattle.kq_model.specs.declared.act.Act.TheVariants as act
use Rattle.kq_model.specs.declared.doing.DescriptionRecord.TheVariants as description
use Rattle.kq_model.specs.declared.doing.Doing.TheVariants.{ToSocket, ToPipe, ToDescription, ToFile}
use Rattle.kq_model.specs.declared.doing.FileRecord.TheVariants as file
use Rattle.kq_model.specs.declared.doing.PipeRecord.TheVariants as pipe
use Rattle.kq_model.specs.declared.doing.SocketRecord.TheVariants as socket
use Rattle.kq_model.specs.declared.mode.Mode.{Mode}
use Rattle.kq_model.specs.declared.note.Note.{Note}
use Rattle.kq_model.specs.declared.note.Note.TheVariants as note
use Rattle.kq_model.specs.declared.object.Named.{Named}
use Rattle.kq_model.specs.declared.object.Named.TheVariants.{Socket, PipeRead, PipeWrite, Open, Kqueue}
use Rattle.kq_model.specs.declared.why.Why.{Why}
use Rattle.kq_model.specs.declared.why.Why.TheVariants.{WrongKind, UsedFile, TooMany}
use Rattle.kq_model.specs.FilePlans as file_plans
use Rattle.kq_model.specs.Files.{DescriptionState, FileState, description_after, is_description_held, may_read, may_write}
use Rattle.kq_model.specs.Limits.{most_file_size}
use Rattle.kq_model.specs.ListedFiles.{AreListed}
use Rattle.kq_model.specs.NoteBits.{note_read}
use Rattle.kq_model.specs.ObjectPlan.{ObjectPlan, Planned}
use Rattle.kq_model.specs.Objects.{Objects, counted, done, all_done, size_of}
use Rattle.kq_model.specs.PipePlans as pipe_plans
use Rattle.kq_model.specs.PipeSteps as pipe_steps
use Rattle.kq_model.specs.PipeSteps.{PipeStep}
use Rattle.kq_model.specs.Pipes.{PipeState}
use Rattle.kq_model.specs.Planning.{plan, plan_read, plan_write}
use Rattle.kq_model.specs.SocketPlans as socket_plans
use Rattle.kq_model.specs.SocketSteps as steps
use Rattle.kq_model.specs.SocketSteps.{SocketStep, is_capacity}
use Rattle.kq_model.specs.Sockets.{SocketState}
use Rattle.kq_model.proofs.ListedObjects.{listed-description, listed-file, listed-opened, listed-pipe, listed-socket, ready-socket, IsReady}

abbrev StaysWhole : ℕ → Objects counted → Planned → Type 0
StaysWhole next o (Err why) = Unit {0}
StaysWhole next o (Ok p) = IsReady next o → AreListed o → AreListed (all_done p.doings o)

-- what a plan of the record at this place notes of these objects keeps their lists whole
record KeepsAll (next : ℕ) (o : Objects counted) (p : Planned) : Type 0 where
  keeps : StaysWhole next o p

-- a description that is read, written or sought is held as before
sought_held : (s : DescriptionState) (offset : ℕ) → is_description_held s ≡ true → is_description_held (description_after (description.Sought offset) s) ≡ true
unfolding description_after
sought_held s offset held = held

moved_held : (s : DescriptionState) (bytes : ℕ) → is_description_held s ≡ true → is_description_held (description_after (description.Moved bytes) s) ≡ true
unfolding description_after
moved_held s bytes held = held

module _ (next : ℕ) where
  abbrev KeepsWhole : Objects counted → Planned → Type 0
  KeepsWhole o p = KeepsAll next o p

  whole-if : (refused : Bool) (o : Objects counted) (why : Why) (p : Planned) → KeepsWhole o p → KeepsWhole o (if refused then Err why else p)
  whole-if true o why p whole = record { keeps = tt }
  whole-if false o why p whole = whole

  -- ---- sockets

  socket_plan-whole : (o : Objects counted) (place : ℕ) (step : SocketStep) → KeepsWhole o (socket_plans.socket_plan place step)
  unfolding socket_plans.socket_plan all_done
  socket_plan-whole o place (Err why) = record { keeps = tt }
  socket_plan-whole o place (Ok (told, hint)) = record { keeps = λ _. listed-socket o place told }

  step_of-whole : (o : Objects counted) (step : SocketState → SocketStep) (found : Result (ℕ × SocketState) Why) → KeepsWhole o (socket_plans.step_of step found)
  unfolding socket_plans.step_of
  step_of-whole o step (Err why) = record { keeps = tt }
  step_of-whole o step (Ok (place, s)) = socket_plan-whole o place (step s)

  at_socket-whole : (o : Objects counted) (step : SocketState → SocketStep) (on : Named) → KeepsWhole o (socket_plans.plan_at_socket step on o)
  unfolding socket_plans.plan_at_socket
  at_socket-whole o step on = step_of-whole o step (socket_plans.socket_at on o)

  plan_socket-whole : (o : Objects counted) (place receive send : ℕ) → KeepsWhole o (socket_plans.plan_socket place receive send)
  unfolding socket_plans.plan_socket all_done
  plan_socket-whole o place receive send =
      whole-if (not (is_capacity receive && is_capacity send)) o TooMany (Ok (record { doings = ToSocket place (socket.Made receive send) ∷ []; hints = [] }))
      (record { keeps = λ _. listed-socket o place (socket.Made receive send) })

  accepted-whole : (o : Objects counted) (place receive send : ℕ) (p : Planned)
      → KeepsWhole (done (ToSocket place socket.Connected) (done (ToSocket place (socket.Made receive send)) o)) p
      → KeepsWhole o (socket_plans.accepted place receive send p)
  unfolding socket_plans.accepted all_done
  accepted-whole o place receive send (Err why) whole = record { keeps = tt }
  accepted-whole o place receive send (Ok p) whole = record {
    keeps = λ y l. whole.keeps
        (ready-socket next (done (ToSocket place (socket.Made receive send)) o) place socket.Connected (ready-socket next o place (socket.Made receive send) y))
        (listed-socket (done (ToSocket place (socket.Made receive send)) o) place socket.Connected (listed-socket o place (socket.Made receive send) l));
  }

  plan_accept-whole : (o : Objects counted) (place : ℕ) (on : Named) (receive send : ℕ) → KeepsWhole o (socket_plans.plan_accept place on receive send o)
  unfolding socket_plans.plan_accept socket_plans.plan_at_socket
  plan_accept-whole o place on receive send =
      accepted-whole o place receive send (socket_plans.step_of (steps.accept receive send) (socket_plans.socket_at on o))
      (step_of-whole (done (ToSocket place socket.Connected) (done (ToSocket place (socket.Made receive send)) o)) (steps.accept receive send) (socket_plans.socket_at on o))

  -- ---- pipes

  pipe_plan-whole : (o : Objects counted) (place : ℕ) (step : PipeStep) → KeepsWhole o (pipe_plans.pipe_plan place step)
  unfolding pipe_plans.pipe_plan all_done
  pipe_plan-whole o place (Err why) = record { keeps = tt }
  pipe_plan-whole o place (Ok (told, hint)) = record { keeps = λ _. listed-pipe o place told }

  at_pipe-whole : (o : Objects counted) (step : PipeState → PipeStep) (place : ℕ) (x : Option PipeState) → KeepsWhole o (pipe_plans.plan_at_pipe step place x)
  unfolding pipe_plans.plan_at_pipe
  at_pipe-whole o step place None = record { keeps = tt }
  at_pipe-whole o step place (Some s) = pipe_plan-whole o place (step s)

  plan_pipe-whole : (o : Objects counted) (place size : ℕ) → KeepsWhole o (pipe_plans.plan_pipe place size)
  unfolding pipe_plans.plan_pipe all_done
  plan_pipe-whole o place size =
      whole-if (not (is_capacity size)) o TooMany (Ok (record { doings = ToPipe place (pipe.Made size) ∷ []; hints = [] })) (record { keeps = λ _. listed-pipe o place (pipe.Made size) })

  -- ---- files

  made_file-whole : (o : Objects counted) (number : ℕ) (size : Option ℕ) → KeepsWhole o (file_plans.made_file number size)
  unfolding file_plans.made_file all_done
  made_file-whole o number None = record { keeps = tt }
  made_file-whole o number (Some size) = record { keeps = λ _. listed-file o number (file.Made size) (λ ps. refl) }

  plan_file-whole : (o : Objects counted) (number : ℕ) (size : ℤ) → KeepsWhole o (file_plans.plan_file number size o)
  unfolding file_plans.plan_file
  plan_file-whole o number size =
      whole-if (is_some (o.file number)) o UsedFile (file_plans.made_file number (file_plans.file_amount size)) (made_file-whole o number (file_plans.file_amount size))

  opened-whole : (o : Objects counted) (number : ℕ) (mode : Mode) (x : Option FileState) → KeepsWhole o (file_plans.opened next number mode x)
  unfolding file_plans.opened all_done
  opened-whole o number mode None = record { keeps = tt }
  opened-whole o number mode (Some s) = record { keeps = λ y l. listed-opened o next number mode y l }

  sized-whole : (o : Objects counted) (number : ℕ) (s : FileState) (size : Option ℕ) → KeepsWhole o (file_plans.sized number s size)
  unfolding file_plans.sized all_done
  sized-whole o number s None = record { keeps = tt }
  sized-whole o number s (Some size) = record { keeps = λ _. listed-file o number (file.Sized size) (λ ps. refl) }

  truncated-whole : (o : Objects counted) (number : ℕ) (size : ℤ) (x : Option FileState) → KeepsWhole o (file_plans.truncated number size x)
  unfolding file_plans.truncated
  truncated-whole o number size None = record { keeps = tt }
  truncated-whole o number size (Some s) = sized-whole o number s (file_plans.file_amount size)

  deletion-listed : (o : Objects counted) (number : ℕ) (what : Note) → AreListed o → AreListed (all_done (file_plans.deletion number what) o)
  unfolding file_plans.deletion all_done
  deletion-listed o number note.Delete l = listed-file o number file.Deleted (λ ps. refl) l
  deletion-listed o number note.Attrib l = l
  deletion-listed o number note.Link l = l
  deletion-listed o number note.Rename l = l
  deletion-listed o number note.Revoke l = l

  said-whole : (o : Objects counted) (number : ℕ) (what : Note) (x : Option FileState) → KeepsWhole o (file_plans.said number what x)
  unfolding file_plans.said
  said-whole o number what None = record { keeps = tt }
  said-whole o number what (Some s) = record { keeps = λ _. deletion-listed o number what }

  -- ---- open file descriptions

  sought-whole : (o : Objects counted) (place : ℕ) (offset : Option ℕ) (s : DescriptionState) → o.description place ≡ Some s → KeepsWhole o (file_plans.sought place offset)
  unfolding file_plans.sought all_done
  sought-whole o place None s there = record { keeps = tt }
  sought-whole o place (Some offset) s there = record { keeps = λ y l. listed-description o place (description.Sought offset) s there refl (sought_held s offset (y.held place s there)) l }

  sought_in-whole : (o : Objects counted) (place : ℕ) (offset : ℤ) (x : Option DescriptionState) → o.description place ≡ x → KeepsWhole o (file_plans.sought_in place offset x)
  unfolding file_plans.sought_in
  sought_in-whole o place offset None is = record { keeps = tt }
  sought_in-whole o place offset (Some s) is = sought-whole o place (file_plans.file_amount offset) s is

  plan_seek-whole : (o : Objects counted) (on : Named) (offset : ℤ) → KeepsWhole o (file_plans.plan_seek on offset o)
  unfolding file_plans.plan_seek
  plan_seek-whole o (Open place number) offset = sought_in-whole o place offset (o.description place) refl
  plan_seek-whole o (Socket place) offset = record { keeps = tt }
  plan_seek-whole o (PipeRead place) offset = record { keeps = tt }
  plan_seek-whole o (PipeWrite place) offset = record { keeps = tt }
  plan_seek-whole o (Kqueue place) offset = record { keeps = tt }

  read_file-whole : (o : Objects counted) (place bytes : ℕ) (x : Option DescriptionState) → o.description place ≡ x → KeepsWhole o (file_plans.read_file place bytes x o)
  unfolding file_plans.read_file all_done
  read_file-whole o place bytes None is = record { keeps = tt }
  read_file-whole o place bytes (Some s) is =
      let moves : Planned = Ok (record { doings = ToDescription place (description.Moved bytes) ∷ []; hints = file_plans.noted s.file note_read ∷ [] }) in
      let past_end : Bool = nat_lt (size_of (o.file s.file) - s.offset) bytes in
      whole-if (not (may_read s.mode)) o WrongKind (if past_end then Err TooMany else moves)
      (whole-if past_end o TooMany moves (record { keeps = λ y l. listed-description o place (description.Moved bytes) s is refl (moved_held s bytes (y.held place s is)) l }))

  reached-listed : (nothing : Bool) (o : Objects counted) (number end : ℕ) → AreListed o → AreListed (all_done (if nothing then [] else ToFile number (file.Reached end) ∷ []) o)
  unfolding all_done
  reached-listed true o number end l = l
  reached-listed false o number end l = listed-file o number (file.Reached end) (λ ps. refl) l

  written-whole : (o : Objects counted) (place bytes : ℕ) (s : DescriptionState) (x : Option FileState) → o.description place ≡ Some s → KeepsWhole o (file_plans.written place bytes s x)
  unfolding file_plans.written file_plans.reached all_done
  written-whole o place bytes s None there = record { keeps = tt }
  written-whole o place bytes s (Some f) there = record {
    keeps = λ y l. reached-listed (bytes == 0) (done (ToDescription place (description.Moved bytes)) o) s.file (s.offset + bytes)
        (listed-description o place (description.Moved bytes) s there refl (moved_held s bytes (y.held place s there)) l);
  }

  write_file-whole : (o : Objects counted) (place bytes : ℕ) (x : Option DescriptionState) → o.description place ≡ x → KeepsWhole o (file_plans.write_file place bytes x o)
  unfolding file_plans.write_file
  write_file-whole o place bytes None is = record { keeps = tt }
  write_file-whole o place bytes (Some s) is =
      let writes : Planned = file_plans.written place bytes s (o.file s.file) in
      let too_far : Bool = nat_lt most_file_size (s.offset + bytes) in
      whole-if (not (may_write s.mode)) o WrongKind (if too_far then Err TooMany else writes)
      (whole-if too_far o TooMany writes (written-whole o place bytes s (o.file s.file) is))

  -- ---- every record

  plan_read-whole : (o : Objects counted) (on : Named) (bytes : ℕ) → KeepsWhole o (plan_read on bytes o)
  unfolding plan_read
  plan_read-whole o (Socket place) bytes = at_socket-whole o (steps.read_socket bytes) (Socket place)
  plan_read-whole o (PipeRead place) bytes = at_pipe-whole o (pipe_steps.read_pipe bytes) place (o.pipe place)
  plan_read-whole o (Open place number) bytes = read_file-whole o place bytes (o.description place) refl
  plan_read-whole o (PipeWrite place) bytes = record { keeps = tt }
  plan_read-whole o (Kqueue place) bytes = record { keeps = tt }

  plan_write-whole : (o : Objects counted) (on : Named) (bytes : ℕ) → KeepsWhole o (plan_write on bytes o)
  unfolding plan_write
  plan_write-whole o (Socket place) bytes = at_socket-whole o (steps.write_socket bytes) (Socket place)
  plan_write-whole o (PipeWrite place) bytes = at_pipe-whole o (pipe_steps.write_pipe bytes) place (o.pipe place)
  plan_write-whole o (Open place number) bytes = write_file-whole o place bytes (o.description place) refl
  plan_write-whole o (PipeRead place) bytes = record { keeps = tt }
  plan_write-whole o (Kqueue place) bytes = record { keeps = tt }

  plan-whole : (a : Act) (o : Objects counted) → KeepsWhole o (plan next a o)
  unfolding plan file_plans.plan_open file_plans.plan_truncate file_plans.plan_note
  plan-whole (act.Socket receive send) o = plan_socket-whole o next receive send
  plan-whole (act.Listen on backlog) o = at_socket-whole o (steps.listen backlog) on
  plan-whole (act.Arrive on) o = at_socket-whole o steps.arrive on
  plan-whole (act.Accept on receive send) o = plan_accept-whole o next on receive send
  plan-whole (act.Connect on) o = at_socket-whole o steps.connect on
  plan-whole (act.Receive on bytes) o = at_socket-whole o (steps.receive bytes) on
  plan-whole (act.Transmit on bytes) o = at_socket-whole o (steps.transmit bytes) on
  plan-whole (act.Shut on side error) o = at_socket-whole o (steps.shut side error) on
  plan-whole (act.LowWater on side mark) o = at_socket-whole o (steps.low_water side mark) on
  plan-whole (act.Pipe size) o = plan_pipe-whole o next size
  plan-whole (act.Read on bytes) o = plan_read-whole o on bytes
  plan-whole (act.Write on bytes) o = plan_write-whole o on bytes
  plan-whole (act.File number size) o = plan_file-whole o number size
  plan-whole (act.Open number mode) o = opened-whole o number mode (file_plans.present (o.file number))
  plan-whole (act.Seek on offset) o = plan_seek-whole o on offset
  plan-whole (act.Truncate number size) o = truncated-whole o number size (file_plans.present (o.file number))
  plan-whole (act.Note number what) o = said-whole o number what (file_plans.present (o.file number))

-- carrying a plan out keeps the lists of all files whole
pub listed-plan : (place : ℕ) (a : Act) (o : Objects counted) (p : ObjectPlan) → plan place a o ≡ Ok p → IsReady place o → AreListed o → AreListed (all_done p.doings o)
listed-plan place a o p is = (subst (KeepsAll place o) is (plan-whole place a o)).keeps
