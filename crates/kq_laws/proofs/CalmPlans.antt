-- The plan of each record about objects keeps it, and so do descriptors more and less.
use Rattle.std.proofs.Common.{◌≡◌, ℕ, ◌+◌, ◌-◌, ◌==◌, nat_lt, ℤ, pos, int_le, Bool, true, false, not, ◌&&◌, List, [], ◌∷◌, ◌++◌, Option, Some, None, Ok, Err, refl, ◌∙◌, if◌then◌else◌}
use Rattle.std.proofs.lemmas.Bool.{or_from, cond_both}
use Rattle.std.proofs.lemmas.List.Folds.{list_any-append}
use Rattle.std.specs.Option.{is_some}
use Rattle.kq_model.specs.declared.act.Act.{Act}
use Rattle.kq_model.specs.declared.act.Act.TheVariants as act
use Rattle.kq_model.specs.declared.doing.DescriptionRecord.TheVariants as description
use Rattle.kq_model.specs.declared.doing.Doing.{Doing}
use Rattle.kq_model.specs.declared.doing.Doing.TheVariants.{ToSocket, ToDescription, ToFile}
use Rattle.kq_model.specs.declared.doing.FileRecord.TheVariants as file
use Rattle.kq_model.specs.declared.doing.SocketRecord.TheVariants as socket
use Rattle.kq_model.specs.declared.mode.Mode.{Mode}
use Rattle.kq_model.specs.declared.note.Note.{Note}
use Rattle.kq_model.specs.declared.note.Note.TheVariants as note
use Rattle.kq_model.specs.declared.object.Named.{Named}
use Rattle.kq_model.specs.declared.object.Named.TheVariants as named
use Rattle.kq_model.specs.declared.why.Why.{Why}
use Rattle.kq_model.specs.declared.why.Why.TheVariants.{WrongKind, Absent, UsedFile, TooMany}
use Rattle.kq_model.specs.FilePlans as file_plans
use Rattle.kq_model.specs.Files.{DescriptionState, FileState, may_read, may_write}
use Rattle.kq_model.specs.Holding.{hold_doings, release_doings, release_all, release, leaving, left, is_last}
use Rattle.kq_model.specs.Limits.{most_file_size}
use Rattle.kq_model.specs.NoteBits.{note_read}
use Rattle.kq_model.specs.ObjectPlan.{Planned}
use Rattle.kq_model.specs.Objects.{Objects, counted, all_done, size_of}
use Rattle.kq_model.specs.PipePlans as pipe_plans
use Rattle.kq_model.specs.PipeSteps as pipe_steps
use Rattle.kq_model.specs.PipeSteps.{PipeStep}
use Rattle.kq_model.specs.Pipes.{PipeState}
use Rattle.kq_model.specs.Planning.{plan, plan_read, plan_write}
use Rattle.kq_model.specs.ProcessPlans.{hold_all}
use Rattle.kq_model.specs.SocketPlans as socket_plans
use Rattle.kq_model.specs.SocketSteps as steps
use Rattle.kq_model.specs.SocketSteps.{SocketStep, is_capacity}
use Rattle.kq_model.specs.Sockets.{SocketState}
use Rattle.kq_laws.proofs.Calm.{has_arrival, is_arrival, calm-all, CalmAll, StepCalm, calm-unless, arrive-calm, connect-calm, listen-calm, low_water-calm, read-calm, receive-calm, shut-calm, transmit-calm, write-calm}

-- ---- sockets

socket_plan-calm : (o : Objects counted) (q : ℕ) (step : SocketStep) → StepCalm q o step → CalmAll o (socket_plans.socket_plan q step)
unfolding socket_plans.socket_plan all_done
socket_plan-calm o q (Err why) calm = tt
socket_plan-calm o q (Ok (told, hint)) calm = calm

module _ (o : Objects counted) where
  module _ (step : SocketState → SocketStep) (calm : (q : ℕ) (s : SocketState) → o.socket q ≡ Some s → StepCalm q o (step s)) where
    found-calm : (q : ℕ) (x : Option SocketState) → o.socket q ≡ x → CalmAll o (socket_plans.step_of step (socket_plans.socket_found q x))
    unfolding socket_plans.step_of socket_plans.socket_found
    found-calm q None none = tt
    found-calm q (Some s) there = socket_plan-calm o q (step s) (calm q s there)

    at-calm : (on : Named) → CalmAll o (socket_plans.plan_at_socket step on o)
    unfolding socket_plans.plan_at_socket socket_plans.socket_at socket_plans.step_of
    at-calm (named.Socket q) = found-calm q (o.socket q) refl
    at-calm (named.PipeRead q) = tt
    at-calm (named.PipeWrite q) = tt
    at-calm (named.Open q n) = tt
    at-calm (named.Kqueue q) = tt

  -- what is done to make the new one, and then the step at the one that listens
  made-calm : (place receive send : ℕ) → CalmAll o (socket_plans.plan_socket place receive send)
  unfolding socket_plans.plan_socket
  made-calm place receive send =
      let ds = ToSocket place (socket.Made receive send) ∷ [] in
      calm-unless o (not (is_capacity receive && is_capacity send)) TooMany (Ok (record { doings = ds; hints = [] })) (λ _. calm-all ds o refl)

-- an accept says nothing of arrivals, wherever it is done
abbrev SaysNone : Planned → Type 0
SaysNone (Err why) = Unit {0}
SaysNone (Ok p) = has_arrival p.doings ≡ false

none-unless : (refused : Bool) (why : Why) (p : Planned) → SaysNone p → SaysNone (if refused then Err why else p)
none-unless refused why p none = cond_both refused (Err why) p SaysNone (λ _. tt) (λ _. none)

module _ (o : Objects counted) (place receive send : ℕ) where
  accepted-calm : (p : Planned) → SaysNone p → CalmAll o (socket_plans.accepted place receive send p)
  unfolding socket_plans.accepted
  accepted-calm (Err why) none = tt
  accepted-calm (Ok p) none =
      calm-all (ToSocket place (socket.Made receive send) ∷ ToSocket place socket.Connected ∷ p.doings) o none

  accept-says : (q : ℕ) (s : SocketState) → SaysNone (socket_plans.socket_plan q (steps.accept receive send s))
  unfolding socket_plans.socket_plan steps.accept
  accept-says q s = says (not s.listening) (int_le s.pending (pos 0)) (not (is_capacity receive && is_capacity send))
    where
      says : (first second third : Bool) → SaysNone (socket_plans.socket_plan q
          (if first then Err WrongKind else if second then Err Absent else if third then Err TooMany else Ok (socket.Accepted, None)))
      says true second third = tt
      says false true third = tt
      says false false true = tt
      says false false false = refl

  accept-found : (q : ℕ) (x : Option SocketState) → SaysNone (socket_plans.step_of (steps.accept receive send) (socket_plans.socket_found q x))
  unfolding socket_plans.step_of socket_plans.socket_found
  accept-found q None = tt
  accept-found q (Some s) = accept-says q s

  accept-none : (on : Named) → SaysNone (socket_plans.plan_at_socket (steps.accept receive send) on o)
  unfolding socket_plans.plan_at_socket socket_plans.socket_at socket_plans.step_of
  accept-none (named.Socket q) = accept-found q (o.socket q)
  accept-none (named.PipeRead q) = tt
  accept-none (named.PipeWrite q) = tt
  accept-none (named.Open q n) = tt
  accept-none (named.Kqueue q) = tt

  plan_accept-calm : (on : Named) → CalmAll o (socket_plans.plan_accept place on receive send o)
  unfolding socket_plans.plan_accept
  plan_accept-calm on = accepted-calm (socket_plans.plan_at_socket (steps.accept receive send) on o) (accept-none on)

-- ---- what says nothing of sockets

none-calm : (o : Objects counted) (p : Planned) → SaysNone p → CalmAll o p
none-calm o (Err why) none = tt
none-calm o (Ok p) none = calm-all p.doings o none

pipe_plan-none : (q : ℕ) (step : PipeStep) → SaysNone (pipe_plans.pipe_plan q step)
unfolding pipe_plans.pipe_plan
pipe_plan-none q (Err why) = tt
pipe_plan-none q (Ok (told, hint)) = refl

at_pipe-none : (step : PipeState → PipeStep) (q : ℕ) (x : Option PipeState) → SaysNone (pipe_plans.plan_at_pipe step q x)
unfolding pipe_plans.plan_at_pipe
at_pipe-none step q None = tt
at_pipe-none step q (Some s) = pipe_plan-none q (step s)

plan_pipe-none : (place size : ℕ) → SaysNone (pipe_plans.plan_pipe place size)
unfolding pipe_plans.plan_pipe
plan_pipe-none place size = none-unless (not (is_capacity size)) TooMany _ refl

made_file-none : (number : ℕ) (size : Option ℕ) → SaysNone (file_plans.made_file number size)
unfolding file_plans.made_file
made_file-none number None = tt
made_file-none number (Some size) = refl

plan_file-none : (number : ℕ) (size : ℤ) (o : Objects counted) → SaysNone (file_plans.plan_file number size o)
unfolding file_plans.plan_file
plan_file-none number size o = none-unless (is_some (o.file number)) UsedFile _ (made_file-none number (file_plans.file_amount size))

opened-none : (place number : ℕ) (mode : Mode) (x : Option FileState) → SaysNone (file_plans.opened place number mode x)
unfolding file_plans.opened
opened-none place number mode None = tt
opened-none place number mode (Some f) = refl

sized-none : (number : ℕ) (f : FileState) (size : Option ℕ) → SaysNone (file_plans.sized number f size)
unfolding file_plans.sized
sized-none number f None = tt
sized-none number f (Some size) = refl

truncated-none : (number : ℕ) (size : ℤ) (x : Option FileState) → SaysNone (file_plans.truncated number size x)
unfolding file_plans.truncated
truncated-none number size None = tt
truncated-none number size (Some f) = sized-none number f (file_plans.file_amount size)

deletion-none : (number : ℕ) (what : Note) → has_arrival (file_plans.deletion number what) ≡ false
unfolding file_plans.deletion
deletion-none number note.Delete = refl
deletion-none number note.Attrib = refl
deletion-none number note.Link = refl
deletion-none number note.Rename = refl
deletion-none number note.Revoke = refl

said-none : (number : ℕ) (what : Note) (x : Option FileState) → SaysNone (file_plans.said number what x)
unfolding file_plans.said
said-none number what None = tt
said-none number what (Some f) = deletion-none number what

sought-none : (place : ℕ) (offset : Option ℕ) → SaysNone (file_plans.sought place offset)
unfolding file_plans.sought
sought-none place None = tt
sought-none place (Some offset) = refl

sought_in-none : (place : ℕ) (offset : ℤ) (x : Option DescriptionState) → SaysNone (file_plans.sought_in place offset x)
unfolding file_plans.sought_in
sought_in-none place offset None = tt
sought_in-none place offset (Some s) = sought-none place (file_plans.file_amount offset)

read_file-none : (place bytes : ℕ) (x : Option DescriptionState) (o : Objects counted) → SaysNone (file_plans.read_file place bytes x o)
unfolding file_plans.read_file
read_file-none place bytes None o = tt
read_file-none place bytes (Some s) o =
    let reads : Planned = Ok (record { doings = ToDescription place (description.Moved bytes) ∷ []; hints = file_plans.noted s.file note_read ∷ [] }) in
    let over : Bool = nat_lt (size_of (o.file s.file) - s.offset) bytes in
    none-unless (not (may_read s.mode)) WrongKind (if over then Err TooMany else reads) (none-unless over TooMany reads refl)

written-none : (place bytes : ℕ) (s : DescriptionState) (x : Option FileState) → SaysNone (file_plans.written place bytes s x)
unfolding file_plans.written file_plans.reached
written-none place bytes s None = tt
written-none place bytes s (Some f) =
    cond_both (bytes == 0) [] (ToFile s.file (file.Reached (s.offset + bytes)) ∷ []) (λ ds. has_arrival ds ≡ false) (λ _. refl) (λ _. refl)

write_file-none : (place bytes : ℕ) (x : Option DescriptionState) (o : Objects counted) → SaysNone (file_plans.write_file place bytes x o)
unfolding file_plans.write_file
write_file-none place bytes None o = tt
write_file-none place bytes (Some s) o =
    let writes : Planned = file_plans.written place bytes s (o.file s.file) in
    let over : Bool = nat_lt most_file_size (s.offset + bytes) in
    none-unless (not (may_write s.mode)) WrongKind (if over then Err TooMany else writes)
    (none-unless over TooMany writes (written-none place bytes s (o.file s.file)))

seek-none : (on : Named) (offset : ℤ) (o : Objects counted) → SaysNone (file_plans.plan_seek on offset o)
unfolding file_plans.plan_seek
seek-none (named.Open place number) offset o = sought_in-none place offset (o.description place)
seek-none (named.Socket place) offset o = tt
seek-none (named.PipeRead place) offset o = tt
seek-none (named.PipeWrite place) offset o = tt
seek-none (named.Kqueue place) offset o = tt

-- ---- any record about objects

module _ (o : Objects counted) where
  plan_read-calm : (on : Named) (bytes : ℕ) → CalmAll o (plan_read on bytes o)
  unfolding plan_read
  plan_read-calm (named.Socket place) bytes = at-calm o (steps.read_socket bytes) (λ q s there. read-calm o q s there bytes) (named.Socket place)
  plan_read-calm (named.PipeRead place) bytes = none-calm o _ (at_pipe-none (pipe_steps.read_pipe bytes) place (o.pipe place))
  plan_read-calm (named.Open place number) bytes = none-calm o _ (read_file-none place bytes (o.description place) o)
  plan_read-calm (named.PipeWrite place) bytes = tt
  plan_read-calm (named.Kqueue place) bytes = tt

  plan_write-calm : (on : Named) (bytes : ℕ) → CalmAll o (plan_write on bytes o)
  unfolding plan_write
  plan_write-calm (named.Socket place) bytes = at-calm o (steps.write_socket bytes) (λ q s there. write-calm o q s there bytes) (named.Socket place)
  plan_write-calm (named.PipeWrite place) bytes = none-calm o _ (at_pipe-none (pipe_steps.write_pipe bytes) place (o.pipe place))
  plan_write-calm (named.Open place number) bytes = none-calm o _ (write_file-none place bytes (o.description place) o)
  plan_write-calm (named.PipeRead place) bytes = tt
  plan_write-calm (named.Kqueue place) bytes = tt

  pub act-calm : (place : ℕ) (a : Act) → CalmAll o (plan place a o)
  unfolding plan file_plans.plan_open file_plans.plan_note file_plans.plan_truncate
  act-calm place (act.Socket receive send) = made-calm o place receive send
  act-calm place (act.Listen on backlog) = at-calm o (steps.listen backlog) (λ q s there. listen-calm o q s there backlog) on
  act-calm place (act.Arrive on) = at-calm o steps.arrive (arrive-calm o) on
  act-calm place (act.Accept on receive send) = plan_accept-calm o place receive send on
  act-calm place (act.Connect on) = at-calm o steps.connect (connect-calm o) on
  act-calm place (act.Receive on bytes) = at-calm o (steps.receive bytes) (λ q s there. receive-calm o q s there bytes) on
  act-calm place (act.Transmit on bytes) = at-calm o (steps.transmit bytes) (λ q s there. transmit-calm o q s there bytes) on
  act-calm place (act.Shut on end error) = at-calm o (steps.shut end error) (λ q s there. shut-calm o q s there end error) on
  act-calm place (act.LowWater on end mark) = at-calm o (steps.low_water end mark) (λ q s there. low_water-calm o q s there end mark) on
  act-calm place (act.Pipe size) = none-calm o _ (plan_pipe-none place size)
  act-calm place (act.Read on bytes) = plan_read-calm on bytes
  act-calm place (act.Write on bytes) = plan_write-calm on bytes
  act-calm place (act.File number size) = none-calm o _ (plan_file-none number size o)
  act-calm place (act.Open number mode) = none-calm o _ (opened-none place number mode (file_plans.present (o.file number)))
  act-calm place (act.Seek on offset) = none-calm o _ (seek-none on offset o)
  act-calm place (act.Truncate number size) = none-calm o _ (truncated-none number size (file_plans.present (o.file number)))
  act-calm place (act.Note number what) = none-calm o _ (said-none number what (file_plans.present (o.file number)))

-- ---- descriptors

hold-none : (n : Named) → has_arrival (hold_doings n) ≡ false
unfolding hold_doings
hold-none (named.Socket p) = refl
hold-none (named.PipeRead p) = refl
hold-none (named.PipeWrite p) = refl
hold-none (named.Open p f) = refl
hold-none (named.Kqueue p) = refl

both-none : (ds es : List Doing) → has_arrival ds ≡ false → has_arrival es ≡ false → has_arrival (ds ++ es) ≡ false
both-none ds es first second = list_any-append is_arrival ds es ∙ or_from (has_arrival ds) (has_arrival es) first second

pub hold_all-none : (ns : List Named) → has_arrival (hold_all ns) ≡ false
unfolding hold_all
hold_all-none [] = refl
hold_all-none (n ∷ ns) = both-none (hold_doings n) (hold_all ns) (hold-none n) (hold_all-none ns)

leaving-none : (p n : ℕ) (f : Option FileState) → has_arrival (leaving p n f) ≡ false
unfolding leaving
leaving-none p n None = refl
leaving-none p n (Some f) = refl

left-none : (p : ℕ) (x : Option DescriptionState) (o : Objects counted) → has_arrival (left p x o) ≡ false
unfolding left
left-none p None o = refl
left-none p (Some s) o =
    cond_both (is_last s.holders) (leaving p s.file (o.file s.file)) [] (λ ds. has_arrival ds ≡ false) (λ _. leaving-none p s.file (o.file s.file)) (λ _. refl)

pub release-none : (n : Named) (o : Objects counted) → has_arrival (release_doings n o) ≡ false
unfolding release_doings
release-none (named.Socket p) o = refl
release-none (named.PipeRead p) o = refl
release-none (named.PipeWrite p) o = refl
release-none (named.Open p f) o = left-none p (o.description p) o
release-none (named.Kqueue p) o = refl

pub release_all-none : (ns : List Named) (o : Objects counted) → has_arrival (release_all ns o) ≡ false
unfolding release_all
release_all-none [] o = refl
release_all-none (n ∷ ns) o =
    both-none (release_doings n o) (release_all ns (release n o)) (release-none n o) (release_all-none ns (release n o))

pub shared-none : (n : Named) (ds : List Doing) → has_arrival ds ≡ false → has_arrival (ds ++ hold_doings n) ≡ false
shared-none n ds none = both-none ds (hold_doings n) none (hold-none n)
