-- What objects do, and what is released, brings no NOTE_CHILD to a process.
use Rattle.std.proofs.Common.{◌≡◌, ◌+◌, ◌-◌, ℕ, ℤ, Bool, true, false, cond, not, ◌&&◌, ltb, List, [], ◌∷◌, ◌++◌, Option, Some, None, Result, Ok, Err, if◌then◌else◌}
use Rattle.std.proofs.lemmas.Bool.{cond_both}
use Rattle.std.specs.Int.{bit_at}
use Rattle.std.specs.Option.{is_some}
use Rattle.kq_model.specs.declared.act.Act.{Act}
use Rattle.kq_model.specs.declared.act.Act.TheVariants as act
use Rattle.kq_model.specs.declared.mode.Mode.{Mode}
use Rattle.kq_model.specs.declared.note.Note.{Note}
use Rattle.kq_model.specs.declared.object.Hint.{Hint}
use Rattle.kq_model.specs.declared.object.Hint.TheVariants as hint
use Rattle.kq_model.specs.declared.object.Target.{Target}
use Rattle.kq_model.specs.declared.object.Named.{Named}
use Rattle.kq_model.specs.declared.object.Named.TheVariants as named
use Rattle.kq_model.specs.declared.object.Target.TheVariants as target
use Rattle.kq_model.specs.declared.why.Why.{Why}
use Rattle.kq_model.specs.declared.why.Why.TheVariants.{TooMany, WrongKind}
use Rattle.kq_model.specs.declared.doing.DescriptionRecord.TheVariants as description
use Rattle.kq_model.specs.declared.doing.Doing.TheVariants.{ToDescription}
use Rattle.kq_model.specs.NoteBits.{note_read}
use Rattle.kq_model.specs.DescriptorPlans.{close_hints}
use Rattle.kq_model.specs.FilePlans as files
use Rattle.kq_model.specs.Files.{DescriptionState, FileState, may_read, may_write}
use Rattle.kq_model.specs.Holding.{release, release_hint, end_hint, close_hint, is_last, option_list, release_hints}
use Rattle.kq_model.specs.Limits.{most_file_size}
use Rattle.kq_model.specs.ObjectPlan as object
use Rattle.kq_model.specs.ObjectPlan.{hints_for}
use Rattle.kq_model.specs.Objects.{Objects, counted, size_of}
use Rattle.kq_model.specs.PipePlans as pipes
use Rattle.kq_model.specs.PipeSteps.{PipeStep}
use Rattle.kq_model.specs.Pipes.{PipeState}
use Rattle.kq_model.specs.Planning as object_planning
use Rattle.kq_model.specs.SocketPlans as sockets
use Rattle.kq_model.specs.SocketSteps.{SocketStep, is_capacity}
use Rattle.kq_model.specs.Sockets.{SocketState}
use Rattle.kq_model.specs.Targets.{Posted}

-- ---- hints of processes

-- it is no note with NOTE_CHILD, whose bit has this number
abbrev pub child_bit : ℕ
child_bit = 2

abbrev pub IsChildless : Hint → Type 0
IsChildless (hint.Note bits) = bit_at bits child_bit ≡ 0
IsChildless _ = Unit {0}

abbrev pub IsChildlessFor : Target → Hint → Type 0
IsChildlessFor (target.Process pid) h = IsChildless h
IsChildlessFor _ h = Unit {0}

abbrev pub AreChildless : List Posted → Type 0
AreChildless [] = Unit {0}
AreChildless (p ∷ posted) = IsChildlessFor p.0 p.1 × AreChildless posted

pub childless-append : (xs ys : List Posted) → AreChildless xs → AreChildless ys → AreChildless (xs ++ ys)
childless-append [] ys none more = more
childless-append (x ∷ xs) ys none more = (none.0, childless-append xs ys none.1 more)

abbrev pub IsChildlessPlan : object.Planned → Type 0
IsChildlessPlan (Err why) = Unit {0}
IsChildlessPlan (Ok p) = AreChildless p.hints

-- ---- of objects

at-socket : (place : ℕ) (hint : Option Hint) → AreChildless (hints_for (target.Socket place) hint)
unfolding hints_for
at-socket place None = tt
at-socket place (Some h) = (tt, tt)

at-pipe : (place : ℕ) (hint : Option Hint) → AreChildless (hints_for (target.Pipe place) hint)
unfolding hints_for
at-pipe place None = tt
at-pipe place (Some h) = (tt, tt)

childless-if : (b : Bool) (p q : object.Planned) → IsChildlessPlan p → IsChildlessPlan q → IsChildlessPlan (cond b p q)
childless-if true p q first second = first
childless-if false p q first second = second

socket-step : (place : ℕ) (s : SocketStep) → IsChildlessPlan (sockets.socket_plan place s)
unfolding sockets.socket_plan
socket-step place (Err why) = tt
socket-step place (Ok (told, hint)) = at-socket place hint

socket-found : (step : SocketState → SocketStep) (r : Result (ℕ × SocketState) Why)
    → IsChildlessPlan (sockets.step_of step r)
unfolding sockets.step_of
socket-found step (Err why) = tt
socket-found step (Ok (place, s)) = socket-step place (step s)

socket-plan : (step : SocketState → SocketStep) (on : Named) (o : Objects counted)
    → IsChildlessPlan (sockets.plan_at_socket step on o)
unfolding sockets.plan_at_socket
socket-plan step on o = socket-found step (sockets.socket_at on o)

accept-plan : (place rcv snd : ℕ) (q : object.Planned) → IsChildlessPlan q
    → IsChildlessPlan (sockets.accepted place rcv snd q)
unfolding sockets.accepted
accept-plan place rcv snd (Err why) childless = tt
accept-plan place rcv snd (Ok p) childless = childless

pipe-step : (place : ℕ) (s : PipeStep) → IsChildlessPlan (pipes.pipe_plan place s)
unfolding pipes.pipe_plan
pipe-step place (Err why) = tt
pipe-step place (Ok (told, hint)) = at-pipe place hint

pipe-plan : (step : PipeState → PipeStep) (place : ℕ) (found : Option PipeState)
    → IsChildlessPlan (pipes.plan_at_pipe step place found)
unfolding pipes.plan_at_pipe
pipe-plan step place None = tt
pipe-plan step place (Some s) = pipe-step place (step s)

file-note : (number bits : ℕ) → AreChildless (files.noted number bits ∷ [])
unfolding files.noted
file-note number bits = (tt, tt)

each-readable : (places : List ℕ) → AreChildless (files.readable_each places)
each-readable [] = tt
each-readable (place ∷ places) = (tt, each-readable places)

file-sized : (number : ℕ) (s : FileState) (size : Option ℕ) → IsChildlessPlan (files.sized number s size)
unfolding files.sized
file-sized number s None = tt
file-sized number s (Some size) =
    childless-append (files.readable_each s.descriptions) _ (each-readable s.descriptions) (file-note number _)

file-truncated : (number : ℕ) (size : ℤ) (found : Option FileState)
    → IsChildlessPlan (files.truncated number size found)
unfolding files.truncated
file-truncated number size None = tt
file-truncated number size (Some s) = file-sized number s (files.file_amount size)

file-said : (number : ℕ) (what : Note) (found : Option FileState) → IsChildlessPlan (files.said number what found)
unfolding files.said
file-said number what None = tt
file-said number what (Some s) = file-note number _

file-opened : (place number : ℕ) (mode : Mode) (found : Option FileState)
    → IsChildlessPlan (files.opened place number mode found)
unfolding files.opened
file-opened place number mode None = tt
file-opened place number mode (Some s) = file-note number _

file-made : (number : ℕ) (size : Option ℕ) → IsChildlessPlan (files.made_file number size)
unfolding files.made_file
file-made number None = tt
file-made number (Some size) = tt

file-sought : (place : ℕ) (to : Option ℕ) → IsChildlessPlan (files.sought place to)
unfolding files.sought
file-sought place None = tt
file-sought place (Some offset) = (tt, tt)

file-sought_in : (place : ℕ) (offset : ℤ) (found : Option DescriptionState)
    → IsChildlessPlan (files.sought_in place offset found)
unfolding files.sought_in
file-sought_in place offset None = tt
file-sought_in place offset (Some s) = file-sought place (files.file_amount offset)

file-seek : (on : Named) (offset : ℤ) (o : Objects counted) → IsChildlessPlan (files.plan_seek on offset o)
unfolding files.plan_seek
file-seek (named.Open place number) offset o = file-sought_in place offset (o.description place)
file-seek _ offset o = tt

file-read : (place bytes : ℕ) (found : Option DescriptionState) (o : Objects counted)
    → IsChildlessPlan (files.read_file place bytes found o)
unfolding files.read_file
file-read place bytes None o = tt
file-read place bytes (Some s) o =
    let reads : object.Planned = Ok (record {
      doings = ToDescription place (description.Moved bytes) ∷ [];
      hints = files.noted s.file note_read ∷ [];
    }) in
    let checked : object.Planned = if ltb (size_of (o.file s.file) - s.offset) bytes then Err TooMany else reads in
    childless-if (not (may_read s.mode)) (Err WrongKind) checked tt
    (childless-if (ltb (size_of (o.file s.file) - s.offset) bytes) (Err TooMany) reads tt (file-note s.file note_read))

file-written : (place bytes : ℕ) (s : DescriptionState) (found : Option FileState)
    → IsChildlessPlan (files.written place bytes s found)
unfolding files.written
file-written place bytes s None = tt
file-written place bytes s (Some f) =
    childless-append (files.readable_each f.descriptions) _ (each-readable f.descriptions) (file-note s.file _)

file-write : (place bytes : ℕ) (found : Option DescriptionState) (o : Objects counted)
    → IsChildlessPlan (files.write_file place bytes found o)
unfolding files.write_file
file-write place bytes None o = tt
file-write place bytes (Some s) o =
    let writes : object.Planned = files.written place bytes s (o.file s.file) in
    let checked : object.Planned = if ltb most_file_size (s.offset + bytes) then Err TooMany else writes in
    childless-if (not (may_write s.mode)) (Err WrongKind) checked tt
    (childless-if (ltb most_file_size (s.offset + bytes)) (Err TooMany) writes tt (file-written place bytes s (o.file s.file)))

read-plan : (on : Named) (bytes : ℕ) (o : Objects counted) → IsChildlessPlan (object_planning.plan_read on bytes o)
unfolding object_planning.plan_read
read-plan (named.Socket place) bytes o = socket-plan _ (named.Socket place) o
read-plan (named.PipeRead place) bytes o = pipe-plan _ place (o.pipe place)
read-plan (named.Open place number) bytes o = file-read place bytes (o.description place) o
read-plan _ bytes o = tt

write-plan : (on : Named) (bytes : ℕ) (o : Objects counted) → IsChildlessPlan (object_planning.plan_write on bytes o)
unfolding object_planning.plan_write
write-plan (named.Socket place) bytes o = socket-plan _ (named.Socket place) o
write-plan (named.PipeWrite place) bytes o = pipe-plan _ place (o.pipe place)
write-plan (named.Open place number) bytes o = file-write place bytes (o.description place) o
write-plan _ bytes o = tt

pub act-plan : (place : ℕ) (a : Act) (o : Objects counted) → IsChildlessPlan (object_planning.plan place a o)
unfolding object_planning.plan sockets.plan_socket sockets.plan_accept pipes.plan_pipe files.plan_file files.plan_open files.plan_truncate files.plan_note
act-plan place (act.Socket rcv snd) o = childless-if (not (is_capacity rcv && is_capacity snd)) _ _ tt tt
act-plan place (act.Listen on backlog) o = socket-plan _ on o
act-plan place (act.Arrive on) o = socket-plan _ on o
act-plan place (act.Accept on rcv snd) o = accept-plan place rcv snd _ (socket-plan _ on o)
act-plan place (act.Connect on) o = socket-plan _ on o
act-plan place (act.Receive on bytes) o = socket-plan _ on o
act-plan place (act.Transmit on bytes) o = socket-plan _ on o
act-plan place (act.Shut on side error) o = socket-plan _ on o
act-plan place (act.LowWater on side mark) o = socket-plan _ on o
act-plan place (act.Pipe cap) o = childless-if (not (is_capacity cap)) _ _ tt tt
act-plan place (act.Read on bytes) o = read-plan on bytes o
act-plan place (act.Write on bytes) o = write-plan on bytes o
act-plan place (act.File number size) o =
    childless-if (is_some (o.file number)) _ _ tt (file-made number (files.file_amount size))
act-plan place (act.Open number mode) o = file-opened place number mode (files.present (o.file number))
act-plan place (act.Seek on offset) o = file-seek on offset o
act-plan place (act.Truncate number size) o = file-truncated number size (files.present (o.file number))
act-plan place (act.Note number note) o = file-said number note (files.present (o.file number))

-- ---- what is released

end-hint : (place : ℕ) (h : Hint) (holders : ℤ) → AreChildless (option_list (end_hint place h holders))
unfolding end_hint option_list
end-hint place h holders =
    cond_both (is_last holders) (Some (target.Pipe place, h)) None (λ found. AreChildless (option_list found)) (λ _. (tt, tt)) (λ _. tt)

close-hint : (found : Option DescriptionState) → AreChildless (option_list (close_hint found))
unfolding close_hint option_list
close-hint None = tt
close-hint (Some s) =
    cond_both (is_last s.holders) _ None (λ found. AreChildless (option_list found)) (λ _. (tt, tt)) (λ _. tt)

pub released-hint : (n : Named) (o : Objects counted) → AreChildless (option_list (release_hint n o))
unfolding release_hint option_list
released-hint (named.Socket place) o = tt
released-hint (named.PipeRead place) o = end-hint place _ _
released-hint (named.PipeWrite place) o = end-hint place _ _
released-hint (named.Open place number) o = close-hint (o.description place)
released-hint (named.Kqueue place) o = tt

pub released-hints : (ns : List Named) (o : Objects counted) → AreChildless (release_hints ns o)
unfolding release_hints
released-hints [] o = tt
released-hints (n ∷ ns) o =
    childless-append (option_list (release_hint n o)) _ (released-hint n o) (released-hints ns (release n o))

pub closed-hints : (found : Option Named) (o : Objects counted) → AreChildless (close_hints found o)
unfolding close_hints
closed-hints None o = tt
closed-hints (Some n) o = released-hint n o
