-- What objects do, and what is released, tells of no fork.
use Rattle.std.proofs.Common.{◌≡◌, ◌∙◌, ◌+◌, ◌-◌, ℕ, ℤ, Bool, true, false, cond, not, ◌&&◌, ltb, List, [], ◌∷◌, ◌++◌, Option, Some, None, Result, Ok, Err, refl, ap, if◌then◌else◌}
use Rattle.std.proofs.lemmas.Bool.{cond_both}
use Rattle.std.specs.Option.{is_some}
use Rattle.kq_model.specs.declared.act.Act.{Act}
use Rattle.kq_model.specs.declared.act.Act.TheVariants as act
use Rattle.kq_model.specs.declared.mode.Mode.{Mode}
use Rattle.kq_model.specs.declared.note.Note.{Note}
use Rattle.kq_model.specs.declared.object.Hint.{Hint}
use Rattle.kq_model.specs.declared.object.Named.{Named}
use Rattle.kq_model.specs.declared.object.Named.TheVariants as named
use Rattle.kq_model.specs.declared.object.Target.TheVariants as target
use Rattle.kq_model.specs.declared.why.Why.{Why}
use Rattle.kq_model.specs.declared.why.Why.TheVariants.{TooMany, WrongKind}
use Rattle.kq_model.specs.declared.doing.DescriptionRecord.TheVariants as description
use Rattle.kq_model.specs.declared.doing.Doing.TheVariants.{ToDescription}
use Rattle.kq_model.specs.NoteBits.{note_read}
use Rattle.kq_model.specs.DescriptorPlans.{close_hints}
use Rattle.kq_model.specs.FilePlans as files
use Rattle.kq_model.specs.Files.{DescriptionState, FileState, may_read, may_write}
use Rattle.kq_model.specs.Following.{Fork, forks_of, all_forks}
use Rattle.kq_model.specs.Holding.{release, release_hint, end_hint, close_hint, is_last, option_list, release_hints}
use Rattle.kq_model.specs.Limits.{most_file_size}
use Rattle.kq_model.specs.ObjectPlan as object
use Rattle.kq_model.specs.ObjectPlan.{hints_for}
use Rattle.kq_model.specs.Objects.{Objects, counted, size_of}
use Rattle.kq_model.specs.PipePlans as pipes
use Rattle.kq_model.specs.PipeSteps.{PipeStep}
use Rattle.kq_model.specs.Pipes.{PipeState}
use Rattle.kq_model.specs.Planning as object_planning
use Rattle.kq_model.specs.SocketPlans as sockets
use Rattle.kq_model.specs.SocketSteps.{SocketStep, is_capacity}
use Rattle.kq_model.specs.Sockets.{SocketState}
use Rattle.kq_model.specs.Targets.{Posted}

-- ---- hints that tell of no fork

abbrev pub TellNone : List Posted → Type 0
TellNone posted = all_forks posted ≡ []

pub tell-append : (xs ys : List Posted) → TellNone xs → TellNone ys → TellNone (xs ++ ys)
unfolding all_forks
tell-append [] ys none more = more
tell-append (x ∷ xs) ys none more =
    let parts = empty-parts (forks_of x.0 x.1) (all_forks xs) none in
    ap (λ fs. fs ++ all_forks (xs ++ ys)) parts.0 ∙ tell-append xs ys parts.1 more
  where
    empty-parts : (fs gs : List Fork) → fs ++ gs ≡ [] → (fs ≡ []) × (gs ≡ [])
    empty-parts [] gs e = (refl, e)
    empty-parts (f ∷ fs) gs e = absurd (cc)

-- ---- of objects

abbrev pub IsSilent : object.Planned → Type 0
IsSilent (Err why) = Unit {0}
IsSilent (Ok p) = TellNone p.hints

at-socket : (place : ℕ) (hint : Option Hint) → TellNone (hints_for (target.Socket place) hint)
unfolding hints_for all_forks forks_of
at-socket place None = refl
at-socket place (Some h) = refl

at-pipe : (place : ℕ) (hint : Option Hint) → TellNone (hints_for (target.Pipe place) hint)
unfolding hints_for all_forks forks_of
at-pipe place None = refl
at-pipe place (Some h) = refl

silent-if : (b : Bool) (p q : object.Planned) → IsSilent p → IsSilent q → IsSilent (cond b p q)
silent-if true p q first second = first
silent-if false p q first second = second

socket-step : (place : ℕ) (s : SocketStep) → IsSilent (sockets.socket_plan place s)
unfolding sockets.socket_plan
socket-step place (Err why) = tt
socket-step place (Ok (told, hint)) = at-socket place hint

socket-found : (step : SocketState → SocketStep) (r : Result (ℕ × SocketState) Why) → IsSilent (sockets.step_of step r)
unfolding sockets.step_of
socket-found step (Err why) = tt
socket-found step (Ok (place, s)) = socket-step place (step s)

socket-plan : (step : SocketState → SocketStep) (on : Named) (o : Objects counted) → IsSilent (sockets.plan_at_socket step on o)
unfolding sockets.plan_at_socket
socket-plan step on o = socket-found step (sockets.socket_at on o)

accept-plan : (place rcv snd : ℕ) (q : object.Planned) → IsSilent q → IsSilent (sockets.accepted place rcv snd q)
unfolding sockets.accepted
accept-plan place rcv snd (Err why) silent = tt
accept-plan place rcv snd (Ok p) silent = silent

pipe-step : (place : ℕ) (s : PipeStep) → IsSilent (pipes.pipe_plan place s)
unfolding pipes.pipe_plan
pipe-step place (Err why) = tt
pipe-step place (Ok (told, hint)) = at-pipe place hint

pipe-plan : (step : PipeState → PipeStep) (place : ℕ) (found : Option PipeState) → IsSilent (pipes.plan_at_pipe step place found)
unfolding pipes.plan_at_pipe
pipe-plan step place None = tt
pipe-plan step place (Some s) = pipe-step place (step s)

file-note : (number bits : ℕ) → TellNone (files.noted number bits ∷ [])
unfolding files.noted all_forks forks_of
file-note number bits = refl

each-readable : (places : List ℕ) → TellNone (files.readable_each places)
unfolding all_forks forks_of
each-readable [] = refl
each-readable (place ∷ places) = each-readable places

file-sized : (number : ℕ) (s : FileState) (size : Option ℕ) → IsSilent (files.sized number s size)
unfolding files.sized
file-sized number s None = tt
file-sized number s (Some size) = tell-append (files.readable_each s.descriptions) _ (each-readable s.descriptions) (file-note number _)

file-truncated : (number : ℕ) (size : ℤ) (found : Option FileState) → IsSilent (files.truncated number size found)
unfolding files.truncated
file-truncated number size None = tt
file-truncated number size (Some s) = file-sized number s (files.file_amount size)

file-said : (number : ℕ) (what : Note) (found : Option FileState) → IsSilent (files.said number what found)
unfolding files.said
file-said number what None = tt
file-said number what (Some s) = file-note number _

file-opened : (place number : ℕ) (mode : Mode) (found : Option FileState) → IsSilent (files.opened place number mode found)
unfolding files.opened
file-opened place number mode None = tt
file-opened place number mode (Some s) = file-note number _

file-made : (number : ℕ) (size : Option ℕ) → IsSilent (files.made_file number size)
unfolding files.made_file all_forks
file-made number None = tt
file-made number (Some size) = refl

file-sought : (place : ℕ) (to : Option ℕ) → IsSilent (files.sought place to)
unfolding files.sought all_forks forks_of
file-sought place None = tt
file-sought place (Some offset) = refl

file-sought_in : (place : ℕ) (offset : ℤ) (found : Option DescriptionState) → IsSilent (files.sought_in place offset found)
unfolding files.sought_in
file-sought_in place offset None = tt
file-sought_in place offset (Some s) = file-sought place (files.file_amount offset)

file-seek : (on : Named) (offset : ℤ) (o : Objects counted) → IsSilent (files.plan_seek on offset o)
unfolding files.plan_seek
file-seek (named.Open place number) offset o = file-sought_in place offset (o.description place)
file-seek _ offset o = tt

file-read : (place bytes : ℕ) (found : Option DescriptionState) (o : Objects counted) → IsSilent (files.read_file place bytes found o)
unfolding files.read_file
file-read place bytes None o = tt
file-read place bytes (Some s) o =
    let reads : object.Planned = Ok (record {
      doings = ToDescription place (description.Moved bytes) ∷ [];
      hints = files.noted s.file note_read ∷ [];
    }) in
    let checked : object.Planned = if ltb (size_of (o.file s.file) - s.offset) bytes then Err TooMany else reads in
    silent-if (not (may_read s.mode)) (Err WrongKind) checked tt
    (silent-if (ltb (size_of (o.file s.file) - s.offset) bytes) (Err TooMany) reads tt (file-note s.file note_read))

file-written : (place bytes : ℕ) (s : DescriptionState) (found : Option FileState) → IsSilent (files.written place bytes s found)
unfolding files.written
file-written place bytes s None = tt
file-written place bytes s (Some f) = tell-append (files.readable_each f.descriptions) _ (each-readable f.descriptions) (file-note s.file _)

file-write : (place bytes : ℕ) (found : Option DescriptionState) (o : Objects counted) → IsSilent (files.write_file place bytes found o)
unfolding files.write_file
file-write place bytes None o = tt
file-write place bytes (Some s) o =
    let writes : object.Planned = files.written place bytes s (o.file s.file) in
    let checked : object.Planned = if ltb most_file_size (s.offset + bytes) then Err TooMany else writes in
    silent-if (not (may_write s.mode)) (Err WrongKind) checked tt
    (silent-if (ltb most_file_size (s.offset + bytes)) (Err TooMany) writes tt (file-written place bytes s (o.file s.file)))

read-plan : (on : Named) (bytes : ℕ) (o : Objects counted) → IsSilent (object_planning.plan_read on bytes o)
unfolding object_planning.plan_read
read-plan (named.Socket place) bytes o = socket-plan _ (named.Socket place) o
read-plan (named.PipeRead place) bytes o = pipe-plan _ place (o.pipe place)
read-plan (named.Open place number) bytes o = file-read place bytes (o.description place) o
read-plan _ bytes o = tt

write-plan : (on : Named) (bytes : ℕ) (o : Objects counted) → IsSilent (object_planning.plan_write on bytes o)
unfolding object_planning.plan_write
write-plan (named.Socket place) bytes o = socket-plan _ (named.Socket place) o
write-plan (named.PipeWrite place) bytes o = pipe-plan _ place (o.pipe place)
write-plan (named.Open place number) bytes o = file-write place bytes (o.description place) o
write-plan _ bytes o = tt

pub act-plan : (place : ℕ) (a : Act) (o : Objects counted) → IsSilent (object_planning.plan place a o)
unfolding object_planning.plan sockets.plan_socket sockets.plan_accept pipes.plan_pipe files.plan_file files.plan_open files.plan_truncate files.plan_note all_forks
act-plan place (act.Socket rcv snd) o = silent-if (not (is_capacity rcv && is_capacity snd)) _ _ tt refl
act-plan place (act.Listen on backlog) o = socket-plan _ on o
act-plan place (act.Arrive on) o = socket-plan _ on o
act-plan place (act.Accept on rcv snd) o = accept-plan place rcv snd _ (socket-plan _ on o)
act-plan place (act.Connect on) o = socket-plan _ on o
act-plan place (act.Receive on bytes) o = socket-plan _ on o
act-plan place (act.Transmit on bytes) o = socket-plan _ on o
act-plan place (act.Shut on side error) o = socket-plan _ on o
act-plan place (act.LowWater on side mark) o = socket-plan _ on o
act-plan place (act.Pipe cap) o = silent-if (not (is_capacity cap)) _ _ tt refl
act-plan place (act.Read on bytes) o = read-plan on bytes o
act-plan place (act.Write on bytes) o = write-plan on bytes o
act-plan place (act.File number size) o = silent-if (is_some (o.file number)) _ _ tt (file-made number (files.file_amount size))
act-plan place (act.Open number mode) o = file-opened place number mode (files.present (o.file number))
act-plan place (act.Seek on offset) o = file-seek on offset o
act-plan place (act.Truncate number size) o = file-truncated number size (files.present (o.file number))
act-plan place (act.Note number note) o = file-said number note (files.present (o.file number))

-- ---- what is released

end-hint : (place : ℕ) (h : Hint) (holders : ℤ) → TellNone (option_list (end_hint place h holders))
unfolding end_hint option_list all_forks forks_of
end-hint place h holders = cond_both (is_last holders) (Some (target.Pipe place, h)) None (λ found. TellNone (option_list found)) (λ _. refl) (λ _. refl)

close-hint : (found : Option DescriptionState) → TellNone (option_list (close_hint found))
unfolding close_hint option_list all_forks forks_of
close-hint None = refl
close-hint (Some s) =
    cond_both (is_last s.holders) _ None (λ found. TellNone (option_list found)) (λ _. refl) (λ _. refl)

pub released-hint : (n : Named) (o : Objects counted) → TellNone (option_list (release_hint n o))
unfolding release_hint option_list all_forks
released-hint (named.Socket place) o = refl
released-hint (named.PipeRead place) o = end-hint place _ _
released-hint (named.PipeWrite place) o = end-hint place _ _
released-hint (named.Open place number) o = close-hint (o.description place)
released-hint (named.Kqueue place) o = refl

pub released-hints : (ns : List Named) (o : Objects counted) → TellNone (release_hints ns o)
unfolding release_hints all_forks
released-hints [] o = refl
released-hints (n ∷ ns) o = tell-append (option_list (release_hint n o)) _ (released-hint n o) (released-hints ns (release n o))

pub closed-hints : (found : Option Named) (o : Objects counted) → TellNone (close_hints found o)
unfolding close_hints all_forks
closed-hints None o = refl
closed-hints (Some n) o = released-hint n o
