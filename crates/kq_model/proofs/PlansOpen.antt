-- What a record opens is no kqueue: of each form of plan, and so of each record.
use Rattle.std.proofs.Common.{◌≡◌, ℕ, pos, negsuc, Bool, true, false, cond, not, ◌||◌, ltb, eqb, length, List, [], ◌∷◌, map, Option, Some, None, Ok, Err, refl, sym, ap, ◌∙◌, subst}
use Rattle.std.proofs.lemmas.Bool.{cond_both, not-true}
use Rattle.std.proofs.lemmas.List.Elements.{All-nil, All-cons}
use Rattle.std.specs.Option.{is_some}
use Rattle.std.specs.Prelude.{All}
use Rattle.kq_model.specs.declared.act.Act.{Act}
use Rattle.kq_model.specs.declared.act.Act.TheVariants as act
use Rattle.kq_model.specs.declared.change.Change.{Change}
use Rattle.kq_model.specs.declared.event.Event.{Event}
use Rattle.kq_model.specs.declared.event.Event.TheVariants as event
use Rattle.kq_model.specs.declared.mode.Mode.{Mode}
use Rattle.kq_model.specs.declared.object.Named.{Named}
use Rattle.kq_model.specs.declared.object.Named.TheVariants as named
use Rattle.kq_model.specs.declared.why.Why.{Why}
use Rattle.kq_model.specs.Descriptors.{Descriptor}
use Rattle.kq_model.specs.DescriptorPlans.{on_named, on_descriptor, plan_close, duplicated, plan_dup, plan_kqueue, plan_call, plan_kevent}
use Rattle.kq_model.specs.LiveKqueues.{NamesNoKqueue, OpensNoKqueue}
use Rattle.kq_model.specs.Limits.{most_changes, most_room}
use Rattle.kq_model.specs.ObjectPlan as object
use Rattle.kq_model.specs.ObjectRecordPlans.{with_objects, plan_act, plan_at, unless_open, if_live, pipe_ends, plan_socket, plan_accept, plan_open, plan_pipe}
use Rattle.kq_model.specs.Objects.{counted}
use Rattle.kq_model.specs.Planning as object_planning
use Rattle.kq_model.specs.Plans.{plan}
use Rattle.kq_model.specs.Processes.{was_used, is_live}
use Rattle.kq_model.specs.ProcessPlans.{descriptors_of, inheritable, is_kqueue, is_signal, plan_clock, plan_clock_at, plan_exec, plan_exit, plan_fork, plan_proc, plan_sig, plan_sigset}
use Rattle.kq_model.specs.World.{World, Plan, Planned, Impossible, Possible, named_by}

-- ---- descriptors that name no kqueue

other_than_kqueue : (d : Descriptor) → is_kqueue d.named ≡ false → NamesNoKqueue d
unfolding is_kqueue
other_than_kqueue d other place is = let bad : true ≡ false = sym (ap is_kqueue is) ∙ other in cc

one : (d : Descriptor) → is_kqueue d.named ≡ false → All NamesNoKqueue (d ∷ [])
one d other = All-cons NamesNoKqueue d [] (other_than_kqueue d other) (All-nil NamesNoKqueue)

-- what a child inherits
inherited-all : (child : ℕ) (ds : List Descriptor) → All NamesNoKqueue (map (λ (d : Descriptor). record d { pid = child }) (inheritable ds))
inherited-all child [] = All-nil NamesNoKqueue
inherited-all child (d ∷ ds) =
    let rest = inherited-all child ds in
    cond_both (not (is_kqueue d.named)) (d ∷ inheritable ds) (inheritable ds)
    (λ (kept : List Descriptor). All NamesNoKqueue (map (λ (x : Descriptor). record x { pid = child }) kept))
    (λ other. All-cons NamesNoKqueue (record d { pid = child }) (map (λ (x : Descriptor). record x { pid = child }) (inheritable ds))
    (other_than_kqueue (record d { pid = child }) (not-true (is_kqueue d.named) other)) rest)
    (λ _. rest)

-- ---- plans by their form

record Opens (q : Planned) : Type 0 where
  none : OpensNoKqueue q

impossible : {why : Why} → Opens (Impossible why)
impossible = record { none = tt }

nothing : {p : Plan} → p.opened ≡ [] → Opens (Possible p)
nothing {p = p} empty = record { none = subst (All NamesNoKqueue) (sym empty) (All-nil NamesNoKqueue) }

either : {p q : Planned} (b : Bool) → Opens p → Opens q → Opens (cond b p q)
either {p = p} {q = q} b first second = cond_both b p q Opens (λ _. first) (λ _. second)

if_live-opens : (pid : ℕ) (w : World counted) (q : Planned) → Opens q → Opens (if_live pid w q)
unfolding if_live
if_live-opens pid w q opens = either (is_live pid w.processes) opens impossible

unless_open-opens : (pid : ℕ) (numbers : List ℕ) (w : World counted) (q : Planned) → Opens q → Opens (unless_open pid numbers w q)
unfolding unless_open
unless_open-opens pid [] w q opens = opens
unless_open-opens pid (n ∷ ns) w q opens = either (is_some (named_by pid n w)) impossible (unless_open-opens pid ns w q opens)

with_objects-opens : (ds : List Descriptor) (q : object.Planned) → All NamesNoKqueue ds → Opens (with_objects ds q)
unfolding with_objects
with_objects-opens ds (Err why) none = impossible
with_objects-opens ds (Ok p) none = record { none = none }

plan_act-opens : (place : ℕ) (ds : List Descriptor) (a : Act) (w : World counted) → All NamesNoKqueue ds → Opens (plan_act place ds a w)
unfolding plan_act
plan_act-opens place ds a w none = with_objects-opens ds (object_planning.plan place a w.objects) none

on_named-opens : (planned : Named → Planned) → ((n : Named) → Opens (planned n)) → (found : Option Named) → Opens (on_named planned found)
unfolding on_named
on_named-opens planned opens None = impossible
on_named-opens planned opens (Some n) = opens n

on_descriptor-opens : (pid number : ℕ) (planned : Named → Planned) → ((n : Named) → Opens (planned n)) → (w : World counted)
    → Opens (on_descriptor pid number planned w)
unfolding on_descriptor
on_descriptor-opens pid number planned opens w =
    either (not (is_live pid w.processes)) impossible (on_named-opens planned opens (named_by pid number w))

plan_at-opens : (place pid fd : ℕ) (at : Named → Act) (w : World counted) → Opens (plan_at place pid fd at w)
unfolding plan_at
plan_at-opens place pid fd at w =
    on_descriptor-opens pid fd (λ n. plan_act place [] (at n) w) (λ n. plan_act-opens place [] (at n) w (All-nil NamesNoKqueue)) w

-- ---- plans of single records

plan_fork-opens : (pid child : ℕ) (w : World counted) → Opens (plan_fork pid child w)
unfolding plan_fork
plan_fork-opens pid child w =
    either (not (is_live pid w.processes)) impossible (either (was_used child w.processes) impossible (record { none = inherited-all child (descriptors_of pid w.table) }))

duplicated-opens : (pid fd to : ℕ) (w : World counted) (n : Named) → Opens (duplicated pid fd to w n)
unfolding duplicated is_kqueue
duplicated-opens pid fd to w (named.Kqueue place) = impossible
duplicated-opens pid fd to w n =
    either (eqb fd to) (nothing refl) (record { none = one (record { pid = pid; number = to; named = n }) refl })

plan_call-opens : (changes : List Change) (room : ℕ) (n : Named) → Opens (plan_call changes room n)
unfolding plan_call
plan_call-opens changes room (named.Kqueue place) = either (ltb most_changes (length changes) || ltb most_room room) impossible (nothing refl)
plan_call-opens changes room _ = impossible

plan_socket-opens : (place pid fd rcv snd : ℕ) (w : World counted) → Opens (plan_socket place pid fd rcv snd w)
unfolding plan_socket is_kqueue
plan_socket-opens place pid fd rcv snd w =
    if_live-opens pid w _ (unless_open-opens pid (fd ∷ []) w _
    (plan_act-opens place _ (act.Socket rcv snd) w (one (record { pid = pid; number = fd; named = named.Socket place }) refl)))

plan_accept-opens : (place pid fd to rcv snd : ℕ) (w : World counted) → Opens (plan_accept place pid fd to rcv snd w)
unfolding plan_accept is_kqueue
plan_accept-opens place pid fd to rcv snd w =
    on_descriptor-opens pid fd _ (λ n. unless_open-opens pid (to ∷ []) w _
    (plan_act-opens place _ (act.Accept n rcv snd) w (one (record { pid = pid; number = to; named = named.Socket place }) refl))) w

plan_pipe-opens : (place pid rfd wfd cap : ℕ) (w : World counted) → Opens (plan_pipe place pid rfd wfd cap w)
unfolding plan_pipe is_kqueue
plan_pipe-opens place pid rfd wfd cap w =
    if_live-opens pid w _ (either (eqb rfd wfd) impossible (unless_open-opens pid (rfd ∷ wfd ∷ []) w _
    (plan_act-opens place (pipe_ends place pid rfd wfd) (act.Pipe cap) w
    (All-cons NamesNoKqueue (record { pid = pid; number = rfd; named = named.PipeRead place })
    (record { pid = pid; number = wfd; named = named.PipeWrite place } ∷ [])
    (other_than_kqueue (record { pid = pid; number = rfd; named = named.PipeRead place }) refl)
    (one (record { pid = pid; number = wfd; named = named.PipeWrite place }) refl)))))

plan_open-opens : (place pid fd file : ℕ) (mode : Mode) (w : World counted) → Opens (plan_open place pid fd file mode w)
unfolding plan_open is_kqueue
plan_open-opens place pid fd file mode w =
    if_live-opens pid w _ (unless_open-opens pid (fd ∷ []) w _
    (plan_act-opens place _ (act.Open file mode) w (one (record { pid = pid; number = fd; named = named.Open place file }) refl)))

record_opens : (place : ℕ) (e : Event) (w : World counted) → Opens (plan place e w)
unfolding plan plan_clock_at plan_clock plan_exec plan_sigset plan_sig plan_proc plan_exit plan_kqueue plan_dup plan_close plan_kevent
record_opens place (event.Proc pid) w = either (was_used pid w.processes) impossible (nothing refl)
record_opens place (event.Fork pid child) w = plan_fork-opens pid child w
record_opens place (event.Exit pid status) w = either (not (is_live pid w.processes)) impossible (nothing refl)
record_opens place (event.Kqueue pid fd) w =
    either (not (is_live pid w.processes)) impossible (either (is_some (named_by pid fd w)) impossible (nothing refl))
record_opens place (event.Dup pid fd to) w = on_descriptor-opens pid fd _ (duplicated-opens pid fd to w) w
record_opens place (event.Close pid fd) w = on_descriptor-opens pid fd _ (λ n. nothing refl) w
record_opens place (event.Socket pid fd rcv snd) w = plan_socket-opens place pid fd rcv snd w
record_opens place (event.Listen pid fd backlog) w = plan_at-opens place pid fd (λ on. act.Listen on backlog) w
record_opens place (event.Arrive pid fd) w = plan_at-opens place pid fd act.Arrive w
record_opens place (event.Accept pid fd to rcv snd) w = plan_accept-opens place pid fd to rcv snd w
record_opens place (event.Connect pid fd) w = plan_at-opens place pid fd act.Connect w
record_opens place (event.Rx pid fd n) w = plan_at-opens place pid fd (λ on. act.Receive on n) w
record_opens place (event.Tx pid fd n) w = plan_at-opens place pid fd (λ on. act.Transmit on n) w
record_opens place (event.Shut pid fd side error) w = plan_at-opens place pid fd (λ on. act.Shut on side error) w
record_opens place (event.Lowat pid fd side n) w = plan_at-opens place pid fd (λ on. act.LowWater on side n) w
record_opens place (event.Pipe pid rfd wfd cap) w = plan_pipe-opens place pid rfd wfd cap w
record_opens place (event.Read pid fd n) w = plan_at-opens place pid fd (λ on. act.Read on n) w
record_opens place (event.Write pid fd n) w = plan_at-opens place pid fd (λ on. act.Write on n) w
record_opens place (event.Exec pid) w = either (not (is_live pid w.processes)) impossible (nothing refl)
record_opens place (event.Sigset pid sig ignore) w =
    either (not (is_live pid w.processes)) impossible (either (not (is_signal sig)) impossible (nothing refl))
record_opens place (event.Sig pid sig) w =
    either (not (is_live pid w.processes)) impossible (either (not (is_signal sig)) impossible (nothing refl))
record_opens place (event.File file size) w = plan_act-opens place [] (act.File file size) w (All-nil NamesNoKqueue)
record_opens place (event.Open pid fd file mode) w = plan_open-opens place pid fd file mode w
record_opens place (event.Seek pid fd offset) w = plan_at-opens place pid fd (λ on. act.Seek on offset) w
record_opens place (event.Truncate file size) w = plan_act-opens place [] (act.Truncate file size) w (All-nil NamesNoKqueue)
record_opens place (event.Note file note) w = plan_act-opens place [] (act.Note file note) w (All-nil NamesNoKqueue)
record_opens place (event.Clock (pos n)) w = either (ltb n w.now) impossible (nothing refl)
record_opens place (event.Clock (negsuc n)) w = impossible
record_opens place (event.Kevent pid fd changes room) w = on_descriptor-opens pid fd (plan_call changes room) (plan_call-opens changes room) w

pub plan-opens : (place : ℕ) (e : Event) (w : World counted) → OpensNoKqueue (plan place e w)
plan-opens place e w = (record_opens place e w).none
