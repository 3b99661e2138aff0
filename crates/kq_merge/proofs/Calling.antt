-- The call that the plan of a record has, if any, has at most the room of the record: of each form of plan, and so of
-- each record.
use Rattle.std.proofs.Common.{◌≡◌, ℕ, ℤ, pos, negsuc, ◌≤◌, Bool, true, false, not, ◌||◌, cond, is_some, eqb, List, [], ◌∷◌, length, nat_lt, Option, Some, None, Ok, Err, refl, sym, subst, arith}
use Rattle.kq_model.specs.declared.act.Act.{Act}
use Rattle.kq_model.specs.declared.act.Act.TheVariants as act
use Rattle.kq_model.specs.declared.change.Change.{Change}
use Rattle.kq_model.specs.declared.event.Event.{Event}
use Rattle.kq_model.specs.declared.event.Event.TheVariants as event
use Rattle.kq_model.specs.declared.mode.Mode.{Mode}
use Rattle.kq_model.specs.declared.object.Named.{Named}
use Rattle.kq_model.specs.declared.object.Named.TheVariants as named
use Rattle.kq_model.specs.declared.why.Why.{Why}
use Rattle.kq_model.specs.declared.why.Why.TheVariants.{TooMany}
use Rattle.kq_model.specs.Descriptors.{Descriptor}
use Rattle.kq_model.specs.DescriptorPlans.{duplicated, on_descriptor, on_named, plan_call, plan_close, plan_dup, plan_kevent, plan_kqueue}
use Rattle.kq_model.specs.Limits.{most_changes, most_room}
use Rattle.kq_model.specs.ObjectPlan as object
use Rattle.kq_model.specs.ObjectRecordPlans.{if_live, pipe_ends, plan_accept, plan_act, plan_at, plan_open, plan_pipe, plan_socket, unless_open, with_objects}
use Rattle.kq_model.specs.Objects.{counted}
use Rattle.kq_model.specs.Planning as object_planning
use Rattle.kq_model.specs.Plans.{plan}
use Rattle.kq_model.specs.Processes.{is_live, was_used}
use Rattle.kq_model.specs.ProcessPlans.{is_signal, plan_clock, plan_clock_at, plan_exec, plan_exit, plan_fork, plan_proc, plan_sig, plan_sigset}
use Rattle.kq_model.specs.World.{Call, Impossible, Plan, Planned, Possible, World, idle, named_by}
use Rattle.kq_merge.specs.Rooms.{room_of}

-- a call with at most this room
abbrev pub CallsWithin : ℕ → Option Call → Type 0
CallsWithin room None = Unit {0}
CallsWithin room (Some c) = c.room ≤ room

abbrev call_in : Planned → Option Call
call_in (Impossible why) = None
call_in (Possible p) = p.call

-- a plan whose call has at most this room
pub record PlansWithin (room : ℕ) (p : Planned) : Type 0 where
  pub calls : CallsWithin room (call_in p)

-- ---- plans by their form

refused : {room : ℕ} {why : Why} → PlansWithin room (Impossible why)
refused = record { calls = tt }

-- a plan without a call
no_call : {room : ℕ} {p : Plan} → p.call ≡ None → PlansWithin room (Possible p)
no_call {room = room} none = record { calls = subst (λ (c : Option Call). CallsWithin room c) (sym none) tt }

either : {room : ℕ} {p q : Planned} (b : Bool) → PlansWithin room p → PlansWithin room q → PlansWithin room (cond b p q)
either true one other = one
either false one other = other

if_live_within : {room : ℕ} (pid : ℕ) (w : World counted) (q : Planned) → PlansWithin room q
    → PlansWithin room (if_live pid w q)
unfolding if_live
if_live_within pid w q within = either (is_live pid w.processes) within refused

unless_open_within : {room : ℕ} (pid : ℕ) (numbers : List ℕ) (w : World counted) (q : Planned) → PlansWithin room q
    → PlansWithin room (unless_open pid numbers w q)
unfolding unless_open
unless_open_within pid [] w q within = within
unless_open_within pid (n ∷ ns) w q within =
    either (is_some (named_by pid n w)) refused (unless_open_within pid ns w q within)

with_objects_within : {room : ℕ} (ds : List Descriptor) (q : object.Planned) → PlansWithin room (with_objects ds q)
unfolding with_objects
with_objects_within ds (Err why) = refused
with_objects_within ds (Ok p) = no_call refl

plan_act_within : {room : ℕ} (place : ℕ) (ds : List Descriptor) (a : Act) (w : World counted)
    → PlansWithin room (plan_act place ds a w)
unfolding plan_act
plan_act_within place ds a w = with_objects_within ds (object_planning.plan place a w.objects)

on_named_within : {room : ℕ} (planned : Named → Planned) → ((n : Named) → PlansWithin room (planned n))
    → (found : Option Named) → PlansWithin room (on_named planned found)
unfolding on_named
on_named_within planned all None = refused
on_named_within planned all (Some n) = all n

on_descriptor_within : {room : ℕ} (pid number : ℕ) (planned : Named → Planned)
    → ((n : Named) → PlansWithin room (planned n)) → (w : World counted)
    → PlansWithin room (on_descriptor pid number planned w)
unfolding on_descriptor
on_descriptor_within pid number planned all w =
    either (not (is_live pid w.processes)) refused (on_named_within planned all (named_by pid number w))

pub plan_at_within : {room : ℕ} (place pid fd : ℕ) (at : Named → Act) (w : World counted)
    → PlansWithin room (plan_at place pid fd at w)
unfolding plan_at
plan_at_within place pid fd at w =
    on_descriptor_within pid fd (λ n. plan_act place [] (at n) w) (λ n. plan_act_within place [] (at n) w) w

-- ---- plans of single records

pub plan_proc_within : {room : ℕ} (pid : ℕ) (w : World counted) → PlansWithin room (plan_proc pid w)
unfolding plan_proc
plan_proc_within pid w = either (was_used pid w.processes) refused (no_call refl)

pub plan_fork_within : {room : ℕ} (pid child : ℕ) (w : World counted) → PlansWithin room (plan_fork pid child w)
unfolding plan_fork
plan_fork_within pid child w =
    either (not (is_live pid w.processes)) refused (either (was_used child w.processes) refused (no_call refl))

pub plan_exit_within : {room : ℕ} (pid status : ℕ) (w : World counted) → PlansWithin room (plan_exit pid status w)
unfolding plan_exit
plan_exit_within pid status w = either (not (is_live pid w.processes)) refused (no_call refl)

pub plan_kqueue_within : {room : ℕ} (pid fd : ℕ) (w : World counted) → PlansWithin room (plan_kqueue pid fd w)
unfolding plan_kqueue
plan_kqueue_within pid fd w =
    either (not (is_live pid w.processes)) refused (either (is_some (named_by pid fd w)) refused (no_call refl))

pub plan_close_within : {room : ℕ} (pid fd : ℕ) (w : World counted) → PlansWithin room (plan_close pid fd w)
unfolding plan_close
plan_close_within pid fd w = on_descriptor_within pid fd _ (λ n. no_call refl) w

duplicated_within : {room : ℕ} (pid fd to : ℕ) (w : World counted) (n : Named)
    → PlansWithin room (duplicated pid fd to w n)
unfolding duplicated
duplicated_within pid fd to w (named.Kqueue place) = refused
duplicated_within pid fd to w n = either (eqb fd to) (no_call refl) (no_call refl)

pub plan_dup_within : {room : ℕ} (pid fd to : ℕ) (w : World counted) → PlansWithin room (plan_dup pid fd to w)
unfolding plan_dup
plan_dup_within pid fd to w = on_descriptor_within pid fd (duplicated pid fd to w) (duplicated_within pid fd to w) w

pub plan_socket_within : {room : ℕ} (place pid fd rcv snd : ℕ) (w : World counted)
    → PlansWithin room (plan_socket place pid fd rcv snd w)
unfolding plan_socket
plan_socket_within place pid fd rcv snd w =
    if_live_within pid w _ (unless_open_within pid (fd ∷ []) w _ (plan_act_within place _ (act.Socket rcv snd) w))

pub plan_accept_within : {room : ℕ} (place pid fd to rcv snd : ℕ) (w : World counted)
    → PlansWithin room (plan_accept place pid fd to rcv snd w)
unfolding plan_accept
plan_accept_within place pid fd to rcv snd w =
    on_descriptor_within pid fd _
    (λ n. unless_open_within pid (to ∷ []) w _ (plan_act_within place _ (act.Accept n rcv snd) w)) w

pub plan_pipe_within : {room : ℕ} (place pid read_fd write_fd cap : ℕ) (w : World counted)
    → PlansWithin room (plan_pipe place pid read_fd write_fd cap w)
unfolding plan_pipe
plan_pipe_within place pid read_fd write_fd cap w =
    if_live_within pid w _ (either (eqb read_fd write_fd) refused
    (unless_open_within pid (read_fd ∷ write_fd ∷ []) w _
    (plan_act_within place (pipe_ends place pid read_fd write_fd) (act.Pipe cap) w)))

pub plan_open_within : {room : ℕ} (place pid fd file : ℕ) (mode : Mode) (w : World counted)
    → PlansWithin room (plan_open place pid fd file mode w)
unfolding plan_open
plan_open_within place pid fd file mode w =
    if_live_within pid w _ (unless_open_within pid (fd ∷ []) w _ (plan_act_within place _ (act.Open file mode) w))

pub plan_exec_within : {room : ℕ} (pid : ℕ) (w : World counted) → PlansWithin room (plan_exec pid w)
unfolding plan_exec
plan_exec_within pid w = either (not (is_live pid w.processes)) refused (no_call refl)

pub plan_sigset_within : {room : ℕ} (pid signal : ℕ) (ignore : Bool) (w : World counted)
    → PlansWithin room (plan_sigset pid signal ignore w)
unfolding plan_sigset
plan_sigset_within pid signal ignore w =
    either (not (is_live pid w.processes)) refused (either (not (is_signal signal)) refused (no_call refl))

pub plan_sig_within : {room : ℕ} (pid signal : ℕ) (w : World counted) → PlansWithin room (plan_sig pid signal w)
unfolding plan_sig
plan_sig_within pid signal w =
    either (not (is_live pid w.processes)) refused (either (not (is_signal signal)) refused (no_call refl))

pub plan_clock_within : {room : ℕ} (moment : ℤ) (w : World counted) → PlansWithin room (plan_clock_at moment w)
unfolding plan_clock_at plan_clock
plan_clock_within (pos moment) w = either (nat_lt moment w.now) refused (no_call refl)
plan_clock_within (negsuc n) w = refused

-- ---- the plan of a call

abbrev planned_call : ℕ → List Change → ℕ → Bool → Bool → Planned
planned_call place changes room many wide = cond (many || wide) (Impossible TooMany)
    (Possible (record idle { call = Some (record { kqueue = place; changes = changes; room = room }) }))

-- none where the room is over the limit
abbrev room_for : ℕ → Bool → ℕ
room_for room wide = cond wide 0 room

planned_call_within : (place : ℕ) (changes : List Change) (room : ℕ) (many wide : Bool)
    → PlansWithin (room_for room wide) (planned_call place changes room many wide)
planned_call_within place changes room true wide = refused
planned_call_within place changes room false true = refused
planned_call_within place changes room false false = record { calls = omega arith }

plan_call_within : (changes : List Change) (room : ℕ) (n : Named)
    → PlansWithin (room_for room (nat_lt most_room room)) (plan_call changes room n)
unfolding plan_call
plan_call_within changes room (named.Kqueue place) =
    planned_call_within place changes room (nat_lt most_changes (length changes)) (nat_lt most_room room)
plan_call_within changes room _ = refused

plan_kevent_within : (pid fd : ℕ) (changes : List Change) (room : ℕ) (w : World counted)
    → PlansWithin (room_for room (nat_lt most_room room)) (plan_kevent pid fd changes room w)
unfolding plan_kevent
plan_kevent_within pid fd changes room w =
    on_descriptor_within pid fd (plan_call changes room) (plan_call_within changes room) w

-- ---- all records

pub plan_within : (place : ℕ) (e : Event) (w : World counted) → PlansWithin (room_of e) (plan place e w)
unfolding plan
plan_within place (event.Proc pid) w = plan_proc_within pid w
plan_within place (event.Fork pid child) w = plan_fork_within pid child w
plan_within place (event.Exit pid status) w = plan_exit_within pid status w
plan_within place (event.Kqueue pid fd) w = plan_kqueue_within pid fd w
plan_within place (event.Dup pid fd to) w = plan_dup_within pid fd to w
plan_within place (event.Close pid fd) w = plan_close_within pid fd w
plan_within place (event.Socket pid fd rcv snd) w = plan_socket_within place pid fd rcv snd w
plan_within place (event.Listen pid fd backlog) w = plan_at_within place pid fd (λ on. act.Listen on backlog) w
plan_within place (event.Arrive pid fd) w = plan_at_within place pid fd act.Arrive w
plan_within place (event.Accept pid fd to rcv snd) w = plan_accept_within place pid fd to rcv snd w
plan_within place (event.Connect pid fd) w = plan_at_within place pid fd act.Connect w
plan_within place (event.Rx pid fd n) w = plan_at_within place pid fd (λ on. act.Receive on n) w
plan_within place (event.Tx pid fd n) w = plan_at_within place pid fd (λ on. act.Transmit on n) w
plan_within place (event.Shut pid fd side error) w = plan_at_within place pid fd (λ on. act.Shut on side error) w
plan_within place (event.Lowat pid fd side n) w = plan_at_within place pid fd (λ on. act.LowWater on side n) w
plan_within place (event.Pipe pid rfd wfd cap) w = plan_pipe_within place pid rfd wfd cap w
plan_within place (event.Read pid fd n) w = plan_at_within place pid fd (λ on. act.Read on n) w
plan_within place (event.Write pid fd n) w = plan_at_within place pid fd (λ on. act.Write on n) w
plan_within place (event.Exec pid) w = plan_exec_within pid w
plan_within place (event.Sigset pid sig ignore) w = plan_sigset_within pid sig ignore w
plan_within place (event.Sig pid sig) w = plan_sig_within pid sig w
plan_within place (event.File file size) w = plan_act_within place [] (act.File file size) w
plan_within place (event.Open pid fd file mode) w = plan_open_within place pid fd file mode w
plan_within place (event.Seek pid fd offset) w = plan_at_within place pid fd (λ on. act.Seek on offset) w
plan_within place (event.Truncate file size) w = plan_act_within place [] (act.Truncate file size) w
plan_within place (event.Note file note) w = plan_act_within place [] (act.Note file note) w
plan_within place (event.Clock ns) w = plan_clock_within ns w
plan_within place (event.Kevent pid fd changes room) w = plan_kevent_within pid fd changes room w
