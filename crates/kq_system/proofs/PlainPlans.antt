-- Every record but three calls no kqueue, makes none and leaves the clock as it is.
use Rattle.std.proofs.Common.{◌≡◌, ℕ, ℤ, Bool, cond, not, eqb, List, [], ◌∷◌, Option, Some, None, Ok, Err, refl, subst}
use Rattle.std.proofs.lemmas.Bool.{cond_both}
use Rattle.std.specs.Option.{is_some}
use Rattle.kq_model.specs.declared.act.Act.{Act}
use Rattle.kq_model.specs.declared.act.Act.TheVariants as act
use Rattle.kq_model.specs.declared.change.Change.{Change}
use Rattle.kq_model.specs.declared.event.Event.{Event}
use Rattle.kq_model.specs.declared.event.Event.TheVariants as event
use Rattle.kq_model.specs.declared.object.Named.{Named}
use Rattle.kq_model.specs.declared.object.Named.TheVariants as named
use Rattle.kq_model.specs.declared.why.Why.{Why}
use Rattle.kq_model.specs.Descriptors.{Descriptor}
use Rattle.kq_model.specs.DescriptorPlans.{on_named, on_descriptor, plan_close, duplicated, plan_dup}
use Rattle.kq_model.specs.ObjectPlan as object
use Rattle.kq_model.specs.ObjectRecordPlans.{with_objects, plan_act, plan_at, unless_open, if_live, plan_socket, plan_accept, plan_open, plan_pipe}
use Rattle.kq_model.specs.Objects.{counted}
use Rattle.kq_model.specs.Planning as object_planning
use Rattle.kq_model.specs.Plans.{plan}
use Rattle.kq_model.specs.Processes.{was_used, is_live}
use Rattle.kq_model.specs.ProcessPlans.{is_signal, plan_exec, plan_exit, plan_fork, plan_proc, plan_sig, plan_sigset}
use Rattle.kq_model.specs.World.{World, Plan, Planned, Impossible, Possible, named_by}
use Rattle.kq_system.specs.SystemState.{IsPlain}

-- ---- plans by their form

abbrev PlainPlan : Planned → Type 0
PlainPlan (Impossible why) = Unit {0}
PlainPlan (Possible p) = (p.call ≡ None) × (p.born ≡ None) × (p.clock ≡ None)

record Plain (q : Planned) : Type 0 where
  plain : PlainPlan q

impossible : {why : Why} → Plain (Impossible why)
impossible = record { plain = tt }

either : {p q : Planned} (b : Bool) → Plain p → Plain q → Plain (cond b p q)
either {p = p} {q = q} b first second = cond_both b p q Plain (λ _. first) (λ _. second)

if_live-plain : (pid : ℕ) (w : World counted) (q : Planned) → Plain q → Plain (if_live pid w q)
unfolding if_live
if_live-plain pid w q plain = either (is_live pid w.processes) plain impossible

unless_open-plain : (pid : ℕ) (numbers : List ℕ) (w : World counted) (q : Planned) → Plain q
    → Plain (unless_open pid numbers w q)
unfolding unless_open
unless_open-plain pid [] w q plain = plain
unless_open-plain pid (n ∷ ns) w q plain =
    either (is_some (named_by pid n w)) impossible (unless_open-plain pid ns w q plain)

with_objects-plain : (ds : List Descriptor) (q : object.Planned) → Plain (with_objects ds q)
unfolding with_objects
with_objects-plain ds (Err why) = impossible
with_objects-plain ds (Ok p) = record { plain = (refl, refl, refl) }

plan_act-plain : (place : ℕ) (ds : List Descriptor) (a : Act) (w : World counted) → Plain (plan_act place ds a w)
unfolding plan_act
plan_act-plain place ds a w = with_objects-plain ds (object_planning.plan place a w.objects)

on_named-plain : (planned : Named → Planned) → ((n : Named) → Plain (planned n)) → (found : Option Named)
    → Plain (on_named planned found)
unfolding on_named
on_named-plain planned plain None = impossible
on_named-plain planned plain (Some n) = plain n

on_descriptor-plain : (pid number : ℕ) (planned : Named → Planned) → ((n : Named) → Plain (planned n))
    → (w : World counted) → Plain (on_descriptor pid number planned w)
unfolding on_descriptor
on_descriptor-plain pid number planned plain w =
    either (not (is_live pid w.processes)) impossible (on_named-plain planned plain (named_by pid number w))

plan_at-plain : (place pid fd : ℕ) (at : Named → Act) (w : World counted) → Plain (plan_at place pid fd at w)
unfolding plan_at
plan_at-plain place pid fd at w =
    on_descriptor-plain pid fd (λ n. plan_act place [] (at n) w) (λ n. plan_act-plain place [] (at n) w) w

duplicated-plain : (pid fd to : ℕ) (w : World counted) (n : Named) → Plain (duplicated pid fd to w n)
unfolding duplicated
duplicated-plain pid fd to w (named.Kqueue place) = impossible
duplicated-plain pid fd to w n =
    either (eqb fd to) (record { plain = (refl, refl, refl) }) (record { plain = (refl, refl, refl) })

-- ---- records

-- a record that neither makes a kqueue nor calls one, nor moves the clock
abbrev pub IsOther : Event → Type 0
IsOther (event.Kqueue pid fd) = ⊥
IsOther (event.Kevent pid fd changes room) = ⊥
IsOther (event.Clock ns) = ⊥
IsOther _ = Unit {0}

pub other : (e : Event) → ((pid fd : ℕ) → e ≡ event.Kqueue pid fd → ⊥)
    → ((pid fd : ℕ) (changes : List Change) (room : ℕ) → e ≡ event.Kevent pid fd changes room → ⊥)
    → ((ns : ℤ) → e ≡ event.Clock ns → ⊥) → IsOther e
other (event.Kqueue pid fd) makes calls moves = makes pid fd refl
other (event.Kevent pid fd changes room) makes calls moves = calls pid fd changes room refl
other (event.Clock ns) makes calls moves = moves ns refl
other _ makes calls moves = tt

record-plain : (place : ℕ) (e : Event) (w : World counted) → IsOther e → Plain (plan place e w)
unfolding plan plan_proc plan_fork plan_exec plan_exit plan_sigset plan_sig plan_dup plan_close plan_socket plan_accept plan_open plan_pipe
record-plain place (event.Proc pid) w is = either (was_used pid w.processes) impossible (record { plain = (refl, refl, refl) })
record-plain place (event.Fork pid child) w is =
    either (not (is_live pid w.processes)) impossible
    (either (was_used child w.processes) impossible (record { plain = (refl, refl, refl) }))
record-plain place (event.Exit pid status) w is =
    either (not (is_live pid w.processes)) impossible (record { plain = (refl, refl, refl) })
record-plain place (event.Kqueue pid fd) w is = absurd is
record-plain place (event.Dup pid fd to) w is = on_descriptor-plain pid fd _ (duplicated-plain pid fd to w) w
record-plain place (event.Close pid fd) w is =
    on_descriptor-plain pid fd _ (λ n. record { plain = (refl, refl, refl) }) w
record-plain place (event.Socket pid fd rcv snd) w is =
    if_live-plain pid w _ (unless_open-plain pid (fd ∷ []) w _ (plan_act-plain place _ (act.Socket rcv snd) w))
record-plain place (event.Listen pid fd backlog) w is = plan_at-plain place pid fd (λ on. act.Listen on backlog) w
record-plain place (event.Arrive pid fd) w is = plan_at-plain place pid fd act.Arrive w
record-plain place (event.Accept pid fd to rcv snd) w is =
    on_descriptor-plain pid fd _
    (λ n. unless_open-plain pid (to ∷ []) w _ (plan_act-plain place _ (act.Accept n rcv snd) w)) w
record-plain place (event.Connect pid fd) w is = plan_at-plain place pid fd act.Connect w
record-plain place (event.Rx pid fd n) w is = plan_at-plain place pid fd (λ on. act.Receive on n) w
record-plain place (event.Tx pid fd n) w is = plan_at-plain place pid fd (λ on. act.Transmit on n) w
record-plain place (event.Shut pid fd side error) w is =
    plan_at-plain place pid fd (λ on. act.Shut on side error) w
record-plain place (event.Lowat pid fd side n) w is = plan_at-plain place pid fd (λ on. act.LowWater on side n) w
record-plain place (event.Pipe pid rfd wfd cap) w is =
    if_live-plain pid w _ (either (eqb rfd wfd) impossible
    (unless_open-plain pid (rfd ∷ wfd ∷ []) w _ (plan_act-plain place _ (act.Pipe cap) w)))
record-plain place (event.Read pid fd n) w is = plan_at-plain place pid fd (λ on. act.Read on n) w
record-plain place (event.Write pid fd n) w is = plan_at-plain place pid fd (λ on. act.Write on n) w
record-plain place (event.Exec pid) w is =
    either (not (is_live pid w.processes)) impossible (record { plain = (refl, refl, refl) })
record-plain place (event.Sigset pid sig ignore) w is =
    either (not (is_live pid w.processes)) impossible
    (either (not (is_signal sig)) impossible (record { plain = (refl, refl, refl) }))
record-plain place (event.Sig pid sig) w is =
    either (not (is_live pid w.processes)) impossible
    (either (not (is_signal sig)) impossible (record { plain = (refl, refl, refl) }))
record-plain place (event.File file size) w is = plan_act-plain place [] (act.File file size) w
record-plain place (event.Open pid fd file mode) w is =
    if_live-plain pid w _ (unless_open-plain pid (fd ∷ []) w _ (plan_act-plain place _ (act.Open file mode) w))
record-plain place (event.Seek pid fd offset) w is = plan_at-plain place pid fd (λ on. act.Seek on offset) w
record-plain place (event.Truncate file size) w is = plan_act-plain place [] (act.Truncate file size) w
record-plain place (event.Note file note) w is = plan_act-plain place [] (act.Note file note) w
record-plain place (event.Clock ns) w is = absurd is
record-plain place (event.Kevent pid fd changes room) w is = absurd is

plain_plan : (place : ℕ) (e : Event) (w : World counted) (p : Plan) → IsOther e → plan place e w ≡ Possible p
    → PlainPlan (Possible p)
plain_plan place e w p is planned = subst PlainPlan planned (record-plain place e w is).plain

pub other-plain : (e : Event) → IsOther e → IsPlain e
other-plain e is = record {
  call = λ place w p planned. (plain_plan place e w p is planned).0;
  born = λ place w p planned. (plain_plan place e w p is planned).1;
  clock = λ place w p planned. (plain_plan place e w p is planned).2;
}
