-- No record brings NOTE_CHILD to a process by a hint: a knote that tells of a child has a notice.
use Rattle.std.proofs.Common.{◌≡◌, ℕ, pos, negsuc, Bool, cond, not, ◌||◌, ◌&&◌, ltb, eqb, length, List, [], ◌∷◌, ◌++◌, Option, Some, None, Ok, Err, refl, subst}
use Rattle.std.proofs.lemmas.Bool.{cond_both}
use Rattle.std.specs.Option.{is_some}
use Rattle.kq_model.specs.declared.act.Act.{Act}
use Rattle.kq_model.specs.declared.act.Act.TheVariants as act
use Rattle.kq_model.specs.declared.change.Change.{Change}
use Rattle.kq_model.specs.declared.event.Event.{Event}
use Rattle.kq_model.specs.declared.event.Event.TheVariants as event
use Rattle.kq_model.specs.declared.object.Named.{Named}
use Rattle.kq_model.specs.declared.object.Named.TheVariants as named
use Rattle.kq_model.specs.declared.why.Why.{Why}
use Rattle.kq_model.specs.Bits.{exit_note}
use Rattle.kq_model.specs.DescriptorPlans.{on_named, on_descriptor, plan_close, duplicated, plan_dup, plan_kqueue, plan_call, plan_kevent}
use Rattle.kq_model.specs.Descriptors.{Descriptor}
use Rattle.kq_model.specs.Holding.{release_hints}
use Rattle.kq_model.specs.Limits.{most_changes, most_room}
use Rattle.kq_model.specs.ObjectPlan as object
use Rattle.kq_model.specs.ObjectRecordPlans.{with_objects, plan_act, plan_at, unless_open, if_live, plan_socket, plan_accept, plan_open, plan_pipe}
use Rattle.kq_model.specs.Objects.{counted}
use Rattle.kq_model.specs.Planning as object_planning
use Rattle.kq_model.specs.Plans.{plan}
use Rattle.kq_model.specs.Processes.{was_used, is_live}
use Rattle.kq_model.specs.ProcessPlans.{delivery, descriptors_of, is_signal, names_of, noted, child_signal, plan_clock, plan_clock_at, plan_exec, plan_exit, plan_fork, plan_proc, plan_sig, plan_sigset}
use Rattle.kq_model.specs.World.{World, Plan, Planned, Impossible, Possible, named_by}
use Rattle.kq_laws.proofs.Childless.{AreChildless, IsChildlessPlan, childless-append, act-plan, released-hint, released-hints, closed-hints}

abbrev HasChildless : Planned → Type 0
HasChildless (Impossible why) = Unit {0}
HasChildless (Possible p) = AreChildless p.hints

record IsChildlessRecord (q : Planned) : Type 0 where
  childless : HasChildless q

module _ (w : World counted) where
  impossible : {why : Why} → IsChildlessRecord (Impossible why)
  impossible = record { childless = tt }

  possible : {p : Plan} → AreChildless p.hints → IsChildlessRecord (Possible p)
  possible none = record { childless = none }

  either : {p q : Planned} (b : Bool) → IsChildlessRecord p → IsChildlessRecord q → IsChildlessRecord (cond b p q)
  either {p = p} {q = q} b first second = cond_both b p q IsChildlessRecord (λ _. first) (λ _. second)

  if_live-childless : (pid : ℕ) (q : Planned) → IsChildlessRecord q → IsChildlessRecord (if_live pid w q)
  unfolding if_live
  if_live-childless pid q new = either (is_live pid w.processes) new impossible

  unless_open-childless : (pid : ℕ) (numbers : List ℕ) (q : Planned) → IsChildlessRecord q
      → IsChildlessRecord (unless_open pid numbers w q)
  unfolding unless_open
  unless_open-childless pid [] q new = new
  unless_open-childless pid (n ∷ ns) q new =
      either (is_some (named_by pid n w)) impossible (unless_open-childless pid ns q new)

  with_objects-childless : (ds : List Descriptor) (q : object.Planned) → IsChildlessPlan q
      → IsChildlessRecord (with_objects ds q)
  unfolding with_objects
  with_objects-childless ds (Err why) none = impossible
  with_objects-childless ds (Ok p) none = possible none

  plan_act-childless : (place : ℕ) (ds : List Descriptor) (a : Act) → IsChildlessRecord (plan_act place ds a w)
  unfolding plan_act
  plan_act-childless place ds a =
      with_objects-childless ds (object_planning.plan place a w.objects) (act-plan place a w.objects)

  on_named-childless : (planned : Named → Planned) → ((n : Named) → IsChildlessRecord (planned n))
      → (found : Option Named) → IsChildlessRecord (on_named planned found)
  unfolding on_named
  on_named-childless planned new None = impossible
  on_named-childless planned new (Some n) = new n

  on_descriptor-childless : (pid number : ℕ) (planned : Named → Planned)
      → ((n : Named) → IsChildlessRecord (planned n)) → IsChildlessRecord (on_descriptor pid number planned w)
  unfolding on_descriptor
  on_descriptor-childless pid number planned new =
      either (not (is_live pid w.processes)) impossible (on_named-childless planned new (named_by pid number w))

  plan_at-childless : (place pid fd : ℕ) (at : Named → Act) → IsChildlessRecord (plan_at place pid fd at w)
  unfolding plan_at
  plan_at-childless place pid fd at =
      on_descriptor-childless pid fd (λ n. plan_act place [] (at n) w) (λ n. plan_act-childless place [] (at n))

  duplicated-childless : (pid fd to : ℕ) (n : Named) → IsChildlessRecord (duplicated pid fd to w n)
  unfolding duplicated
  duplicated-childless pid fd to (named.Kqueue place) = impossible
  duplicated-childless pid fd to n =
      either (eqb fd to) (possible tt) (possible (closed-hints (named_by pid to w) w.objects))

  plan_call-childless : (changes : List Change) (room : ℕ) (n : Named) → IsChildlessRecord (plan_call changes room n)
  unfolding plan_call
  plan_call-childless changes room (named.Kqueue place) =
      either (ltb most_changes (length changes) || ltb most_room room) impossible (possible tt)
  plan_call-childless changes room _ = impossible

  exit-hints : (pid : ℕ) (ns : List Named) → AreChildless (release_hints ns w.objects ++ noted pid exit_note ∷ [])
  exit-hints pid ns =
      childless-append (release_hints ns w.objects) (noted pid exit_note ∷ []) (released-hints ns w.objects) (refl, tt)

  sig-hints : (pid signal : ℕ) (ignored : Bool) → AreChildless (delivery pid signal ignored)
  unfolding delivery
  sig-hints pid signal ignored =
      cond_both (eqb signal child_signal && ignored) _ _ AreChildless (λ _. tt) (λ _. (tt, tt))

  record-childless : (place : ℕ) (e : Event) → IsChildlessRecord (plan place e w)
  unfolding plan plan_fork plan_clock_at plan_clock plan_exec plan_sigset plan_sig plan_proc plan_exit plan_kqueue plan_dup plan_close plan_kevent plan_socket plan_accept plan_pipe plan_open
  record-childless place (event.Proc pid) = either (was_used pid w.processes) impossible (possible tt)
  record-childless place (event.Fork pid child) =
      either (not (is_live pid w.processes)) impossible (either (was_used child w.processes) impossible (possible (refl, (tt, tt))))
  record-childless place (event.Exit pid status) =
      either (not (is_live pid w.processes)) impossible (possible (exit-hints pid (names_of (descriptors_of pid w.table))))
  record-childless place (event.Kqueue pid fd) =
      either (not (is_live pid w.processes)) impossible (either (is_some (named_by pid fd w)) impossible (possible tt))
  record-childless place (event.Dup pid fd to) = on_descriptor-childless pid fd _ (duplicated-childless pid fd to)
  record-childless place (event.Close pid fd) =
      on_descriptor-childless pid fd _ (λ n. possible (released-hint n w.objects))
  record-childless place (event.Socket pid fd rcv snd) =
      if_live-childless pid _ (unless_open-childless pid (fd ∷ []) _ (plan_act-childless place _ (act.Socket rcv snd)))
  record-childless place (event.Listen pid fd backlog) = plan_at-childless place pid fd (λ on. act.Listen on backlog)
  record-childless place (event.Arrive pid fd) = plan_at-childless place pid fd act.Arrive
  record-childless place (event.Accept pid fd to rcv snd) =
      on_descriptor-childless pid fd _ (λ n. unless_open-childless pid (to ∷ []) _ (plan_act-childless place _ (act.Accept n rcv snd)))
  record-childless place (event.Connect pid fd) = plan_at-childless place pid fd act.Connect
  record-childless place (event.Rx pid fd n) = plan_at-childless place pid fd (λ on. act.Receive on n)
  record-childless place (event.Tx pid fd n) = plan_at-childless place pid fd (λ on. act.Transmit on n)
  record-childless place (event.Shut pid fd side error) = plan_at-childless place pid fd (λ on. act.Shut on side error)
  record-childless place (event.Lowat pid fd side n) = plan_at-childless place pid fd (λ on. act.LowWater on side n)
  record-childless place (event.Pipe pid rfd wfd cap) =
      if_live-childless pid _ (either (eqb rfd wfd) impossible (unless_open-childless pid (rfd ∷ wfd ∷ []) _ (plan_act-childless place _ (act.Pipe cap))))
  record-childless place (event.Read pid fd n) = plan_at-childless place pid fd (λ on. act.Read on n)
  record-childless place (event.Write pid fd n) = plan_at-childless place pid fd (λ on. act.Write on n)
  record-childless place (event.Exec pid) = either (not (is_live pid w.processes)) impossible (possible (refl, tt))
  record-childless place (event.Sigset pid sig ignore) =
      either (not (is_live pid w.processes)) impossible (either (not (is_signal sig)) impossible (possible tt))
  record-childless place (event.Sig pid sig) =
      either (not (is_live pid w.processes)) impossible (either (not (is_signal sig)) impossible (possible (sig-hints pid sig _)))
  record-childless place (event.File file size) = plan_act-childless place [] (act.File file size)
  record-childless place (event.Open pid fd file mode) =
      if_live-childless pid _ (unless_open-childless pid (fd ∷ []) _ (plan_act-childless place _ (act.Open file mode)))
  record-childless place (event.Seek pid fd offset) = plan_at-childless place pid fd (λ on. act.Seek on offset)
  record-childless place (event.Truncate file size) = plan_act-childless place [] (act.Truncate file size)
  record-childless place (event.Note file note) = plan_act-childless place [] (act.Note file note)
  record-childless place (event.Clock (pos n)) = either (ltb n w.now) impossible (possible tt)
  record-childless place (event.Clock (negsuc n)) = impossible
  record-childless place (event.Kevent pid fd changes room) =
      on_descriptor-childless pid fd (plan_call changes room) (plan_call-childless changes room)

pub childless_plan : (place : ℕ) (e : Event) (w : World counted) (p : Plan) → plan place e w ≡ Possible p
    → AreChildless p.hints
childless_plan place e w p planned = subst HasChildless planned (record-childless w place e).childless
