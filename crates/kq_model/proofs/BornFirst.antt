-- In a trace no fork is by a child of a later fork: who forks is there, and no pid is used again.
use Rattle.std.proofs.Common.{◌≡◌, ◌∙◌, ◌+◌, ℕ, pos, negsuc, Bool, true, false, cond, not, ◌||◌, ◌&&◌, ltb, eqb, length, List, [], ◌∷◌, ◌++◌, map, Option, Some, None, Ok, Err, refl, sym, ap, subst, if◌then◌else◌}
use Rattle.std.proofs.lemmas.Bool.{cond_both, eqb-true, false≢true, or_right}
use Rattle.std.proofs.lemmas.List.Elements.{All-nil, All-cons, All-head, All-tail, All-append, All-weaker}
use Rattle.std.specs.List.{All}
use Rattle.std.specs.Option.{is_some, is_none}
use Rattle.kq_model.specs.declared.act.Act.{Act}
use Rattle.kq_model.specs.declared.act.Act.TheVariants as act
use Rattle.kq_model.specs.declared.change.Change.{Change}
use Rattle.kq_model.specs.declared.event.Event.{Event}
use Rattle.kq_model.specs.declared.event.Event.TheVariants as event
use Rattle.kq_model.specs.declared.object.Named.{Named}
use Rattle.kq_model.specs.declared.object.Named.TheVariants as named
use Rattle.kq_model.specs.declared.why.Why.{Why}
use Rattle.kq_model.specs.declared.why.Why.TheVariants.{UsedPid}
use Rattle.kq_model.specs.DescriptorPlans.{on_named, on_descriptor, plan_close, duplicated, plan_dup, plan_kqueue, plan_call, plan_kevent}
use Rattle.kq_model.specs.Descriptors.{Descriptor}
use Rattle.kq_model.specs.Following.{Fork, forks_of, all_forks, forks_in}
use Rattle.kq_model.specs.Holding.{release_hints}
use Rattle.kq_model.specs.Limits.{most_changes, most_room}
use Rattle.kq_model.specs.Moment.{moment_of}
use Rattle.kq_model.specs.Moments.{world_by, plans_from, moment_by, moments_from}
use Rattle.kq_model.specs.ObjectPlan as object
use Rattle.kq_model.specs.ObjectPlan.{hints_for}
use Rattle.kq_model.specs.ObjectRecordPlans.{with_objects, plan_act, plan_at, unless_open, if_live, plan_socket, plan_accept, plan_open, plan_pipe}
use Rattle.kq_model.specs.Objects.{Keeping, counted}
use Rattle.kq_model.specs.Planning as object_planning
use Rattle.kq_model.specs.Plans.{plan}
use Rattle.kq_model.specs.Processes.{Process, Start, Exit, Disposition, disposed, started, was_used, is_live, process_of, ignored_by, with_start, with_process, without_process, with_disposition}
use Rattle.kq_model.specs.ProcessPlans.{delivery, descriptors_of, forked, hold_all, inherited, is_signal, names_of, noted, child_signal, plan_clock, plan_clock_at, plan_exec, plan_exit, plan_fork, plan_proc, plan_sig, plan_sigset}
use Rattle.kq_model.specs.Bits.{exit_note}
use Rattle.kq_model.specs.References.{forks_at}
use Rattle.kq_model.specs.Targets.{Posted}
use Rattle.kq_model.specs.World.{World, Plan, Planned, Impossible, Possible, idle, empty_world, seen_world, named_by, carried_out}
use Rattle.kq_model.proofs.Descended.{AreBornFirst, IsNoChild}
use Rattle.kq_model.proofs.KnoteLaws.{by_test}
use Rattle.kq_model.proofs.PlanReasons.{unless, unless_gone}
use Rattle.kq_model.proofs.SilentPlans.{TellNone, tell-append, IsSilent, act-plan, released-hint, released-hints, closed-hints}

-- ---- of a record: who forks is there, and the child was never used

record IsNewFork (w : World counted) (f : Fork) : Type 0 where
  by : was_used f.parent w.processes ≡ true
  new : was_used f.child w.processes ≡ false

-- of each of its forks this holds
abbrev EachFork : (Fork → Type 0) → Planned → Type 0
EachFork N (Impossible why) = Unit {0}
EachFork N (Possible p) = All N (all_forks p.hints)

record Forks (N : Fork → Type 0) (q : Planned) : Type 0 where
  new : EachFork N q

module _ (N : Fork → Type 0) (w : World counted) where
  impossible : {why : Why} → Forks N (Impossible why)
  impossible = record { new = tt }

  silent : {p : Plan} → TellNone p.hints → Forks N (Possible p)
  silent {p = p} none = record { new = subst (All N) (sym none) (All-nil N) }

  either : {p q : Planned} (b : Bool) → Forks N p → Forks N q → Forks N (cond b p q)
  either {p = p} {q = q} b first second = cond_both b p q (Forks N) (λ _. first) (λ _. second)

  if_live-forks : (pid : ℕ) (q : Planned) → Forks N q → Forks N (if_live pid w q)
  unfolding if_live
  if_live-forks pid q new = either (is_live pid w.processes) new impossible

  unless_open-forks : (pid : ℕ) (numbers : List ℕ) (q : Planned) → Forks N q → Forks N (unless_open pid numbers w q)
  unfolding unless_open
  unless_open-forks pid [] q new = new
  unless_open-forks pid (n ∷ ns) q new = either (is_some (named_by pid n w)) impossible (unless_open-forks pid ns q new)

  with_objects-forks : (ds : List Descriptor) (q : object.Planned) → IsSilent q → Forks N (with_objects ds q)
  unfolding with_objects
  with_objects-forks ds (Err why) none = impossible
  with_objects-forks ds (Ok p) none = silent none

  plan_act-forks : (place : ℕ) (ds : List Descriptor) (a : Act) → Forks N (plan_act place ds a w)
  unfolding plan_act
  plan_act-forks place ds a = with_objects-forks ds (object_planning.plan place a w.objects) (act-plan place a w.objects)

  on_named-forks : (planned : Named → Planned) → ((n : Named) → Forks N (planned n)) → (found : Option Named) → Forks N (on_named planned found)
  unfolding on_named
  on_named-forks planned new None = impossible
  on_named-forks planned new (Some n) = new n

  on_descriptor-forks : (pid number : ℕ) (planned : Named → Planned) → ((n : Named) → Forks N (planned n)) → Forks N (on_descriptor pid number planned w)
  unfolding on_descriptor
  on_descriptor-forks pid number planned new =
      either (not (is_live pid w.processes)) impossible (on_named-forks planned new (named_by pid number w))

  plan_at-forks : (place pid fd : ℕ) (at : Named → Act) → Forks N (plan_at place pid fd at w)
  unfolding plan_at
  plan_at-forks place pid fd at =
      on_descriptor-forks pid fd (λ n. plan_act place [] (at n) w) (λ n. plan_act-forks place [] (at n))

  duplicated-forks : (pid fd to : ℕ) (n : Named) → Forks N (duplicated pid fd to w n)
  unfolding duplicated all_forks
  duplicated-forks pid fd to (named.Kqueue place) = impossible
  duplicated-forks pid fd to n = either (eqb fd to) (silent refl) (silent (closed-hints (named_by pid to w) w.objects))

  plan_call-forks : (changes : List Change) (room : ℕ) (n : Named) → Forks N (plan_call changes room n)
  unfolding plan_call all_forks
  plan_call-forks changes room (named.Kqueue place) = either (ltb most_changes (length changes) || ltb most_room room) impossible (silent refl)
  plan_call-forks changes room _ = impossible

  exit-hints : (pid : ℕ) (ns : List Named) → TellNone (release_hints ns w.objects ++ noted pid exit_note ∷ [])
  unfolding all_forks forks_of
  exit-hints pid ns = tell-append (release_hints ns w.objects) (noted pid exit_note ∷ []) (released-hints ns w.objects) refl

  sig-hints : (pid signal : ℕ) (ignored : Bool) → TellNone (delivery pid signal ignored)
  unfolding delivery all_forks forks_of
  sig-hints pid signal ignored = cond_both (eqb signal child_signal && ignored) _ _ TellNone (λ _. refl) (λ _. refl)

  record_forks : (place : ℕ) (e : Event) → ((pid child : ℕ) → e ≡ event.Fork pid child → Forks N (plan_fork pid child w)) → Forks N (plan place e w)
  unfolding plan plan_clock_at plan_clock plan_exec plan_sigset plan_sig plan_proc plan_exit plan_kqueue plan_dup plan_close plan_kevent plan_socket plan_accept plan_pipe plan_open all_forks forks_of
  record_forks place (event.Proc pid) forks = either (was_used pid w.processes) impossible (silent refl)
  record_forks place (event.Fork pid child) forks = forks pid child refl
  record_forks place (event.Exit pid status) forks = either (not (is_live pid w.processes)) impossible (silent (exit-hints pid (names_of (descriptors_of pid w.table))))
  record_forks place (event.Kqueue pid fd) forks =
      either (not (is_live pid w.processes)) impossible (either (is_some (named_by pid fd w)) impossible (silent refl))
  record_forks place (event.Dup pid fd to) forks = on_descriptor-forks pid fd _ (duplicated-forks pid fd to)
  record_forks place (event.Close pid fd) forks = on_descriptor-forks pid fd _ (λ n. silent (released-hint n w.objects))
  record_forks place (event.Socket pid fd rcv snd) forks = if_live-forks pid _ (unless_open-forks pid (fd ∷ []) _ (plan_act-forks place _ (act.Socket rcv snd)))
  record_forks place (event.Listen pid fd backlog) forks = plan_at-forks place pid fd (λ on. act.Listen on backlog)
  record_forks place (event.Arrive pid fd) forks = plan_at-forks place pid fd act.Arrive
  record_forks place (event.Accept pid fd to rcv snd) forks =
      on_descriptor-forks pid fd _ (λ n. unless_open-forks pid (to ∷ []) _ (plan_act-forks place _ (act.Accept n rcv snd)))
  record_forks place (event.Connect pid fd) forks = plan_at-forks place pid fd act.Connect
  record_forks place (event.Rx pid fd n) forks = plan_at-forks place pid fd (λ on. act.Receive on n)
  record_forks place (event.Tx pid fd n) forks = plan_at-forks place pid fd (λ on. act.Transmit on n)
  record_forks place (event.Shut pid fd side error) forks = plan_at-forks place pid fd (λ on. act.Shut on side error)
  record_forks place (event.Lowat pid fd side n) forks = plan_at-forks place pid fd (λ on. act.LowWater on side n)
  record_forks place (event.Pipe pid rfd wfd cap) forks =
      if_live-forks pid _ (either (eqb rfd wfd) impossible (unless_open-forks pid (rfd ∷ wfd ∷ []) _ (plan_act-forks place _ (act.Pipe cap))))
  record_forks place (event.Read pid fd n) forks = plan_at-forks place pid fd (λ on. act.Read on n)
  record_forks place (event.Write pid fd n) forks = plan_at-forks place pid fd (λ on. act.Write on n)
  record_forks place (event.Exec pid) forks = either (not (is_live pid w.processes)) impossible (silent refl)
  record_forks place (event.Sigset pid sig ignore) forks =
      either (not (is_live pid w.processes)) impossible (either (not (is_signal sig)) impossible (silent refl))
  record_forks place (event.Sig pid sig) forks =
      either (not (is_live pid w.processes)) impossible (either (not (is_signal sig)) impossible (silent (sig-hints pid sig _)))
  record_forks place (event.File file size) forks = plan_act-forks place [] (act.File file size)
  record_forks place (event.Open pid fd file mode) forks = if_live-forks pid _ (unless_open-forks pid (fd ∷ []) _ (plan_act-forks place _ (act.Open file mode)))
  record_forks place (event.Seek pid fd offset) forks = plan_at-forks place pid fd (λ on. act.Seek on offset)
  record_forks place (event.Truncate file size) forks = plan_act-forks place [] (act.Truncate file size)
  record_forks place (event.Note file note) forks = plan_act-forks place [] (act.Note file note)
  record_forks place (event.Clock (pos n)) forks = either (ltb n w.now) impossible (silent refl)
  record_forks place (event.Clock (negsuc n)) forks = impossible
  record_forks place (event.Kevent pid fd changes room) forks = on_descriptor-forks pid fd (plan_call changes room) (plan_call-forks changes room)

-- a record that is no fork tells of none
all-false : (fs : List Fork) → All (λ f. ⊥) fs → fs ≡ []
all-false [] none = refl
all-false (f ∷ fs) none = absurd (All-head (λ f. ⊥) f fs none)

pub silent-records : (place : ℕ) (e : Event) (w : World counted) (p : Plan) → ((pid child : ℕ) → e ≡ event.Fork pid child → ⊥)
    → plan place e w ≡ Possible p → all_forks p.hints ≡ []
silent-records place e w p other planned =
    all-false (all_forks p.hints)
    (subst (EachFork (λ f. ⊥)) planned (record_forks (λ f. ⊥) w place e (λ pid child is. absurd (other pid child is))).new)

-- a fork's parent is there, and its child was never used
module _ (w : World counted) where
  -- who is live was used
  live-used : (pid : ℕ) (ps : List Process) → is_live pid ps ≡ true → was_used pid ps ≡ true
  unfolding is_live was_used
  live-used pid [] live = absurd (false≢true live)
  live-used pid (p ∷ ps) live =
      by_test (λ b. (b && is_none p.exited) || is_live pid ps ≡ true → b || was_used pid ps ≡ true) (eqb p.pid pid)
      (λ _ _. refl) (λ _ later. live-used pid ps later) live

  fork-forks : (pid child : ℕ) → Forks (IsNewFork w) (plan_fork pid child w)
  unfolding plan_fork all_forks forks_of
  fork-forks pid child =
      let forks : Planned = Possible (record idle {
        opened = inherited pid child w.table;
        doings = hold_all (names_of (inherited pid child w.table));
        hints = forked pid child;
        started = Some (record { pid = child; ignores = ignored_by (process_of pid w.processes) });
      }) in
      unless_gone (Forks (IsNewFork w)) (λ why. impossible (IsNewFork w) w) w pid (if was_used child w.processes then Impossible UsedPid else forks)
      (λ live. unless (Forks (IsNewFork w)) (λ why. impossible (IsNewFork w) w) w (was_used child w.processes) UsedPid forks (λ unused. record {
        new = All-cons (IsNewFork w) (record { parent = pid; child = child }) []
            (record { by = live-used pid w.processes live; new = unused }) (All-nil (IsNewFork w));
      }))

  new-forks : (place : ℕ) (e : Event) → Forks (IsNewFork w) (plan place e w)
  new-forks place e = record_forks (IsNewFork w) w place e (λ pid child _. fork-forks pid child)

-- ---- a pid that was used stays so

used-map : (f : Process → Process) → ((p : Process) → (f p).pid ≡ p.pid) → (pid : ℕ) (ps : List Process) → was_used pid (map f ps) ≡ was_used pid ps
unfolding was_used
used-map f same pid [] = refl
used-map f same pid (p ∷ ps) = ap (λ n. eqb n pid || was_used pid (map f ps)) (same p) ∙ ap (λ b. eqb p.pid pid || b) (used-map f same pid ps)

used-ended : (e : Option Exit) (pid : ℕ) (ps : List Process) → was_used pid (without_process e ps) ≡ was_used pid ps
unfolding without_process
used-ended None pid ps = refl
used-ended (Some e) pid ps =
    used-map (λ p. cond (eqb p.pid e.pid) (record p { exited = Some e.status }) p)
    (λ p. cond_both (eqb p.pid e.pid) _ _ (λ (x : Process). x.pid ≡ p.pid) (λ _. refl) (λ _. refl)) pid ps

used-disposed : (d : Option Disposition) (pid : ℕ) (ps : List Process) → was_used pid (with_disposition d ps) ≡ was_used pid ps
unfolding with_disposition
used-disposed None pid ps = refl
used-disposed (Some d) pid ps =
    used-map (λ p. cond (eqb p.pid d.pid) (record p { ignores = disposed d.signal d.ignore p.ignores }) p)
    (λ p. cond_both (eqb p.pid d.pid) _ _ (λ (x : Process). x.pid ≡ p.pid) (λ _. refl) (λ _. refl)) pid ps

used-start : (s : Start) (pid : ℕ) (ps : List Process) → was_used pid ps ≡ true → was_used pid (with_start s ps) ≡ true
unfolding with_start was_used
used-start s pid [] used = absurd (false≢true used)
used-start s pid (p ∷ ps) used =
    cond_both (ltb s.pid p.pid) (started s ∷ p ∷ ps) (p ∷ with_start s ps) (λ (t : List Process). was_used pid t ≡ true)
    (λ _. or_right (eqb s.pid pid) (was_used pid (p ∷ ps)) used)
    (λ _. by_test (λ b. b || was_used pid ps ≡ true → b || was_used pid (with_start s ps) ≡ true) (eqb p.pid pid)
    (λ _ _. refl) (λ _ later. used-start s pid ps later) used)

used-started : (s : Option Start) (pid : ℕ) (ps : List Process) → was_used pid ps ≡ true → was_used pid (with_process s ps) ≡ true
unfolding with_process
used-started None pid ps used = used
used-started (Some s) pid ps used = used-start s pid ps used

-- ---- the forks of a trace

apart : (w : World counted) (pid : ℕ) (f : Fork) → was_used pid w.processes ≡ true → IsNewFork w f → IsNoChild pid f
apart w pid f used new =
    by_test (λ b. eqb f.child pid ≡ b → b ≡ false) (eqb f.child pid)
    (λ _ same. absurd (false≢true (sym new.new ∙ ap (λ n. was_used n w.processes) (eqb-true f.child pid same) ∙ used))) (λ _ _. refl) refl

-- in either version
forks-either : (version : ℕ) (posted : List Posted) (P : List Fork → Type 0) → P [] → P (all_forks posted) → P (forks_in version posted)
forks-either version posted P none all = cond_both (eqb version 1) [] (all_forks posted) P (λ _. none) (λ _. all)

-- those of one record, and then others
born-append : (w : World counted) (fs gs : List Fork) → All (IsNewFork w) fs → ((pid : ℕ) → was_used pid w.processes ≡ true → All (IsNoChild pid) gs)
    → AreBornFirst gs → AreBornFirst (fs ++ gs)
born-append w [] gs new later born = born
born-append w (f ∷ fs) gs new later born =
    let now = All-head (IsNewFork w) f fs new in
    let others = All-tail (IsNewFork w) f fs new in (
      All-append (IsNoChild f.parent) fs gs
          (All-weaker (IsNewFork w) (IsNoChild f.parent) (λ g is. apart w f.parent g now.by is) fs others) (later f.parent now.by),
      born-append w fs gs others later born,
    )

module _ {A B C D : Type 0} {k : Keeping A B C D} where
  used-carried_out : (place : ℕ) (p : Plan) (w : World k) (pid : ℕ) → was_used pid w.processes ≡ true → was_used pid (carried_out place p w).processes ≡ true
  unfolding carried_out
  used-carried_out place p w pid used =
      used-started p.started pid _ (used-ended p.ended pid (with_disposition p.disposed w.processes) ∙ used-disposed p.disposed pid w.processes ∙ used)

  -- who was used before is no child
  no-child : (version place : ℕ) (w : World k) (es : List Event) (pid : ℕ) → was_used pid w.processes ≡ true
      → All (IsNoChild pid) (forks_at (moments_from version place w (plans_from place w es)))
  unfolding plans_from moments_from forks_at moment_by moment_of world_by
  no-child version place w [] pid used = All-nil (IsNoChild pid)
  no-child version place w (e ∷ es) pid used =
      by_plan (λ v still. no-child version (place + 1) v es pid still) (plan place e (seen_world w)) (new-forks (seen_world w) place e)
    where
      by_plan : ((v : World k) → was_used pid v.processes ≡ true → All (IsNoChild pid) (forks_at (moments_from version (place + 1) v (plans_from (place + 1) v es))))
          → (q : Planned) → Forks (IsNewFork (seen_world w)) q
          → All (IsNoChild pid) (forks_at (moment_by version place q w ++ moments_from version (place + 1) (world_by place q w) (plans_from (place + 1) (world_by place q w) es)))
      by_plan later (Impossible why) forks = later w used
      by_plan later (Possible p) forks =
          All-append (IsNoChild pid) (forks_in version p.hints) _
          (forks-either version p.hints (All (IsNoChild pid)) (All-nil (IsNoChild pid))
          (All-weaker (IsNewFork (seen_world w)) (IsNoChild pid) (λ f new. apart (seen_world w) pid f used new) (all_forks p.hints) forks.new))
          (later (carried_out place p w) (used-carried_out place p w pid used))

  born-from : (version place : ℕ) (w : World k) (es : List Event) → AreBornFirst (forks_at (moments_from version place w (plans_from place w es)))
  unfolding plans_from moments_from forks_at moment_by moment_of world_by
  born-from version place w [] = tt
  born-from version place w (e ∷ es) =
      by_plan (λ v. born-from version (place + 1) v es) (plan place e (seen_world w)) (new-forks (seen_world w) place e)
    where
      by_plan : ((v : World k) → AreBornFirst (forks_at (moments_from version (place + 1) v (plans_from (place + 1) v es))))
          → (q : Planned) → Forks (IsNewFork (seen_world w)) q
          → AreBornFirst (forks_at (moment_by version place q w ++ moments_from version (place + 1) (world_by place q w) (plans_from (place + 1) (world_by place q w) es)))
      by_plan later (Impossible why) forks = later w
      by_plan later (Possible p) forks =
          let next = carried_out place p w in
          born-append (seen_world w) (forks_in version p.hints) _
          (forks-either version p.hints (All (IsNewFork (seen_world w))) (All-nil (IsNewFork (seen_world w))) forks.new)
          (λ pid used. no-child version (place + 1) next es pid (used-carried_out place p w pid used))
          (later next)

pub born-first : {A B C D : Type 0} (k : Keeping A B C D) (version : ℕ) (es : List Event)
    → AreBornFirst (forks_at (moments_from version 1 (empty_world k) (plans_from 1 (empty_world k) es)))
born-first k version es = born-from version 1 (empty_world k) es
