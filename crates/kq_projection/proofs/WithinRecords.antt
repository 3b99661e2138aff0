-- Each record stays within what it touches.
use Rattle.std.proofs.Common.{◌≡◌, ◌∙◌, ◌==◌, not, nat_lt, ◌&&◌, ◌||◌, eq-eqb, length, ℕ, ℤ, pos, negsuc, Bool, true, false, List, [], ◌∷◌, ◌++◌, Option, None, Some, Ok, Err, refl, sym, ap, ap₂, subst, if◌then◌else◌}
use Rattle.std.specs.Prelude.{All}
use Rattle.std.specs.Option.{is_some}
use Rattle.std.proofs.lemmas.Bool.{eqb-true, false_from_ne_true, true≢false}
use Rattle.std.proofs.lemmas.Option.{none-some}
use Rattle.std.proofs.lemmas.List.Elements.{All-nil, All-cons, All-head, All-tail, All-append, All-filter, All-map, All-weaker}
use Rattle.kq_model.specs.declared.act.Act.{Act}
use Rattle.kq_model.specs.declared.act.Act.TheVariants as act
use Rattle.kq_model.specs.declared.change.Change.{Change}
use Rattle.kq_model.specs.declared.doing.Doing.{Doing}
use Rattle.kq_model.specs.declared.mode.Mode.{Mode}
use Rattle.kq_model.specs.declared.object.Named.{Named}
use Rattle.kq_model.specs.declared.object.Named.TheVariants as named
use Rattle.kq_model.specs.declared.object.Target.{Target}
use Rattle.kq_model.specs.declared.object.Target.TheVariants as target
use Rattle.kq_model.specs.declared.why.Why.{Why}
use Rattle.kq_model.specs.declared.why.Why.TheVariants.{UsedDescriptor, UsedPid, ClockBack, TooMany}
use Rattle.kq_model.specs.Bits.{exec_note, exit_note}
use Rattle.kq_model.specs.Close.{Pair, has_pair}
use Rattle.kq_model.specs.CountedWorld.{IsCountedWorld}
use Rattle.kq_model.specs.Descriptors.{Descriptor, IsRising, named_among}
use Rattle.kq_model.specs.DescriptorPlans.{close_doings, close_hints, closes, duplicated, plan_call, plan_close, plan_dup, plan_kevent, plan_kqueue}
use Rattle.kq_model.specs.Holding.{hold_doings, option_list, release_all, release_doings, release_hint, release_hints}
use Rattle.kq_model.specs.ListedFiles.{AreListed}
use Rattle.kq_model.specs.Limits.{most_changes, most_room}
use Rattle.kq_model.specs.ObjectPlan as object
use Rattle.kq_model.specs.ObjectRecordPlans.{descriptor, pipe_ends, plan_accept, plan_act, plan_at, plan_open, plan_pipe, plan_socket, unless_open, with_objects}
use Rattle.kq_model.specs.Objects.{all_done, counted, view_of}
use Rattle.kq_model.specs.Planning as object_planning
use Rattle.kq_model.specs.Processes.{ignored_by, ignores_none, process_of, was_used}
use Rattle.kq_model.specs.ProcessPlans.{delivery, descriptors_of, forked, hold_all, inheritable, inherited, is_signal, names_of, noted, pairs_of, plan_clock, plan_clock_at, plan_exec, plan_exit, plan_fork, plan_proc, plan_sig, plan_sigset}
use Rattle.kq_model.specs.Targets.{target_eq}
use Rattle.kq_model.specs.TouchedTargets.{starts, ends}
use Rattle.kq_model.specs.World.{World, Plan, Planned, Impossible, Possible, idle, named_by}
use Rattle.kq_model.proofs.KnoteLaws.{by_test}
use Rattle.kq_model.proofs.ListFilters.{All-both}
use Rattle.kq_model.proofs.ReleasedAll.{all_done-append}
use Rattle.kq_model.proofs.PlanReasons.{if_live-holds, on_descriptor-holds, unless, unless_gone, unless_open-holds}
use Rattle.kq_projection.specs.Touched.{has_number, has_target, targets_left, targets_named, tells_file, told_targets}
use Rattle.kq_projection.specs.Within.{PassesAll, IsWithin, StaysWithin}
use Rattle.kq_projection.proofs.AccountedActs.{AreAccounted, accounted, act_targets}
use Rattle.kq_projection.proofs.Altering.{unaltered}
use Rattle.kq_projection.proofs.HeldViews.{same-inherited, spared-hold}
use Rattle.kq_projection.proofs.LeftViews.{covers, same-released, spared-release}
use Rattle.kq_projection.proofs.RisingTables.{named-rising, pairs-there}

or_true : (b : Bool) → (b || true) ≡ true
or_true true = refl
or_true false = refl

same_pair : (a b : ℕ) → ((a == a) && (b == b)) ≡ true
same_pair a b = ap₂ (λ x y. x && y) (eq-eqb a a refl) (eq-eqb b b refl)

-- the first, or the second, of some numbers
pub first_there : (pid number : ℕ) (rest : List (ℕ × ℕ)) → has_number pid number ((pid, number) ∷ rest) ≡ true
first_there pid number rest = ap (λ b. b || has_number pid number rest) (same_pair pid number)

pub second_there : (pid number : ℕ) (p : ℕ × ℕ) (rest : List (ℕ × ℕ)) → has_number pid number (p ∷ (pid, number) ∷ rest) ≡ true
second_there pid number p rest = ap (λ b. ((p.0 == pid) && (p.1 == number)) || b) (first_there pid number rest) ∙ or_true ((p.0 == pid) && (p.1 == number))

process_there : (pid other : ℕ) → ((other == pid) || false) ≡ true → ((other == pid) || false) ≡ true
process_there pid other is = is

no_number : (x : Pair) → None ≡ Some x → ⊥
no_number x is = absurd (cc)

file_is : (number : ℕ) (t : Target) → target_eq t (target.File number) ≡ true → t ≡ target.File number
unfolding target_eq
file_is number (target.File n) same = ap target.File (eqb-true n number same)
file_is number (target.Socket n) same = absurd (true≢false (sym same))
file_is number (target.Pipe n) same = absurd (true≢false (sym same))
file_is number (target.Open n) same = absurd (true≢false (sym same))
file_is number (target.Process n) same = absurd (true≢false (sym same))
file_is number (target.Signal p n) same = absurd (true≢false (sym same))
file_is number target.Own same = absurd (true≢false (sym same))

spoken-passes : (has : Target → Bool) (number : ℕ) (ts : List Target) → All (λ t. has t ≡ true) ts → has_target (target.File number) ts ≡ true → has (target.File number) ≡ true
spoken-passes has number [] all there = absurd (true≢false (sym there))
spoken-passes has number (t ∷ ts) all there =
    by_test (λ b. target_eq t (target.File number) ≡ b → (b || has_target (target.File number) ts) ≡ true → has (target.File number) ≡ true) (target_eq t (target.File number))
    (λ _ is _. ap has (sym (file_is number t is)) ∙ All-head (λ x. has x ≡ true) t ts all)
    (λ _ _ later. spoken-passes has number ts (All-tail (λ x. has x ≡ true) t ts all) later) refl there

module _ (opens numbers : List (ℕ × ℕ)) (targets : List Target) (w : World counted) (listed : AreListed w.objects) where
  abbrev Stays : Planned → Type 0
  Stays q = StaysWithin opens numbers targets w q

  refused : (why : Why) → Stays (Impossible why)
  refused why = tt

  -- a record that opens nothing, makes nothing and notes nothing
  quiet : (p : Plan) → p.opened ≡ [] → p.born ≡ None → p.doings ≡ [] → p.started ≡ None → p.ended ≡ None → IsWithin opens numbers targets w p
  unfolding starts ends all_done
  quiet p no_opened no_born no_doings no_started no_ended = record {
    opened = subst (λ (ds : List Descriptor). All (λ (d : Descriptor). (has_number d.pid d.number opens || starts d.pid p.started) ≡ true) ds) (sym no_opened) (All-nil _);
    born = λ x is. absurd (no_number x (sym no_born ∙ is));
    process = λ pid is. absurd (true≢false (sym is ∙ ap₂ (λ s e. starts pid s || ends pid e) no_started no_ended));
    doings = λ has passes t absent. ap (λ (ds : List Doing). view_of t (all_done ds w.objects)) no_doings;
  }

  -- ---- records about objects

  abbrev Names : List Descriptor → List Target → Type 0
  Names ds ts = (has : Target → Bool) (p : Plan) → p.opened ≡ ds → p.closed ≡ [] → PassesAll opens numbers targets w has p → All (λ t. has t ≡ true) ts

  objects-within : (ds : List Descriptor) (place : ℕ) (a : Act) (q : object.Planned) → object_planning.plan place a w.objects ≡ q
      → All (λ (d : Descriptor). has_number d.pid d.number opens ≡ true) ds → Names ds (act_targets place a) → Stays (with_objects ds q)
  unfolding with_objects starts ends
  objects-within ds place a (Err why) is there names = tt
  objects-within ds place a (Ok p) is there names = record {
    opened = All-weaker (λ (d : Descriptor). has_number d.pid d.number opens ≡ true) (λ (d : Descriptor). (has_number d.pid d.number opens || false) ≡ true)
        (λ d has. ap (λ b. b || false) has) ds there;
    born = λ x none. absurd (no_number x none);
    process = λ pid never. absurd (true≢false (sym never));
    doings = λ has passes t absent.
        unaltered has w.objects listed t p.doings absent
        (subst (AreAccounted has w.objects) is (accounted has w.objects place a (names has _ refl refl passes)) passes.told);
  }

  act-within : (ds : List Descriptor) (place : ℕ) (a : Act) → All (λ (d : Descriptor). has_number d.pid d.number opens ≡ true) ds
      → Names ds (act_targets place a) → Stays (plan_act place ds a w)
  unfolding plan_act
  act-within ds place a there names = objects-within ds place a (object_planning.plan place a w.objects) refl there names

  -- at what a number names
  pub at-within : (place pid fd : ℕ) (at : Named → Act) → ((n : Named) → act_targets place (at n) ≡ targets_named (Some n)) → has_number pid fd numbers ≡ true
      → has_number pid fd opens ≡ false → Stays (plan_at place pid fd at w)
  unfolding plan_at
  at-within place pid fd at names there old =
      on_descriptor-holds Stays refused w pid fd (λ n. plan_act place [] (at n) w)
      (λ n live found. act-within [] place (at n) (All-nil _)
      (λ has p _ open_still passes. subst (λ ts. All (λ t. has t ≡ true) ts) (ap targets_named found ∙ sym (names n)) (passes.numbered pid fd there old (ap (has_pair pid fd) open_still))))

  one-there : (pid fd : ℕ) (n : Named) → has_number pid fd opens ≡ true → All (λ (d : Descriptor). has_number d.pid d.number opens ≡ true) (descriptor pid fd n ∷ [])
  one-there pid fd n there = All-cons (λ (d : Descriptor). has_number d.pid d.number opens ≡ true) (descriptor pid fd n) [] there (All-nil _)

  -- what the first of the opened numbers names
  opened-names : (d : Descriptor) (ds : List Descriptor) → has_number d.pid d.number opens ≡ true → (has : Target → Bool) (p : Plan) → p.opened ≡ d ∷ ds
      → p.closed ≡ [] → PassesAll opens numbers targets w has p → All (λ t. has t ≡ true) (targets_named (Some d.named))
  opened-names d ds there has p is none passes =
      All-head (λ (x : Descriptor). has_number x.pid x.number opens ≡ true → All (λ t. has t ≡ true) (targets_named (Some x.named))) d ds
      (subst (λ xs. All (λ (x : Descriptor). has_number x.pid x.number opens ≡ true → All (λ t. has t ≡ true) (targets_named (Some x.named))) xs) is passes.opened) there

  pub socket-within : (place pid fd receive send : ℕ) → has_number pid fd opens ≡ true → Stays (plan_socket place pid fd receive send w)
  unfolding plan_socket
  socket-within place pid fd receive send there =
      let n : Named = named.Socket place in
      let ds : List Descriptor = descriptor pid fd n ∷ [] in
      let made : Planned = plan_act place ds (act.Socket receive send) w in
      if_live-holds Stays refused w pid (unless_open pid (fd ∷ []) w made)
      (λ _. unless_open-holds Stays refused w pid (fd ∷ []) made
      (λ _. act-within ds place (act.Socket receive send) (one-there pid fd n there) (opened-names (descriptor pid fd n) [] there)))

  -- one is open, the other is not
  not-one : (pid fd to : ℕ) (n : Named) → named_among pid fd w.table ≡ Some n → named_among pid to w.table ≡ None → (to == fd) ≡ false
  not-one pid fd to n found none =
      false_from_ne_true (to == fd) (λ same. none-some n (sym none ∙ ap (λ x. named_among pid x w.table) (eqb-true to fd same) ∙ found))

  pub accept-within : (place pid fd to receive send : ℕ) → has_number pid fd numbers ≡ true → has_number pid to opens ≡ true
      → ((to == fd) ≡ false → has_number pid fd opens ≡ false) → Stays (plan_accept place pid fd to receive send w)
  unfolding plan_accept
  accept-within place pid fd to receive send there new old =
      let made_by : Named → Planned = λ n. plan_act place (descriptor pid to (named.Socket place) ∷ []) (act.Accept n receive send) w in
      on_descriptor-holds Stays refused w pid fd (λ n. unless_open pid (to ∷ []) w (made_by n))
      (λ n live found. unless_open-holds Stays refused w pid (to ∷ []) (made_by n)
      (λ closed. act-within (descriptor pid to (named.Socket place) ∷ []) place (act.Accept n receive send) (one-there pid to (named.Socket place) new)
      (λ has p is open_still passes. All-append (λ t. has t ≡ true) (target.Socket place ∷ []) (targets_named (Some n))
      (opened-names (descriptor pid to (named.Socket place)) [] new has p is open_still passes)
      (subst (λ x. All (λ t. has t ≡ true) (targets_named x)) found
      (passes.numbered pid fd there (old (not-one pid fd to n found closed.0)) (ap (has_pair pid fd) open_still))))))

  pub open-within : (place pid fd number : ℕ) (mode : Mode) → has_number pid fd opens ≡ true → Stays (plan_open place pid fd number mode w)
  unfolding plan_open
  open-within place pid fd number mode there =
      let n : Named = named.Open place number in
      let ds : List Descriptor = descriptor pid fd n ∷ [] in
      let made : Planned = plan_act place ds (act.Open number mode) w in
      if_live-holds Stays refused w pid (unless_open pid (fd ∷ []) w made)
      (λ _. unless_open-holds Stays refused w pid (fd ∷ []) made
      (λ _. act-within ds place (act.Open number mode) (one-there pid fd n there) (opened-names (descriptor pid fd n) [] there)))

  pub pipe-within : (place pid rfd wfd cap : ℕ) → has_number pid rfd opens ≡ true → has_number pid wfd opens ≡ true → Stays (plan_pipe place pid rfd wfd cap w)
  unfolding plan_pipe
  pipe-within place pid rfd wfd cap reads writes =
      let reader : Descriptor = descriptor pid rfd (named.PipeRead place) in
      let writer : Descriptor = descriptor pid wfd (named.PipeWrite place) in
      let made : Planned = plan_act place (pipe_ends place pid rfd wfd) (act.Pipe cap) w in
      let unless_used : Planned = unless_open pid (rfd ∷ wfd ∷ []) w made in
      if_live-holds Stays refused w pid (if rfd == wfd then Impossible UsedDescriptor else unless_used)
      (λ _. unless Stays refused w (rfd == wfd) UsedDescriptor unless_used
      (λ _. unless_open-holds Stays refused w pid (rfd ∷ wfd ∷ []) made
      (λ _. act-within (reader ∷ writer ∷ []) place (act.Pipe cap)
      (All-cons (λ (d : Descriptor). has_number d.pid d.number opens ≡ true) reader (writer ∷ []) reads (one-there pid wfd (named.PipeWrite place) writes))
      (opened-names reader (writer ∷ []) reads))))

  -- ---- descriptors

  released : (pid fd : ℕ) (n : Named) (has : Target → Bool) (t : Target) → has t ≡ false → named_among pid fd w.table ≡ Some n
      → All (λ t. has t ≡ true) (targets_left (tells_file (option_list (release_hint n w.objects))) (named_among pid fd w.table))
      → All (λ t. has t ≡ true) (told_targets (option_list (release_hint n w.objects))) → view_of t (all_done (release_doings n w.objects) w.objects) ≡ view_of t w.objects
  released pid fd n has t absent found left told =
      let tells = tells_file (option_list (release_hint n w.objects)) in
      spared-release has t n w.objects absent
      (covers has n w.objects tells told (λ is. is) (subst (λ x. All (λ t. has t ≡ true) (targets_left tells x)) found left))

  pub close-within : (pid fd : ℕ) → Stays (plan_close pid fd w)
  unfolding plan_close starts ends
  close-within pid fd =
      on_descriptor-holds Stays refused w pid fd _
      (λ n live found. record {
        opened = All-nil _;
        born = λ x none. absurd (no_number x none);
        process = λ other never. absurd (true≢false (sym never));
        doings = λ has passes t absent. released pid fd n has t absent found (passes.closed pid fd (ap (λ b. b || false) (same_pair pid fd))) passes.told;
      })

  -- what the number named before
  before : (pid to : ℕ) (x : Option Named) (has : Target → Bool) (t : Target) → has t ≡ false → named_among pid to w.table ≡ x
      → (has_pair pid to (closes pid to x) ≡ true → All (λ t. has t ≡ true) (targets_left (tells_file (close_hints x w.objects)) (named_among pid to w.table)))
      → All (λ t. has t ≡ true) (told_targets (close_hints x w.objects)) → view_of t (all_done (close_doings x w.objects) w.objects) ≡ view_of t w.objects
  unfolding close_hints close_doings closes all_done
  before pid to None has t absent is left told = refl
  before pid to (Some n) has t absent is left told = released pid to n has t absent is (left (ap (λ b. b || false) (same_pair pid to))) told

  shared : (pid fd to : ℕ) (n : Named) → has_number pid to opens ≡ true → Stays (if fd == to then Possible idle else Possible (record idle {
    closed = closes pid to (named_by pid to w);
    opened = record { pid = pid; number = to; named = n } ∷ [];
    doings = close_doings (named_by pid to w) w.objects ++ hold_doings n;
    hints = close_hints (named_by pid to w) w.objects;
  }))
  unfolding starts ends named_by
  shared pid fd to n opens_it =
      by_test (λ b. Stays (if b then Possible idle else Possible (record idle {
        closed = closes pid to (named_among pid to w.table);
        opened = record { pid = pid; number = to; named = n } ∷ [];
        doings = close_doings (named_among pid to w.table) w.objects ++ hold_doings n;
        hints = close_hints (named_among pid to w.table) w.objects;
      }))) (fd == to)
      (λ _. quiet idle refl refl refl refl refl)
      (λ _. record {
        opened = All-cons (λ (d : Descriptor). (has_number d.pid d.number opens || false) ≡ true) (record { pid = pid; number = to; named = n }) []
            (ap (λ b. b || false) opens_it) (All-nil _);
        born = λ x none. absurd (no_number x none);
        process = λ other never. absurd (true≢false (sym never));
        doings = λ has passes t absent.
            ap (view_of t) (all_done-append (close_doings (named_among pid to w.table) w.objects) (hold_doings n) w.objects)
            ∙ spared-hold has t n (all_done (close_doings (named_among pid to w.table) w.objects) w.objects) absent (opened-one pid to n opens_it has _ refl passes)
            ∙ before pid to (named_among pid to w.table) has t absent refl (λ shut. passes.closed pid to shut) passes.told;
      })
    where
      opened-one : (pid to : ℕ) (n : Named) → has_number pid to opens ≡ true → (has : Target → Bool) (p : Plan) → p.opened ≡ record { pid = pid; number = to; named = n } ∷ []
          → PassesAll opens numbers targets w has p → All (λ t. has t ≡ true) (targets_named (Some n))
      opened-one pid to n there has p is passes =
          All-head (λ (x : Descriptor). has_number x.pid x.number opens ≡ true → All (λ t. has t ≡ true) (targets_named (Some x.named))) (record { pid = pid; number = to; named = n }) []
          (subst (λ xs. All (λ (x : Descriptor). has_number x.pid x.number opens ≡ true → All (λ t. has t ≡ true) (targets_named (Some x.named))) xs) is passes.opened) there

  duplicated-within : (pid fd to : ℕ) (n : Named) → has_number pid to opens ≡ true → Stays (duplicated pid fd to w n)
  unfolding duplicated
  duplicated-within pid fd to (named.Kqueue place) opens_it = tt
  duplicated-within pid fd to (named.Socket place) opens_it = shared pid fd to (named.Socket place) opens_it
  duplicated-within pid fd to (named.PipeRead place) opens_it = shared pid fd to (named.PipeRead place) opens_it
  duplicated-within pid fd to (named.PipeWrite place) opens_it = shared pid fd to (named.PipeWrite place) opens_it
  duplicated-within pid fd to (named.Open place number) opens_it = shared pid fd to (named.Open place number) opens_it

  pub dup-within : (pid fd to : ℕ) → has_number pid to opens ≡ true → Stays (plan_dup pid fd to w)
  unfolding plan_dup
  dup-within pid fd to opens_it = on_descriptor-holds Stays refused w pid fd (duplicated pid fd to w) (λ n _ _. duplicated-within pid fd to n opens_it)

  pub kqueue-within : (pid fd : ℕ) → has_number pid fd opens ≡ true → Stays (plan_kqueue pid fd w)
  unfolding plan_kqueue starts ends all_done
  kqueue-within pid fd there =
      let makes : Planned = Possible (record idle { born = Some (record { pid = pid; number = fd }) }) in
      unless_gone Stays refused w pid (if is_some (named_by pid fd w) then Impossible UsedDescriptor else makes)
      (λ _. unless Stays refused w (is_some (named_by pid fd w)) UsedDescriptor makes
      (λ _. record {
        opened = All-nil _;
        born = λ x is. (let same : record { pid = pid; number = fd } ≡ x = cc in ap (λ (p : Pair). has_number p.pid p.number opens) (sym same) ∙ there);
        process = λ other never. absurd (true≢false (sym never));
        doings = λ has passes t absent. refl;
      }))

  -- ---- processes

  started-there : (pid other : ℕ) → has_target (target.Process pid) targets ≡ true → ((pid == other) || false) ≡ true → has_target (target.Process other) targets ≡ true
  started-there pid other there is =
      by_test (λ b. (pid == other) ≡ b → (b || false) ≡ true → has_target (target.Process other) targets ≡ true) (pid == other)
      (λ _ same _. ap (λ p. has_target (target.Process p) targets) (sym (eqb-true pid other same)) ∙ there)
      (λ _ _ never. absurd (true≢false (sym never))) refl is

  exited-there : (pid other : ℕ) → has_target (target.Process pid) targets ≡ true → (false || (pid == other)) ≡ true → has_target (target.Process other) targets ≡ true
  exited-there pid other there is = ap (λ p. has_target (target.Process p) targets) (sym (eqb-true pid other is)) ∙ there

  pub proc-within : (pid : ℕ) → has_target (target.Process pid) targets ≡ true → Stays (plan_proc pid w)
  unfolding plan_proc starts ends all_done
  proc-within pid there =
      let starts_one : Planned = Possible (record idle { started = Some (record { pid = pid; ignores = ignores_none }) }) in
      unless Stays refused w (was_used pid w.processes) UsedPid starts_one
      (λ _. record {
        opened = All-nil _;
        born = λ x none. absurd (no_number x none);
        process = λ other is. started-there pid other there is;
        doings = λ has passes t absent. refl;
      })

  pub fork-within : (next pid child : ℕ) → IsCountedWorld next w → has_target (target.Process child) targets ≡ true → Stays (plan_fork pid child w)
  unfolding plan_fork starts ends
  fork-within next pid child counts there =
      let ds : List Descriptor = inherited pid child w.table in
      let forks : Planned = Possible (record idle {
        opened = ds;
        doings = hold_all (names_of ds);
        hints = forked pid child;
        started = Some (record { pid = child; ignores = ignored_by (process_of pid w.processes) });
      }) in
      unless_gone Stays refused w pid (if was_used child w.processes then Impossible UsedPid else forks)
      (λ _. unless Stays refused w (was_used child w.processes) UsedPid forks
      (λ _. record {
        opened = All-map (λ (d : Descriptor). (has_number d.pid d.number opens || (child == d.pid)) ≡ true) (λ (d : Descriptor). record d { pid = child }) (inheritable (descriptors_of pid w.table))
            (every (λ (d : Descriptor). (has_number child d.number opens || (child == child)) ≡ true)
            (λ d. ap (λ b. has_number child d.number opens || b) (eq-eqb child child refl) ∙ or_true (has_number child d.number opens)) (inheritable (descriptors_of pid w.table)));
        born = λ x none. absurd (no_number x none);
        process = λ other is. started-there child other there is;
        doings = λ has passes t absent. same-inherited t next pid child w counts;
      }))
    where
      every : (P : Descriptor → Type 0) → ((d : Descriptor) → P d) → (ds : List Descriptor) → All P ds
      every P holds [] = All-nil P
      every P holds (d ∷ ds) = All-cons P d ds (holds d) (every P holds ds)

  pub exit-within : (pid status : ℕ) → IsRising w.table → has_target (target.Process pid) targets ≡ true → Stays (plan_exit pid status w)
  unfolding plan_exit starts ends
  exit-within pid status rising there =
      let ds : List Descriptor = descriptors_of pid w.table in
      let exits : Planned = Possible (record idle {
        closed = pairs_of ds;
        doings = release_all (names_of ds) w.objects;
        hints = release_hints (names_of ds) w.objects ++ noted pid exit_note ∷ [];
        ended = Some (record { pid = pid; status = status });
      }) in
      unless_gone Stays refused w pid exits
      (λ _. record {
        opened = All-nil _;
        born = λ x none. absurd (no_number x none);
        process = λ other is. exited-there pid other there is;
        doings = λ has passes t absent.
            let tells = tells_file (release_hints (names_of ds) w.objects ++ noted pid exit_note ∷ []) in
            same-released has t (names_of ds) w.objects (noted pid exit_note ∷ []) absent passes.told
            (All-map (λ n. All (λ t. has t ≡ true) (targets_left tells (Some n))) (λ (d : Descriptor). d.named) ds
            (All-both (λ (d : Descriptor). has_pair d.pid d.number (pairs_of ds) ≡ true) (λ (d : Descriptor). named_among d.pid d.number w.table ≡ Some d.named)
            (λ (d : Descriptor). All (λ t. has t ≡ true) (targets_left tells (Some d.named)))
            (λ d shut found. subst (λ x. All (λ t. has t ≡ true) (targets_left tells x)) found (passes.closed d.pid d.number shut))
            ds (pairs-there ds) (All-filter (λ (d : Descriptor). d.pid == pid) (λ (d : Descriptor). named_among d.pid d.number w.table ≡ Some d.named) w.table (named-rising w.table rising))));
      })

  -- ---- records that say something and do nothing

  pub exec-within : (pid : ℕ) → Stays (plan_exec pid w)
  unfolding plan_exec
  exec-within pid = unless_gone Stays refused w pid (Possible (record idle { hints = noted pid exec_note ∷ [] })) (λ _. quiet _ refl refl refl refl refl)

  pub sigset-within : (pid signal : ℕ) (ignore : Bool) → Stays (plan_sigset pid signal ignore w)
  unfolding plan_sigset
  sigset-within pid signal ignore =
      let sets : Planned = Possible (record idle { disposed = Some (record { pid = pid; signal = signal; ignore = ignore }) }) in
      unless_gone Stays refused w pid (if not (is_signal signal) then Impossible TooMany else sets)
      (λ _. unless Stays refused w (not (is_signal signal)) TooMany sets (λ _. quiet _ refl refl refl refl refl))

  pub sig-within : (pid signal : ℕ) → Stays (plan_sig pid signal w)
  unfolding plan_sig
  sig-within pid signal =
      let delivers : Planned = Possible (record idle { hints = delivery pid signal (ignored_by (process_of pid w.processes) signal) }) in
      unless_gone Stays refused w pid (if not (is_signal signal) then Impossible TooMany else delivers)
      (λ _. unless Stays refused w (not (is_signal signal)) TooMany delivers (λ _. quiet _ refl refl refl refl refl))

  pub clock-within : (moment : ℤ) → Stays (plan_clock_at moment w)
  unfolding plan_clock_at plan_clock
  clock-within (pos moment) =
      unless Stays refused w (nat_lt moment w.now) ClockBack (Possible (record idle { clock = Some (record { from = w.now; to = moment }) })) (λ _. quiet _ refl refl refl refl refl)
  clock-within (negsuc n) = tt

  call-within : (room : ℕ) (changes : List Change) (n : Named) → Stays (plan_call changes room n)
  unfolding plan_call
  call-within room changes (named.Kqueue place) =
      unless Stays refused w (nat_lt most_changes (length changes) || nat_lt most_room room) TooMany
      (Possible (record idle { call = Some (record { kqueue = place; changes = changes; room = room }) })) (λ _. quiet _ refl refl refl refl refl)
  call-within room changes (named.Socket place) = tt
  call-within room changes (named.PipeRead place) = tt
  call-within room changes (named.PipeWrite place) = tt
  call-within room changes (named.Open place number) = tt

  pub kevent-within : (pid fd room : ℕ) (changes : List Change) → Stays (plan_kevent pid fd changes room w)
  unfolding plan_kevent
  kevent-within pid fd room changes = on_descriptor-holds Stays refused w pid fd (plan_call changes room) (λ n _ _. call-within room changes n)

  pub file-within : (place number : ℕ) (a : Act) → act_targets place a ≡ target.File number ∷ [] → has_target (target.File number) targets ≡ true → Stays (plan_act place [] a w)
  file-within place number a names there =
      act-within [] place a (All-nil _)
      (λ has p _ _ passes. subst (λ ts. All (λ t. has t ≡ true) ts) (sym names)
      (All-cons (λ t. has t ≡ true) (target.File number) [] (spoken-passes has number targets passes.spoken there) (All-nil _)))
