-- A record calls only a kqueue that a number names, and such a one is live; so each call of a trace is on a
-- live kqueue.
use Rattle.std.proofs.Common.{◌≡◌, ℕ, ℤ, pos, negsuc, ◌+◌, Bool, true, false, cond, not, ◌||◌, eqb, ltb, length, List, [], ◌∷◌, Option, Some, None, Ok, Err, refl, sym, ap, subst, ◌∙◌}
use Rattle.std.proofs.lemmas.Bool.{and_parts, eqb-true, eq-eqb}
use Rattle.std.specs.Option.{is_some}
use Rattle.kq_model.specs.declared.act.Act.{Act}
use Rattle.kq_model.specs.declared.act.Act.TheVariants as act
use Rattle.kq_model.specs.declared.change.Change.{Change}
use Rattle.kq_model.specs.declared.event.Event.{Event}
use Rattle.kq_model.specs.declared.event.Event.TheVariants as event
use Rattle.kq_model.specs.declared.mode.Mode.{Mode}
use Rattle.kq_model.specs.declared.object.Named.{Named}
use Rattle.kq_model.specs.declared.object.Named.TheVariants as named
use Rattle.kq_model.specs.declared.why.Why.{Why}
use Rattle.kq_model.specs.declared.why.Why.TheVariants.{NoProcess, NoDescriptor, UsedDescriptor}
use Rattle.kq_model.specs.DescriptorPlans.{on_named, on_descriptor, plan_close, duplicated, plan_dup, plan_kqueue, plan_call, plan_kevent}
use Rattle.kq_model.specs.Descriptors.{Descriptor}
use Rattle.kq_model.specs.Hearing.{Hearing}
use Rattle.kq_model.specs.Limits.{most_changes, most_room}
use Rattle.kq_model.specs.LiveCalls.{call_of, is_live, OnLive, CallLive}
use Rattle.kq_model.specs.LiveKqueues.{is_live_as, has_live, AreAllLive}
use Rattle.kq_model.specs.Moments.{plans_from}
use Rattle.kq_model.specs.ObjectPlan as object
use Rattle.kq_model.specs.ObjectRecordPlans.{with_objects, plan_act, plan_at, unless_open, if_live, descriptor, plan_socket, plan_accept, pipe_ends, plan_pipe, plan_open}
use Rattle.kq_model.specs.Objects.{Keeping, counted}
use Rattle.kq_model.specs.Planning as object_planning
use Rattle.kq_model.specs.Plans.{plan}
use Rattle.kq_model.specs.Processes as processes
use Rattle.kq_model.specs.ProcessPlans.{plan_proc, plan_fork, plan_exec, plan_exit, is_signal, plan_sigset, plan_sig, plan_clock, plan_clock_at}
use Rattle.kq_model.specs.System.{Live, System, step_by, step}
use Rattle.kq_model.specs.World.{World, Call, Planned, Impossible, Possible, named_by, seen_world}
use Rattle.kq_model.proofs.FoldRows.{step-world}
use Rattle.kq_model.proofs.KnoteLaws.{by_test}
use Rattle.kq_model.proofs.LiveKqueues.{step-live, named_among-live}

-- the call is on a kqueue that a number of a process names
abbrev NamesKqueue : World counted → Option Call → Type 0
NamesKqueue w None = Unit {0}
NamesKqueue w (Some c) = (pid : ℕ) × (number : ℕ) × (named_by pid number w ≡ Some (named.Kqueue c.kqueue))

abbrev pub CallsNamed : World counted → Planned → Type 0
CallsNamed w q = NamesKqueue w (call_of q)

module _ (w : World counted) where
  pub impossible-calls : (why : Why) → CallsNamed w (Impossible why)
  unfolding call_of
  impossible-calls why = tt

  pub or-calls : (b : Bool) (q r : Planned) → CallsNamed w q → CallsNamed w r → CallsNamed w (cond b q r)
  or-calls true q r first second = first
  or-calls false q r first second = second

  proc-calls : (pid : ℕ) → CallsNamed w (plan_proc pid w)
  unfolding plan_proc call_of
  proc-calls pid = or-calls (processes.was_used pid w.processes) _ _ tt tt

  kqueue-calls : (pid fd : ℕ) → CallsNamed w (plan_kqueue pid fd w)
  unfolding plan_kqueue call_of
  kqueue-calls pid fd = or-calls (not (processes.is_live pid w.processes)) _ _ tt (or-calls (is_some (named_by pid fd w)) _ _ tt tt)

  found-calls : (pid fd room : ℕ) (changes : List Change) (found : Option Named) → named_by pid fd w ≡ found → CallsNamed w (on_named (plan_call changes room) found)
  unfolding on_named plan_call call_of
  found-calls pid fd room changes None e = tt
  found-calls pid fd room changes (Some (named.Kqueue place)) e =
      or-calls (ltb most_changes (length changes) || ltb most_room room) _ (Possible _) tt (pid, fd, e)
  found-calls pid fd room changes (Some (named.Socket place)) e = tt
  found-calls pid fd room changes (Some (named.PipeRead place)) e = tt
  found-calls pid fd room changes (Some (named.PipeWrite place)) e = tt
  found-calls pid fd room changes (Some (named.Open place number)) e = tt

  kevent-calls : (pid fd room : ℕ) (changes : List Change) → CallsNamed w (plan_kevent pid fd changes room w)
  unfolding plan_kevent on_descriptor call_of
  kevent-calls pid fd room changes =
      or-calls (not (processes.is_live pid w.processes)) _ _ tt (found-calls pid fd room changes (named_by pid fd w) refl)

  -- ---- records that call nothing

  on_descriptor-calls : (pid fd : ℕ) (planned : Named → Planned) → ((n : Named) → CallsNamed w (planned n)) → CallsNamed w (on_descriptor pid fd planned w)
  unfolding on_descriptor on_named
  on_descriptor-calls pid fd planned each =
      or-calls (not (processes.is_live pid w.processes)) _ _ (impossible-calls NoProcess) (by_name (named_by pid fd w))
    where
      by_name : (found : Option Named) → CallsNamed w (on_named planned found)
      by_name None = impossible-calls NoDescriptor
      by_name (Some n) = each n

  pub close-calls : (pid fd : ℕ) → CallsNamed w (plan_close pid fd w)
  unfolding plan_close call_of
  close-calls pid fd = on_descriptor-calls pid fd _ (λ n. tt)

  duplicated-calls : (pid fd to : ℕ) (n : Named) → CallsNamed w (duplicated pid fd to w n)
  unfolding duplicated call_of
  duplicated-calls pid fd to (named.Kqueue place) = tt
  duplicated-calls pid fd to (named.Socket place) = or-calls (eqb fd to) _ _ tt tt
  duplicated-calls pid fd to (named.PipeRead place) = or-calls (eqb fd to) _ _ tt tt
  duplicated-calls pid fd to (named.PipeWrite place) = or-calls (eqb fd to) _ _ tt tt
  duplicated-calls pid fd to (named.Open place number) = or-calls (eqb fd to) _ _ tt tt

  pub dup-calls : (pid fd to : ℕ) → CallsNamed w (plan_dup pid fd to w)
  unfolding plan_dup
  dup-calls pid fd to = on_descriptor-calls pid fd (duplicated pid fd to w) (duplicated-calls pid fd to)

  pub fork-calls : (pid child : ℕ) → CallsNamed w (plan_fork pid child w)
  unfolding plan_fork call_of
  fork-calls pid child = or-calls (not (processes.is_live pid w.processes)) _ _ tt (or-calls (processes.was_used child w.processes) _ _ tt tt)

  pub exec-calls : (pid : ℕ) → CallsNamed w (plan_exec pid w)
  unfolding plan_exec call_of
  exec-calls pid = or-calls (not (processes.is_live pid w.processes)) _ _ tt tt

  pub exit-calls : (pid status : ℕ) → CallsNamed w (plan_exit pid status w)
  unfolding plan_exit call_of
  exit-calls pid status = or-calls (not (processes.is_live pid w.processes)) _ _ tt tt

  pub sigset-calls : (pid signal : ℕ) (ignore : Bool) → CallsNamed w (plan_sigset pid signal ignore w)
  unfolding plan_sigset call_of
  sigset-calls pid signal ignore = or-calls (not (processes.is_live pid w.processes)) _ _ tt (or-calls (not (is_signal signal)) _ _ tt tt)

  pub sig-calls : (pid signal : ℕ) → CallsNamed w (plan_sig pid signal w)
  unfolding plan_sig call_of
  sig-calls pid signal = or-calls (not (processes.is_live pid w.processes)) _ _ tt (or-calls (not (is_signal signal)) _ _ tt tt)

  pub clock-calls : (moment : ℕ) → CallsNamed w (plan_clock moment w)
  unfolding plan_clock call_of
  clock-calls moment = or-calls (ltb moment w.now) _ _ tt tt

  pub clock_at-calls : (moment : ℤ) → CallsNamed w (plan_clock_at moment w)
  unfolding plan_clock_at call_of
  clock_at-calls (pos moment) = clock-calls moment
  clock_at-calls (negsuc n) = tt

  with_objects-calls : (opened : List Descriptor) (p : object.Planned) → CallsNamed w (with_objects opened p)
  unfolding with_objects call_of
  with_objects-calls opened (Err why) = tt
  with_objects-calls opened (Ok p) = tt

  pub act-calls : (place : ℕ) (opened : List Descriptor) (a : Act) → CallsNamed w (plan_act place opened a w)
  unfolding plan_act
  act-calls place opened a = with_objects-calls opened (object_planning.plan place a w.objects)

  pub at-calls : (place pid fd : ℕ) (at : Named → Act) → CallsNamed w (plan_at place pid fd at w)
  unfolding plan_at
  at-calls place pid fd at = on_descriptor-calls pid fd (λ n. plan_act place [] (at n) w) (λ n. act-calls place [] (at n))

  unless_open-calls : (pid : ℕ) (numbers : List ℕ) (q : Planned) → CallsNamed w q → CallsNamed w (unless_open pid numbers w q)
  unfolding unless_open
  unless_open-calls pid [] q calls = calls
  unless_open-calls pid (number ∷ numbers) q calls =
      or-calls (is_some (named_by pid number w)) _ _ (impossible-calls UsedDescriptor) (unless_open-calls pid numbers q calls)

  if_live-calls : (pid : ℕ) (q : Planned) → CallsNamed w q → CallsNamed w (if_live pid w q)
  unfolding if_live
  if_live-calls pid q calls = or-calls (processes.is_live pid w.processes) _ _ calls (impossible-calls NoProcess)

  pub socket-calls : (place pid fd receive_buffer send_buffer : ℕ) → CallsNamed w (plan_socket place pid fd receive_buffer send_buffer w)
  unfolding plan_socket
  socket-calls place pid fd receive_buffer send_buffer =
      if_live-calls pid _ (unless_open-calls pid (fd ∷ []) _ (act-calls place (descriptor pid fd (named.Socket place) ∷ []) (act.Socket receive_buffer send_buffer)))

  pub accept-calls : (place pid fd to receive_buffer send_buffer : ℕ) → CallsNamed w (plan_accept place pid fd to receive_buffer send_buffer w)
  unfolding plan_accept
  accept-calls place pid fd to receive_buffer send_buffer =
      on_descriptor-calls pid fd _ (λ n. unless_open-calls pid (to ∷ []) _ (act-calls place (descriptor pid to (named.Socket place) ∷ []) (act.Accept n receive_buffer send_buffer)))

  pub pipe-calls : (place pid read_fd write_fd cap : ℕ) → CallsNamed w (plan_pipe place pid read_fd write_fd cap w)
  unfolding plan_pipe
  pipe-calls place pid read_fd write_fd cap =
      if_live-calls pid _ (or-calls (eqb read_fd write_fd) _ _ (impossible-calls UsedDescriptor)
      (unless_open-calls pid (read_fd ∷ write_fd ∷ []) _ (act-calls place (pipe_ends place pid read_fd write_fd) (act.Pipe cap))))

  pub open-calls : (place pid fd file : ℕ) (mode : Mode) → CallsNamed w (plan_open place pid fd file mode w)
  unfolding plan_open
  open-calls place pid fd file mode =
      if_live-calls pid _ (unless_open-calls pid (fd ∷ []) _ (act-calls place (descriptor pid fd (named.Open place file) ∷ []) (act.Open file mode)))

  -- ---- any record

  pub plan-calls : (place : ℕ) (e : Event) → CallsNamed w (plan place e w)
  unfolding plan
  plan-calls place (event.Kevent pid fd changes room) = kevent-calls pid fd room changes
  plan-calls place e = search (proc-calls, kqueue-calls, close-calls, dup-calls, fork-calls, exec-calls, exit-calls, sigset-calls, sig-calls, clock_at-calls, act-calls, at-calls, socket-calls, accept-calls, pipe-calls, open-calls)

module _ {S : Type 0} {h : Hearing S} where
  live-by-place : (place pid number : ℕ) (live : List (Live h)) → has_live place pid number live ≡ true → is_live place live ≡ true
  live-by-place place pid number [] there = there
  live-by-place place pid number (l ∷ ls) there =
      by_test (λ b. is_live_as place pid number l ≡ b → b || has_live place pid number ls ≡ true → eqb place l.place || is_live place ls ≡ true) (is_live_as place pid number l)
      (λ _ is _. ap (λ b. b || is_live place ls) (eq-eqb place l.place (sym (eqb-true l.place place (and_parts (eqb l.place place) _ is).0))))
      (λ _ _ later. ap (λ b. eqb place l.place || b) (live-by-place place pid number ls later) ∙ or-true (eqb place l.place))
      refl there
    where
      or-true : (b : Bool) → b || true ≡ true
      or-true true = refl
      or-true false = refl

module _ {S A B C D : Type 0} {h : Hearing S} {k : Keeping A B C D} where
  on-live : (s : System h k) (c : Option Call) → AreAllLive s → NamesKqueue (seen_world s.world) c → OnLive s.live c
  unfolding OnLive named_by
  on-live s None all names = tt
  on-live s (Some c) all names =
      live-by-place c.kqueue names.0 names.1 s.live (named_among-live s.live names.0 names.1 c.kqueue s.world.table all names.2)

  next-live : (place : ℕ) (s : System h k) (e : Event) → AreAllLive s → AreAllLive (step_by place (plan place e (seen_world s.world)) s).system
  unfolding step
  next-live place s e all = step-live place e s all

  pub calls-live : (place : ℕ) (s : System h k) (es : List Event) → AreAllLive s → CallLive place s (plans_from place s.world es)
  unfolding CallLive plans_from
  calls-live place s [] all = tt
  calls-live place s (e ∷ es) all =
      let q = plan place e (seen_world s.world) in
      let next = (step_by place q s).system in (
        on-live s (call_of q) all (plan-calls (seen_world s.world) place e),
        subst (λ w. CallLive (place + 1) next (plans_from (place + 1) w es)) (step-world place q s) (calls-live (place + 1) next es (next-live place s e all)),
      )
