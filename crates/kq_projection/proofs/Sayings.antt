-- What each possible record says of itself.
use Rattle.std.proofs.Common.{◌≡◌, ℕ, ℤ, pos, negsuc, ◌==◌, nat_lt, ◌||◌, not, Bool, length, List, [], ◌∷◌, ◌++◌, Some, None, Ok, Err, refl, sym, subst, if◌then◌else◌}
use Rattle.std.specs.Option.{is_some}
use Rattle.kq_model.specs.declared.act.Act.{Act}
use Rattle.kq_model.specs.declared.act.Act.TheVariants as act
use Rattle.kq_model.specs.declared.change.Change.{Change}
use Rattle.kq_model.specs.declared.event.Event.{Event}
use Rattle.kq_model.specs.declared.event.Event.TheVariants as event
use Rattle.kq_model.specs.declared.mode.Mode.{Mode}
use Rattle.kq_model.specs.declared.object.Named.{Named}
use Rattle.kq_model.specs.declared.object.Named.TheVariants as named
use Rattle.kq_model.specs.declared.why.Why.{Why}
use Rattle.kq_model.specs.declared.why.Why.TheVariants.{UsedDescriptor, UsedPid, ClockBack, TooMany}
use Rattle.kq_model.specs.Descriptors.{Descriptor}
use Rattle.kq_model.specs.DescriptorPlans.{close_doings, close_hints, closes, duplicated, plan_call, plan_close, plan_dup, plan_kevent, plan_kqueue}
use Rattle.kq_model.specs.Holding.{hold_doings}
use Rattle.kq_model.specs.Limits.{most_changes, most_room}
use Rattle.kq_model.specs.ObjectPlan as object
use Rattle.kq_model.specs.ObjectRecordPlans.{descriptor, pipe_ends, plan_accept, plan_act, plan_at, plan_open, plan_pipe, plan_socket, unless_open, with_objects}
use Rattle.kq_model.specs.Objects.{counted}
use Rattle.kq_model.specs.Planning as object_planning
use Rattle.kq_model.specs.Plans.{plan}
use Rattle.kq_model.specs.Processes.{was_used}
use Rattle.kq_model.specs.ProcessPlans.{is_signal, plan_clock, plan_clock_at, plan_exec, plan_exit, plan_fork, plan_proc, plan_sig, plan_sigset}
use Rattle.kq_model.specs.World.{World, Plan, Planned, Impossible, Possible, idle, named_by}
use Rattle.kq_model.proofs.KnoteLaws.{by_test}
use Rattle.kq_model.proofs.PlanReasons.{if_live-holds, on_descriptor-holds, unless, unless_gone, unless_open-holds}
use Rattle.kq_projection.specs.Sayings.{born_of, call_of, call_on, clock_of, span_to, Says, SaysBy}

module _ (w : World counted) where
  -- nothing
  abbrev Silent : Planned → Type 0
  Silent q = SaysBy None None None q

  refused : (why : Why) → Silent (Impossible why)
  refused why = tt

  silent : (p : Plan) → p.born ≡ None → p.call ≡ None → p.clock ≡ None → Says None None None p
  silent p born call clock = record { born_is = born; call_is = call; clock_is = clock }

  objects-silent : (ds : List Descriptor) (q : object.Planned) → Silent (with_objects ds q)
  unfolding with_objects
  objects-silent ds (Err why) = tt
  objects-silent ds (Ok p) = silent _ refl refl refl

  act-silent : (place : ℕ) (ds : List Descriptor) (a : Act) → Silent (plan_act place ds a w)
  unfolding plan_act
  act-silent place ds a = objects-silent ds (object_planning.plan place a w.objects)

  at-silent : (place pid fd : ℕ) (at : Named → Act) → Silent (plan_at place pid fd at w)
  unfolding plan_at
  at-silent place pid fd at = on_descriptor-holds Silent refused w pid fd (λ n. plan_act place [] (at n) w) (λ n _ _. act-silent place [] (at n))

  new-silent : (place pid : ℕ) (numbers : List ℕ) (ds : List Descriptor) (a : Act) → Silent (unless_open pid numbers w (plan_act place ds a w))
  new-silent place pid numbers ds a = unless_open-holds Silent refused w pid numbers (plan_act place ds a w) (λ _. act-silent place ds a)

  socket-silent : (place pid fd receive send : ℕ) → Silent (plan_socket place pid fd receive send w)
  unfolding plan_socket
  socket-silent place pid fd receive send =
      if_live-holds Silent refused w pid _ (λ _. new-silent place pid (fd ∷ []) (descriptor pid fd (named.Socket place) ∷ []) (act.Socket receive send))

  accept-silent : (place pid fd to receive send : ℕ) → Silent (plan_accept place pid fd to receive send w)
  unfolding plan_accept
  accept-silent place pid fd to receive send =
      on_descriptor-holds Silent refused w pid fd _ (λ n _ _. new-silent place pid (to ∷ []) (descriptor pid to (named.Socket place) ∷ []) (act.Accept n receive send))

  open-silent : (place pid fd file : ℕ) (mode : Mode) → Silent (plan_open place pid fd file mode w)
  unfolding plan_open
  open-silent place pid fd file mode =
      if_live-holds Silent refused w pid _ (λ _. new-silent place pid (fd ∷ []) (descriptor pid fd (named.Open place file) ∷ []) (act.Open file mode))

  pipe-silent : (place pid rfd wfd cap : ℕ) → Silent (plan_pipe place pid rfd wfd cap w)
  unfolding plan_pipe
  pipe-silent place pid rfd wfd cap =
      let made : Planned = unless_open pid (rfd ∷ wfd ∷ []) w (plan_act place (pipe_ends place pid rfd wfd) (act.Pipe cap) w) in
      if_live-holds Silent refused w pid (if rfd == wfd then Impossible UsedDescriptor else made)
      (λ _. unless Silent refused w (rfd == wfd) UsedDescriptor made (λ _. new-silent place pid (rfd ∷ wfd ∷ []) (pipe_ends place pid rfd wfd) (act.Pipe cap)))

  close-silent : (pid fd : ℕ) → Silent (plan_close pid fd w)
  unfolding plan_close
  close-silent pid fd = on_descriptor-holds Silent refused w pid fd _ (λ n _ _. silent _ refl refl refl)

  shared : (pid fd to : ℕ) (n : Named) → Silent (if fd == to then Possible idle else Possible (record idle {
    closed = closes pid to (named_by pid to w);
    opened = record { pid = pid; number = to; named = n } ∷ [];
    doings = close_doings (named_by pid to w) w.objects ++ hold_doings n;
    hints = close_hints (named_by pid to w) w.objects;
  }))
  shared pid fd to n =
      by_test (λ b. Silent (if b then Possible idle else Possible (record idle {
        closed = closes pid to (named_by pid to w);
        opened = record { pid = pid; number = to; named = n } ∷ [];
        doings = close_doings (named_by pid to w) w.objects ++ hold_doings n;
        hints = close_hints (named_by pid to w) w.objects;
      }))) (fd == to) (λ _. silent idle refl refl refl) (λ _. silent _ refl refl refl)

  duplicated-silent : (pid fd to : ℕ) (n : Named) → Silent (duplicated pid fd to w n)
  unfolding duplicated
  duplicated-silent pid fd to (named.Kqueue place) = tt
  duplicated-silent pid fd to (named.Socket place) = shared pid fd to (named.Socket place)
  duplicated-silent pid fd to (named.PipeRead place) = shared pid fd to (named.PipeRead place)
  duplicated-silent pid fd to (named.PipeWrite place) = shared pid fd to (named.PipeWrite place)
  duplicated-silent pid fd to (named.Open place number) = shared pid fd to (named.Open place number)

  dup-silent : (pid fd to : ℕ) → Silent (plan_dup pid fd to w)
  unfolding plan_dup
  dup-silent pid fd to = on_descriptor-holds Silent refused w pid fd (duplicated pid fd to w) (λ n _ _. duplicated-silent pid fd to n)

  proc-silent : (pid : ℕ) → Silent (plan_proc pid w)
  unfolding plan_proc
  proc-silent pid = unless Silent refused w (was_used pid w.processes) UsedPid _ (λ _. silent _ refl refl refl)

  fork-silent : (pid child : ℕ) → Silent (plan_fork pid child w)
  unfolding plan_fork
  fork-silent pid child = unless_gone Silent refused w pid _ (λ _. unless Silent refused w (was_used child w.processes) UsedPid _ (λ _. silent _ refl refl refl))

  exec-silent : (pid : ℕ) → Silent (plan_exec pid w)
  unfolding plan_exec
  exec-silent pid = unless_gone Silent refused w pid _ (λ _. silent _ refl refl refl)

  exit-silent : (pid status : ℕ) → Silent (plan_exit pid status w)
  unfolding plan_exit
  exit-silent pid status = unless_gone Silent refused w pid _ (λ _. silent _ refl refl refl)

  sigset-silent : (pid signal : ℕ) (ignore : Bool) → Silent (plan_sigset pid signal ignore w)
  unfolding plan_sigset
  sigset-silent pid signal ignore = unless_gone Silent refused w pid _ (λ _. unless Silent refused w (not (is_signal signal)) TooMany _ (λ _. silent _ refl refl refl))

  sig-silent : (pid signal : ℕ) → Silent (plan_sig pid signal w)
  unfolding plan_sig
  sig-silent pid signal = unless_gone Silent refused w pid _ (λ _. unless Silent refused w (not (is_signal signal)) TooMany _ (λ _. silent _ refl refl refl))

  -- ---- records that say something

  kqueue-says : (pid fd : ℕ) → SaysBy (Some (record { pid = pid; number = fd })) None None (plan_kqueue pid fd w)
  unfolding plan_kqueue
  kqueue-says pid fd =
      unless_gone (λ q. SaysBy (Some (record { pid = pid; number = fd })) None None q) (λ why. tt) w pid _
      (λ _. unless (λ q. SaysBy (Some (record { pid = pid; number = fd })) None None q) (λ why. tt) w (is_some (named_by pid fd w)) UsedDescriptor _
      (λ _. record { born_is = refl; call_is = refl; clock_is = refl }))

  clock-says : (moment : ℤ) → SaysBy None None (span_to moment w.now) (plan_clock_at moment w)
  unfolding plan_clock_at plan_clock span_to
  clock-says (negsuc n) = tt
  clock-says (pos moment) =
      unless (λ q. SaysBy None None (Some (record { from = w.now; to = moment })) q) (λ why. tt) w (nat_lt moment w.now) ClockBack _
      (λ _. record { born_is = refl; call_is = refl; clock_is = refl })

  call-says : (changes : List Change) (room : ℕ) (n : Named) → SaysBy None (call_on changes room (Some n)) None (plan_call changes room n)
  unfolding plan_call call_on
  call-says changes room (named.Kqueue place) =
      unless (λ q. SaysBy None (Some (record { kqueue = place; changes = changes; room = room })) None q) (λ why. tt) w
      (nat_lt most_changes (length changes) || nat_lt most_room room) TooMany _ (λ _. record { born_is = refl; call_is = refl; clock_is = refl })
  call-says changes room (named.Socket place) = tt
  call-says changes room (named.PipeRead place) = tt
  call-says changes room (named.PipeWrite place) = tt
  call-says changes room (named.Open place number) = tt

  kevent-says : (pid fd room : ℕ) (changes : List Change) → SaysBy None (call_on changes room (named_by pid fd w)) None (plan_kevent pid fd changes room w)
  unfolding plan_kevent named_by
  kevent-says pid fd room changes =
      on_descriptor-holds (λ q. SaysBy None (call_on changes room (named_by pid fd w)) None q) (λ why. tt) w pid fd (plan_call changes room)
      (λ n _ found. subst (λ x. SaysBy None (call_on changes room x) None (plan_call changes room n)) (sym found) (call-says changes room n))

  pub says : (place : ℕ) (e : Event) → SaysBy (born_of e) (call_of e w) (clock_of e w.now) (plan place e w)
  unfolding plan born_of call_of clock_of
  says place (event.Proc pid) = proc-silent pid
  says place (event.Fork pid child) = fork-silent pid child
  says place (event.Exit pid status) = exit-silent pid status
  says place (event.Kqueue pid fd) = kqueue-says pid fd
  says place (event.Dup pid fd to) = dup-silent pid fd to
  says place (event.Close pid fd) = close-silent pid fd
  says place (event.Socket pid fd rcv snd) = socket-silent place pid fd rcv snd
  says place (event.Listen pid fd backlog) = at-silent place pid fd _
  says place (event.Arrive pid fd) = at-silent place pid fd _
  says place (event.Accept pid fd to rcv snd) = accept-silent place pid fd to rcv snd
  says place (event.Connect pid fd) = at-silent place pid fd _
  says place (event.Rx pid fd n) = at-silent place pid fd _
  says place (event.Tx pid fd n) = at-silent place pid fd _
  says place (event.Shut pid fd side error) = at-silent place pid fd _
  says place (event.Lowat pid fd side n) = at-silent place pid fd _
  says place (event.Pipe pid rfd wfd cap) = pipe-silent place pid rfd wfd cap
  says place (event.Read pid fd n) = at-silent place pid fd _
  says place (event.Write pid fd n) = at-silent place pid fd _
  says place (event.Exec pid) = exec-silent pid
  says place (event.Sigset pid sig ignore) = sigset-silent pid sig ignore
  says place (event.Sig pid sig) = sig-silent pid sig
  says place (event.File file size) = act-silent place [] _
  says place (event.Open pid fd file mode) = open-silent place pid fd file mode
  says place (event.Seek pid fd offset) = at-silent place pid fd _
  says place (event.Truncate file size) = act-silent place [] _
  says place (event.Note file note) = act-silent place [] _
  says place (event.Clock ns) = clock-says ns
  says place (event.Kevent pid fd changes room) = kevent-says pid fd room changes
