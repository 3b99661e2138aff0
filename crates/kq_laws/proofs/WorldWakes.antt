-- Each record tells of each condition of READ and WRITE that it makes hold of what was there before it.
use Rattle.std.proofs.Common.{◌≡◌, ℕ, ℤ, pos, negsuc, ◌≤◌, ◌==◌, nat_lt, Bool, true, false, cond, not, ◌&&◌, ◌||◌, eqb, eqb-true, eq-eqb, length, List, [], ◌∷◌, ◌++◌, Option, Some, None, Ok, Err, refl, sym, ap, subst, ◌∙◌, arith, if◌then◌else◌}
use Rattle.std.proofs.lemmas.Bool.{true≢false}
use Rattle.std.proofs.lemmas.Bool.Decides.{nat_tests}
use Rattle.std.proofs.lemmas.List.Elements.{All-nil, All-cons, All-map, All-weaker}
use Rattle.std.specs.Option.{is_some}
use Rattle.std.specs.Prelude.{All}
use Rattle.kq_model.specs.declared.act.Act.{Act}
use Rattle.kq_model.specs.declared.act.Act.TheVariants as act
use Rattle.kq_model.specs.declared.change.Change.{Change}
use Rattle.kq_model.specs.declared.event.Event.{Event}
use Rattle.kq_model.specs.declared.event.Event.TheVariants as event
use Rattle.kq_model.specs.declared.mode.Mode.{Mode}
use Rattle.kq_model.specs.declared.object.Named.{Named}
use Rattle.kq_model.specs.declared.object.Named.TheVariants as named
use Rattle.kq_model.specs.declared.object.Target.{Target}
use Rattle.kq_model.specs.declared.why.Why.{Why}
use Rattle.kq_model.specs.declared.why.Why.TheVariants.{UsedPid, UsedDescriptor, ClockBack, TooMany}
use Rattle.kq_model.specs.Bits.{exec_note, exit_note}
use Rattle.kq_model.specs.Clock.{Span}
use Rattle.kq_model.specs.CountedWorld.{IsCountedWorld}
use Rattle.kq_model.specs.DescriptorPlans.{close_doings, close_hints, closes, duplicated, plan_call, plan_close, plan_dup, plan_kevent, plan_kqueue}
use Rattle.kq_model.specs.Descriptors.{Descriptor, named_among, without_closed}
use Rattle.kq_model.specs.Holding.{hold_doings, option_list, release, release_doings, release_all, release_hint, release_hints}
use Rattle.kq_model.specs.Holders.{IsNamed}
use Rattle.kq_model.specs.Limits.{most_changes, most_room}
use Rattle.kq_model.specs.ListedFiles.{AreListed}
use Rattle.kq_model.specs.ObjectPlan as object
use Rattle.kq_model.specs.ObjectRecordPlans.{descriptor, pipe_ends, plan_accept, plan_act, plan_at, plan_open, plan_pipe, plan_socket, unless_open, with_objects}
use Rattle.kq_model.specs.Objects.{counted, all_done, view_of}
use Rattle.kq_model.specs.Planning as object_planning
use Rattle.kq_model.specs.Plans.{plan}
use Rattle.kq_model.specs.Processes.{ignored_by, ignores_none, process_of, was_used}
use Rattle.kq_model.specs.ProcessPlans.{delivery, descriptors_of, forked, hold_all, inherited, is_signal, names_of, noted, pairs_of, plan_clock, plan_clock_at, plan_exec, plan_exit, plan_fork, plan_proc, plan_sig, plan_sigset}
use Rattle.kq_model.specs.World.{World, Plan, Planned, Impossible, Possible, idle, named_by}
use Rattle.kq_model.proofs.CountedTables.{has_pair-one, inherited-all, times-without}
use Rattle.kq_model.proofs.HeldNames.{counted-fewer}
use Rattle.kq_model.proofs.KnoteLaws.{by_test}
use Rattle.kq_model.proofs.NamedWorld.{free-next, more_named, named_first, named-among}
use Rattle.kq_model.proofs.PlanReasons.{if_live-holds, on_descriptor-holds, unless, unless_gone, unless_open-holds}
use Rattle.kq_model.proofs.ReleasedAll.{all_done-append, release-counted}
use Rattle.kq_laws.proofs.ActFiles.{act-tells}
use Rattle.kq_laws.proofs.ActWakes.{AreCalm, TellsAll}
use Rattle.kq_laws.proofs.Calm.{CalmAll, calm-all, has_arrival}
use Rattle.kq_laws.proofs.CalmPlans.{act-calm, hold_all-none, release-none, release_all-none, shared-none}
use Rattle.kq_laws.proofs.HoldWakes.{hold-tells, hold_all-tells, release-tells, release_all-tells, told-either}
use Rattle.kq_laws.proofs.ObjectWakes.{Tells}
use Rattle.kq_laws.proofs.Shown.{shown}

-- the clock goes on from where it stood
abbrev pub IsForward : ℕ → Option Span → Type 0
IsForward now None = Unit {0}
IsForward now (Some span) = (span.from ≡ now) × (now ≤ span.to)

-- what was there before, and comes to be shown, is told; and connections wait only at sockets that listen
abbrev pub TellsPlanned : World counted → Planned → Type 0
TellsPlanned w (Impossible why) = Unit {0}
TellsPlanned w (Possible p) =
    ((t : Target) → is_some (view_of t w.objects) ≡ true → Tells w.objects p.doings p.hints t)
    × (AreCalm w.objects → AreCalm (all_done p.doings w.objects)) × IsForward w.now p.clock

pub record TellsWorld (place : ℕ) (w : World counted) (planned : Planned) : Type 0 where
  pub tells : IsCountedWorld place w → AreListed w.objects → AreCalm w.objects → TellsPlanned w planned

module _ (place : ℕ) (w : World counted) where
  abbrev K : Planned → Type 0
  K planned = TellsWorld place w planned

  refused : (why : Why) → K (Impossible why)
  refused why = record { tells = λ c l calm. tt }

  -- nothing is noted
  quiet : (p : Plan) → p.doings ≡ [] → IsForward w.now p.clock → K (Possible p)
  unfolding all_done
  quiet p none forward = record {
    tells = λ c l calm. (
      λ t _ side mark _ e. ap (λ ds. shown side mark (view_of t (all_done ds w.objects))) (sym none) ∙ e,
      λ was. subst (λ ds. AreCalm (all_done ds w.objects)) (sym none) was,
      forward,
    );
  }

  tells-proc : (pid : ℕ) → K (plan_proc pid w)
  unfolding plan_proc
  tells-proc pid =
      unless K refused w (was_used pid w.processes) UsedPid
      (Possible (record idle { started = Some (record { pid = pid; ignores = ignores_none }) })) (λ _. quiet _ refl tt)

  tells-exec : (pid : ℕ) → K (plan_exec pid w)
  unfolding plan_exec
  tells-exec pid = unless_gone K refused w pid (Possible (record idle { hints = noted pid exec_note ∷ [] })) (λ _. quiet _ refl tt)

  tells-sigset : (pid signal : ℕ) (ignore : Bool) → K (plan_sigset pid signal ignore w)
  unfolding plan_sigset
  tells-sigset pid signal ignore =
      let does : Planned = Possible (record idle { disposed = Some (record { pid = pid; signal = signal; ignore = ignore }) }) in
      unless_gone K refused w pid (if not (is_signal signal) then Impossible TooMany else does)
      (λ _. unless K refused w (not (is_signal signal)) TooMany does (λ _. quiet _ refl tt))

  tells-sig : (pid signal : ℕ) → K (plan_sig pid signal w)
  unfolding plan_sig
  tells-sig pid signal =
      let does : Planned = Possible (record idle { hints = delivery pid signal (ignored_by (process_of pid w.processes) signal) }) in
      unless_gone K refused w pid (if not (is_signal signal) then Impossible TooMany else does)
      (λ _. unless K refused w (not (is_signal signal)) TooMany does (λ _. quiet _ refl tt))

  not_back : (moment now : ℕ) → nat_lt moment now ≡ false → now ≤ moment
  not_back moment now later = grind (arith, nat_tests)

  tells-clock : (moment : ℤ) → K (plan_clock_at moment w)
  unfolding plan_clock_at plan_clock
  tells-clock (pos moment) =
      unless K refused w (nat_lt moment w.now) ClockBack
      (Possible (record idle { clock = Some (record { from = w.now; to = moment }) })) (λ later. quiet _ refl (refl, not_back moment w.now later))
  tells-clock (negsuc n) = refused ClockBack

  tells-kqueue : (pid fd : ℕ) → K (plan_kqueue pid fd w)
  unfolding plan_kqueue named_by
  tells-kqueue pid fd =
      let does : Planned = Possible (record idle { born = Some (record { pid = pid; number = fd }) }) in
      unless_gone K refused w pid (if is_some (named_among pid fd w.table) then Impossible UsedDescriptor else does)
      (λ _. unless K refused w (is_some (named_among pid fd w.table)) UsedDescriptor does (λ _. quiet _ refl tt))

  call-tells : (changes : List Change) (room : ℕ) (n : Named) → K (plan_call changes room n)
  unfolding plan_call
  call-tells changes room (named.Kqueue at) =
      unless K refused w (nat_lt most_changes (length changes) || nat_lt most_room room) TooMany
      (Possible (record idle { call = Some (record { kqueue = at; changes = changes; room = room }) })) (λ _. quiet _ refl tt)
  call-tells changes room (named.Socket at) = refused _
  call-tells changes room (named.PipeRead at) = refused _
  call-tells changes room (named.PipeWrite at) = refused _
  call-tells changes room (named.Open at number) = refused _

  tells-kevent : (pid fd : ℕ) (changes : List Change) (room : ℕ) → K (plan_kevent pid fd changes room w)
  unfolding plan_kevent
  tells-kevent pid fd changes room = on_descriptor-holds K refused w pid fd (plan_call changes room) (λ n _ _. call-tells changes room n)

  -- ---- descriptors

  tells-close : (pid fd : ℕ) → K (plan_close pid fd w)
  unfolding plan_close
  tells-close pid fd =
      on_descriptor-holds K refused w pid fd (λ n. Possible (record idle {
        closed = record { pid = pid; number = fd } ∷ [];
        doings = release_doings n w.objects;
        hints = option_list (release_hint n w.objects);
      })) (λ n _ _. record {
        tells = λ c l calm. (
          λ t _. release-tells n w.objects t,
          calm-all (release_doings n w.objects) w.objects (release-none n w.objects),
          tt,
        );
      })

  other_number : (a b q fd to : ℕ) → eqb fd to ≡ false → (eqb a q && eqb b to) ≡ true → (eqb a q && eqb b fd) ≡ false
  other_number a b q fd to apart gone =
      by_test (λ x. (eqb a q && eqb b fd) ≡ x → x ≡ false) (eqb a q && eqb b fd)
      (λ _ both. absurd (true≢false (sym (eq-eqb fd to (sym (eqb-true b fd (second (eqb a q) (eqb b fd) both)) ∙ eqb-true b to (second (eqb a q) (eqb b to) gone))) ∙ apart)))
      (λ _ _. refl) refl
    where
      second : (x y : Bool) → (x && y) ≡ true → y ≡ true
      second true y e = e
      second false y e = absurd (true≢false (sym e))

  -- the numbers but for one
  named-other : (pid fd to : ℕ) (es : List Descriptor) → eqb fd to ≡ false
      → named_among pid fd (without_closed (record { pid = pid; number = to } ∷ []) es) ≡ named_among pid fd es
  unfolding named_among
  named-other pid fd to [] apart = refl
  named-other pid fd to (d ∷ ds) apart =
      let rest = without_closed (record { pid = pid; number = to } ∷ []) ds in
      ap (λ b. named_among pid fd (cond (not b) (d ∷ rest) rest)) (has_pair-one pid to d.pid d.number)
      ∙ by_test (λ b. (eqb d.pid pid && eqb d.number to) ≡ b
      → named_among pid fd (cond (not b) (d ∷ rest) rest) ≡ named_among pid fd (d ∷ ds)) (eqb d.pid pid && eqb d.number to)
      (λ _ gone. named-other pid fd to ds apart
      ∙ sym (ap (λ b. cond b (Some d.named) (named_among pid fd ds)) (other_number d.pid d.number pid fd to apart gone)))
      (λ _ _. ap (λ x. cond (eqb d.pid pid && eqb d.number fd) (Some d.named) x) (named-other pid fd to ds apart)) refl

  module _ (pid fd to : ℕ) (n : Named) (found : named_among pid fd w.table ≡ Some n) (apart : eqb fd to ≡ false) (c : IsCountedWorld place w) where
    shared-tells : (x : Option Named) → named_among pid to w.table ≡ x → (t : Target)
        → Tells w.objects (close_doings x w.objects ++ hold_doings n) (close_hints x w.objects) t
    unfolding close_doings close_hints
    shared-tells None none t = hold-tells n w.objects (names_of w.table) c.counts (named-among pid fd n w.table found) [] t
    shared-tells (Some old) is t = λ side mark silent e.
        let left_open : List Descriptor = without_closed (record { pid = pid; number = to } ∷ []) w.table in
        release-tells old w.objects t side mark silent
        (ap (λ x. shown side mark (view_of t x)) (sym (release-counted old w.objects))
        ∙ hold-tells n (release old w.objects) (names_of left_open)
        (counted-fewer old w.objects (names_of w.table) (names_of left_open) (λ m. times-without m old pid to w.table c.rising is) c.counts)
        (named-among pid fd n left_open (named-other pid fd to w.table apart ∙ found))
        [] t side mark refl
        (ap (λ x. shown side mark (view_of t (all_done (hold_doings n) x))) (release-counted old w.objects)
        ∙ ap (λ x. shown side mark (view_of t x)) (sym (all_done-append (release_doings old w.objects) (hold_doings n) w.objects))
        ∙ e))

    closed-none : (x : Option Named) → has_arrival (close_doings x w.objects) ≡ false
    unfolding close_doings
    closed-none None = refl
    closed-none (Some old) = release-none old w.objects

  module _ (pid fd to : ℕ) where
    abbrev shares : Named → Plan
    shares n = record idle {
      closed = closes pid to (named_among pid to w.table);
      opened = record { pid = pid; number = to; named = n } ∷ [];
      doings = close_doings (named_among pid to w.table) w.objects ++ hold_doings n;
      hints = close_hints (named_among pid to w.table) w.objects;
    }

    sharing-tells : (n : Named) → named_among pid fd w.table ≡ Some n → K (if fd == to then Possible idle else Possible (shares n))
    sharing-tells n found =
        by_test (λ b. eqb fd to ≡ b → K (if b then Possible idle else Possible (shares n))) (fd == to)
        (λ _ _. quiet idle refl tt)
        (λ _ apart. record {
          tells = λ c l calm. (
            λ t _. shared-tells pid fd to n found apart c (named_among pid to w.table) refl t,
            calm-all (close_doings (named_among pid to w.table) w.objects ++ hold_doings n) w.objects
                (shared-none n (close_doings (named_among pid to w.table) w.objects) (closed-none pid fd to n found apart c (named_among pid to w.table))),
            tt,
          );
        }) refl

    duplicated-tells : (n : Named) → named_among pid fd w.table ≡ Some n → K (duplicated pid fd to w n)
    unfolding duplicated named_by
    duplicated-tells (named.Kqueue at) found = refused _
    duplicated-tells (named.Socket at) found = sharing-tells (named.Socket at) found
    duplicated-tells (named.PipeRead at) found = sharing-tells (named.PipeRead at) found
    duplicated-tells (named.PipeWrite at) found = sharing-tells (named.PipeWrite at) found
    duplicated-tells (named.Open at number) found = sharing-tells (named.Open at number) found

    tells-dup : K (plan_dup pid fd to w)
    unfolding plan_dup
    tells-dup = on_descriptor-holds K refused w pid fd (duplicated pid fd to w) (λ n _ found. duplicated-tells n found)

  -- ---- all descriptors of a process

  all-named : (es : List Descriptor) → All (λ (d : Descriptor). IsNamed d.named (names_of es)) es
  all-named [] = All-nil (λ (d : Descriptor). IsNamed d.named [])
  all-named (d ∷ ds) =
      All-cons (λ (x : Descriptor). IsNamed x.named (names_of (d ∷ ds))) d ds (named_first d.named (names_of ds))
      (All-weaker (λ (x : Descriptor). IsNamed x.named (names_of ds)) (λ (x : Descriptor). IsNamed x.named (names_of (d ∷ ds)))
      (λ x. more_named x.named d.named (names_of ds)) ds (all-named ds))

  tells-fork : (pid child : ℕ) → K (plan_fork pid child w)
  unfolding plan_fork
  tells-fork pid child =
      let ds : List Descriptor = inherited pid child w.table in
      let forks : Planned = Possible (record idle {
        opened = ds;
        doings = hold_all (names_of ds);
        hints = forked pid child;
        started = Some (record { pid = child; ignores = ignored_by (process_of pid w.processes) });
      }) in
      unless_gone K refused w pid (if was_used child w.processes then Impossible UsedPid else forks)
      (λ _. unless K refused w (was_used child w.processes) UsedPid forks (λ _. record {
        tells = λ c l calm. (
          λ t _. hold_all-tells (names_of ds) w.objects (names_of w.table) c.counts
              (All-map (λ n. IsNamed n (names_of w.table)) (λ (d : Descriptor). d.named) ds
              (inherited-all (λ n. IsNamed n (names_of w.table)) pid child w.table (all-named w.table))) (forked pid child) t,
          calm-all (hold_all (names_of ds)) w.objects (hold_all-none (names_of ds)),
          tt,
        );
      }))

  tells-exit : (pid status : ℕ) → K (plan_exit pid status w)
  unfolding plan_exit
  tells-exit pid status =
      let ds : List Descriptor = descriptors_of pid w.table in
      unless_gone K refused w pid (Possible (record idle {
        closed = pairs_of ds;
        doings = release_all (names_of ds) w.objects;
        hints = release_hints (names_of ds) w.objects ++ noted pid exit_note ∷ [];
        ended = Some (record { pid = pid; status = status });
      })) (λ _. record {
        tells = λ c l calm. (
          λ t _ side mark silent e. release_all-tells (names_of ds) w.objects t side mark
              (told-either side t (release_hints (names_of ds) w.objects) (noted pid exit_note ∷ []) silent).0 e,
          calm-all (release_all (names_of ds) w.objects) w.objects (release_all-none (names_of ds) w.objects),
          tt,
        );
      })

  -- ---- records about objects

  abbrev Acts : object.Planned → Type 0
  Acts planned = (IsCountedWorld place w → AreListed w.objects → AreCalm w.objects → TellsAll w.objects planned) × CalmAll w.objects planned

  with_objects-tells : (ds : List Descriptor) (planned : object.Planned) → Acts planned → K (with_objects ds planned)
  unfolding with_objects
  with_objects-tells ds (Err why) acts = refused why
  with_objects-tells ds (Ok p) acts = record { tells = λ c l calm. (acts.0 c l calm, acts.1, tt) }

  tells-act : (a : Act) (ds : List Descriptor) → K (plan_act place ds a w)
  unfolding plan_act
  tells-act a ds =
      with_objects-tells ds (object_planning.plan place a w.objects)
      ((λ c l calm. act-tells w.objects l calm place (free-next place w c) a), act-calm w.objects place a)

  tells-at : (pid fd : ℕ) (at : Named → Act) → K (plan_at place pid fd at w)
  unfolding plan_at
  tells-at pid fd at = on_descriptor-holds K refused w pid fd (λ n. plan_act place [] (at n) w) (λ n _ _. tells-act (at n) [])

  tells-socket : (pid fd receive send : ℕ) → K (plan_socket place pid fd receive send w)
  unfolding plan_socket
  tells-socket pid fd receive send =
      let made : Planned = plan_act place (descriptor pid fd (named.Socket place) ∷ []) (act.Socket receive send) w in
      if_live-holds K refused w pid (unless_open pid (fd ∷ []) w made)
      (λ _. unless_open-holds K refused w pid (fd ∷ []) made (λ _. tells-act (act.Socket receive send) (descriptor pid fd (named.Socket place) ∷ [])))

  tells-accept : (pid fd to receive send : ℕ) → K (plan_accept place pid fd to receive send w)
  unfolding plan_accept
  tells-accept pid fd to receive send =
      let made : Named → Planned = λ n. plan_act place (descriptor pid to (named.Socket place) ∷ []) (act.Accept n receive send) w in
      on_descriptor-holds K refused w pid fd (λ n. unless_open pid (to ∷ []) w (made n))
      (λ n _ _. unless_open-holds K refused w pid (to ∷ []) (made n) (λ _. tells-act (act.Accept n receive send) (descriptor pid to (named.Socket place) ∷ [])))

  tells-open : (pid fd file : ℕ) (mode : Mode) → K (plan_open place pid fd file mode w)
  unfolding plan_open
  tells-open pid fd file mode =
      let made : Planned = plan_act place (descriptor pid fd (named.Open place file) ∷ []) (act.Open file mode) w in
      if_live-holds K refused w pid (unless_open pid (fd ∷ []) w made)
      (λ _. unless_open-holds K refused w pid (fd ∷ []) made (λ _. tells-act (act.Open file mode) (descriptor pid fd (named.Open place file) ∷ [])))

  tells-pipe : (pid read_fd write_fd cap : ℕ) → K (plan_pipe place pid read_fd write_fd cap w)
  unfolding plan_pipe
  tells-pipe pid read_fd write_fd cap =
      let made : Planned = plan_act place (pipe_ends place pid read_fd write_fd) (act.Pipe cap) w in
      let unless_used : Planned = unless_open pid (read_fd ∷ write_fd ∷ []) w made in
      if_live-holds K refused w pid (if read_fd == write_fd then Impossible UsedDescriptor else unless_used)
      (λ _. unless K refused w (read_fd == write_fd) UsedDescriptor unless_used
      (λ _. unless_open-holds K refused w pid (read_fd ∷ write_fd ∷ []) made (λ _. tells-act (act.Pipe cap) (pipe_ends place pid read_fd write_fd))))

  pub tells-record : (e : Event) → K (plan place e w)
  unfolding plan
  tells-record (event.Proc pid) = tells-proc pid
  tells-record (event.Fork pid child) = tells-fork pid child
  tells-record (event.Exit pid status) = tells-exit pid status
  tells-record (event.Kqueue pid fd) = tells-kqueue pid fd
  tells-record (event.Dup pid fd to) = tells-dup pid fd to
  tells-record (event.Close pid fd) = tells-close pid fd
  tells-record (event.Socket pid fd receive send) = tells-socket pid fd receive send
  tells-record (event.Listen pid fd backlog) = tells-at pid fd (λ on. act.Listen on backlog)
  tells-record (event.Arrive pid fd) = tells-at pid fd act.Arrive
  tells-record (event.Accept pid fd to receive send) = tells-accept pid fd to receive send
  tells-record (event.Connect pid fd) = tells-at pid fd act.Connect
  tells-record (event.Rx pid fd n) = tells-at pid fd (λ on. act.Receive on n)
  tells-record (event.Tx pid fd n) = tells-at pid fd (λ on. act.Transmit on n)
  tells-record (event.Shut pid fd side error) = tells-at pid fd (λ on. act.Shut on side error)
  tells-record (event.Lowat pid fd side n) = tells-at pid fd (λ on. act.LowWater on side n)
  tells-record (event.Pipe pid read_fd write_fd size) = tells-pipe pid read_fd write_fd size
  tells-record (event.Read pid fd n) = tells-at pid fd (λ on. act.Read on n)
  tells-record (event.Write pid fd n) = tells-at pid fd (λ on. act.Write on n)
  tells-record (event.Exec pid) = tells-exec pid
  tells-record (event.Sigset pid sig ignore) = tells-sigset pid sig ignore
  tells-record (event.Sig pid sig) = tells-sig pid sig
  tells-record (event.File file size) = tells-act (act.File file size) []
  tells-record (event.Open pid fd file mode) = tells-open pid fd file mode
  tells-record (event.Seek pid fd offset) = tells-at pid fd (λ on. act.Seek on offset)
  tells-record (event.Truncate file size) = tells-act (act.Truncate file size) []
  tells-record (event.Note file note) = tells-act (act.Note file note) []
  tells-record (event.Clock ns) = tells-clock ns
  tells-record (event.Kevent pid fd changes room) = tells-kevent pid fd changes room
