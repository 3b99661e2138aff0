-- Each record keeps each file's list of its open descriptions whole, in a world whose objects count the
-- descriptors that name them.
use Rattle.std.proofs.Common.{◌≡◌, ◌∙◌, ℕ, ◌==◌, nat_lt, Bool, true, false, cond, not, ◌&&◌, ◌||◌, eqb, length, List, [], ◌∷◌, ◌++◌, Option, Some, None, Ok, Err, refl, sym, ap, subst, arith, if◌then◌else◌}
use Rattle.std.proofs.lemmas.Bool.Decides.{nat_tests}
use Rattle.std.proofs.lemmas.List.Elements.{All-nil, All-cons, All-map, All-weaker}
use Rattle.std.specs.Option.{is_some}
use Rattle.std.specs.Prelude.{All}
use Rattle.kq_model.specs.declared.act.Act.{Act}
use Rattle.kq_model.specs.declared.act.Act.TheVariants as act
use Rattle.kq_model.specs.declared.change.Change.{Change}
use Rattle.kq_model.specs.declared.mode.Mode.{Mode}
use Rattle.kq_model.specs.declared.object.Named.{Named}
use Rattle.kq_model.specs.declared.object.Named.TheVariants as named
use Rattle.kq_model.specs.declared.why.Why.{Why}
use Rattle.kq_model.specs.declared.why.Why.TheVariants.{UsedPid, UsedDescriptor, ClockBack, TooMany}
use Rattle.kq_model.specs.Bits.{exec_note, exit_note}
use Rattle.kq_model.specs.CountedWorld.{IsCountedWorld}
use Rattle.kq_model.specs.Descriptors.{Descriptor, named_among, without_closed}
use Rattle.kq_model.specs.DescriptorPlans.{close_doings, close_hints, closes, duplicated, plan_call, plan_close, plan_dup, plan_kevent, plan_kqueue}
use Rattle.kq_model.specs.Holding.{hold_doings, release, release_all, release_doings, release_hint, release_hints, option_list}
use Rattle.kq_model.specs.Holders.{hold, IsNamed}
use Rattle.kq_model.specs.Limits.{most_changes, most_room}
use Rattle.kq_model.specs.ListedFiles.{AreListed, KeepsLists}
use Rattle.kq_model.specs.ObjectPlan as object
use Rattle.kq_model.specs.ObjectRecordPlans.{descriptor, pipe_ends, plan_accept, plan_act, plan_at, plan_open, plan_pipe, plan_socket, unless_open, with_objects}
use Rattle.kq_model.specs.Objects.{counted, all_done}
use Rattle.kq_model.specs.Planning as object_planning
use Rattle.kq_model.specs.Processes.{ignored_by, ignores_none, process_of, was_used}
use Rattle.kq_model.specs.ProcessPlans.{delivery, descriptors_of, forked, hold_all, inherited, is_signal, names_of, noted, pairs_of, plan_clock, plan_exec, plan_exit, plan_fork, plan_proc, plan_sig, plan_sigset}
use Rattle.kq_model.specs.World.{World, Planned, Impossible, Possible, carried_out, empty_world, idle, named_by}
use Rattle.kq_model.proofs.CountedTables.{has_pair-one, inherited-all, one_pair, times-without}
use Rattle.kq_model.proofs.CountedWorld.{hold_all-done}
use Rattle.kq_model.proofs.HeldNames.{counted-fewer}
use Rattle.kq_model.proofs.KnoteLaws.{by_test}
use Rattle.kq_model.proofs.ListedObjects.{listed-all_held, listed-all_released, listed-hold, listed-none, listed-release, IsReady}
use Rattle.kq_model.proofs.ListedPlans.{listed-plan}
use Rattle.kq_model.proofs.NamedWorld.{free-place, more_named, named_first, named-among}
use Rattle.kq_model.proofs.PlanReasons.{if_live-holds, on_descriptor-holds, unless, unless_gone, unless_open-holds}
use Rattle.kq_model.proofs.ReleasedAll.{all_done-append, release-counted, release_all-done}

pub listed-empty : AreListed (empty_world counted).objects
listed-empty = listed-none

refused : (place : ℕ) (w : World counted) (why : Why) → KeepsLists place w (Impossible why)
refused place w why = record { keeps = λ c l. tt }

-- ---- nothing is noted

pub listed-proc : (place pid : ℕ) (w : World counted) → KeepsLists place w (plan_proc pid w)
unfolding plan_proc carried_out all_done
listed-proc place pid w =
    unless (KeepsLists place w) (refused place w) w (was_used pid w.processes) UsedPid
    (Possible (record idle { started = Some (record { pid = pid; ignores = ignores_none }) })) (λ _. record { keeps = λ c l. l })

pub listed-exec : (place pid : ℕ) (w : World counted) → KeepsLists place w (plan_exec pid w)
unfolding plan_exec carried_out all_done
listed-exec place pid w =
    unless_gone (KeepsLists place w) (refused place w) w pid (Possible (record idle { hints = noted pid exec_note ∷ [] })) (λ _. record { keeps = λ c l. l })

pub listed-sigset : (place pid signal : ℕ) (ignore : Bool) (w : World counted) → KeepsLists place w (plan_sigset pid signal ignore w)
unfolding plan_sigset carried_out all_done
listed-sigset place pid signal ignore w =
    let does : Planned = Possible (record idle { disposed = Some (record { pid = pid; signal = signal; ignore = ignore }) }) in
    unless_gone (KeepsLists place w) (refused place w) w pid (if not (is_signal signal) then Impossible TooMany else does)
    (λ _. unless (KeepsLists place w) (refused place w) w (not (is_signal signal)) TooMany does (λ _. record { keeps = λ c l. l }))

pub listed-sig : (place pid signal : ℕ) (w : World counted) → KeepsLists place w (plan_sig pid signal w)
unfolding plan_sig carried_out all_done
listed-sig place pid signal w =
    let heard : Planned = Possible (record idle { hints = delivery pid signal (ignored_by (process_of pid w.processes) signal) }) in
    unless_gone (KeepsLists place w) (refused place w) w pid (if not (is_signal signal) then Impossible TooMany else heard)
    (λ _. unless (KeepsLists place w) (refused place w) w (not (is_signal signal)) TooMany heard (λ _. record { keeps = λ c l. l }))

pub listed-clock : (place moment : ℕ) (w : World counted) → KeepsLists place w (plan_clock moment w)
unfolding plan_clock carried_out all_done
listed-clock place moment w =
    unless (KeepsLists place w) (refused place w) w (nat_lt moment w.now) ClockBack (Possible (record idle { clock = Some (record { from = w.now; to = moment }) }))
    (λ _. record { keeps = λ c l. l })

pub listed-kqueue : (place pid fd : ℕ) (w : World counted) → KeepsLists place w (plan_kqueue pid fd w)
unfolding plan_kqueue carried_out all_done
listed-kqueue place pid fd w =
    let made : Planned = Possible (record idle { born = Some (record { pid = pid; number = fd }) }) in
    unless_gone (KeepsLists place w) (refused place w) w pid (if is_some (named_by pid fd w) then Impossible UsedDescriptor else made)
    (λ _. unless (KeepsLists place w) (refused place w) w (is_some (named_by pid fd w)) UsedDescriptor made (λ _. record { keeps = λ c l. l }))

call-lists : (place : ℕ) (w : World counted) (changes : List Change) (room : ℕ) (n : Named) → KeepsLists place w (plan_call changes room n)
unfolding plan_call carried_out all_done
call-lists place w changes room (named.Kqueue at) =
    unless (KeepsLists place w) (refused place w) w (nat_lt most_changes (length changes) || nat_lt most_room room) TooMany
    (Possible (record idle { call = Some (record { kqueue = at; changes = changes; room = room }) })) (λ _. record { keeps = λ c l. l })
call-lists place w changes room _ = record { keeps = λ c l. tt }

pub listed-kevent : (place pid fd : ℕ) (changes : List Change) (room : ℕ) (w : World counted) → KeepsLists place w (plan_kevent pid fd changes room w)
unfolding plan_kevent
listed-kevent place pid fd changes room w =
    on_descriptor-holds (KeepsLists place w) (refused place w) w pid fd (plan_call changes room) (λ n live found. call-lists place w changes room n)

-- ---- descriptors are closed and shared

pub listed-close : (place pid fd : ℕ) (w : World counted) → KeepsLists place w (plan_close pid fd w)
unfolding plan_close carried_out
listed-close place pid fd w =
    on_descriptor-holds (KeepsLists place w) (refused place w) w pid fd (λ n. Possible (record idle {
      closed = record { pid = pid; number = fd } ∷ [];
      doings = release_doings n w.objects;
      hints = option_list (release_hint n w.objects);
    })) (λ n live found. record { keeps = λ c l. subst AreListed (release-counted n w.objects) (listed-release n w.objects l) })

-- a number that is not the one that is closed
other_number : (p n q a b : ℕ) → eqb a b ≡ false → (eqb p q && eqb n b) ≡ true → (eqb p q && eqb n a) ≡ false
other_number p n q a b = grind (arith, nat_tests)

named_among-other : (pid fd to : ℕ) (es : List Descriptor) → eqb fd to ≡ false → named_among pid fd (without_closed (one_pair pid to) es) ≡ named_among pid fd es
unfolding named_among
named_among-other pid fd to [] apart = refl
named_among-other pid fd to (e ∷ es) apart =
    ap (λ b. named_among pid fd (cond (not b) (e ∷ without_closed (one_pair pid to) es) (without_closed (one_pair pid to) es))) (has_pair-one pid to e.pid e.number)
    ∙ by_test (λ b. (eqb e.pid pid && eqb e.number to) ≡ b
    → named_among pid fd (cond (not b) (e ∷ without_closed (one_pair pid to) es) (without_closed (one_pair pid to) es)) ≡ named_among pid fd (e ∷ es)) (eqb e.pid pid && eqb e.number to)
    (λ _ gone. named_among-other pid fd to es apart
    ∙ sym (ap (λ b. cond b (Some e.named) (named_among pid fd es)) (other_number e.pid e.number pid fd to apart gone)))
    (λ _ _. ap (λ x. cond (eqb e.pid pid && eqb e.number fd) (Some e.named) x) (named_among-other pid fd to es apart)) refl

module _ (place pid fd to : ℕ) (n : Named) (w : World counted) (found : named_among pid fd w.table ≡ Some n) (apart : eqb fd to ≡ false) (c : IsCountedWorld place w) (l : AreListed w.objects) where
  shared-lists : (x : Option Named) → named_among pid to w.table ≡ x → AreListed (all_done (close_doings x w.objects ++ hold_doings n) w.objects)
  unfolding close_doings hold
  shared-lists None is = listed-hold n w.objects (names_of w.table) c.counts (named-among pid fd n w.table found) l
  shared-lists (Some old) is =
      let left_open : List Descriptor = without_closed (one_pair pid to) w.table in
      let now : hold n (release old w.objects) ≡ all_done (release_doings old w.objects ++ hold_doings n) w.objects =
      ap (all_done (hold_doings n)) (release-counted old w.objects) ∙ sym (all_done-append (release_doings old w.objects) (hold_doings n) w.objects) in
      subst AreListed now
      (listed-hold n (release old w.objects) (names_of left_open)
      (counted-fewer old w.objects (names_of w.table) (names_of left_open) (λ m. times-without m old pid to w.table c.rising is) c.counts)
      (named-among pid fd n left_open (named_among-other pid fd to w.table apart ∙ found))
      (listed-release old w.objects l))

module _ (place pid fd to : ℕ) (w : World counted) where
  -- of what is no kqueue
  abbrev shares : Named → Planned
  shares n = Possible (record idle {
    closed = closes pid to (named_among pid to w.table);
    opened = record { pid = pid; number = to; named = n } ∷ [];
    doings = close_doings (named_among pid to w.table) w.objects ++ hold_doings n;
    hints = close_hints (named_among pid to w.table) w.objects;
  })

  sharing-lists : (n : Named) → named_among pid fd w.table ≡ Some n → KeepsLists place w (if fd == to then Possible idle else shares n)
  unfolding carried_out all_done
  sharing-lists n found =
      by_test (λ b. eqb fd to ≡ b → KeepsLists place w (if b then Possible idle else shares n)) (fd == to)
      (λ _ _. record { keeps = λ c l. l })
      (λ _ apart. record { keeps = λ c l. shared-lists place pid fd to n w found apart c l (named_among pid to w.table) refl }) refl

  duplicated-lists : (n : Named) → named_among pid fd w.table ≡ Some n → KeepsLists place w (duplicated pid fd to w n)
  unfolding duplicated named_by
  duplicated-lists (named.Kqueue at) found = record { keeps = λ c l. tt }
  duplicated-lists n found = sharing-lists n found

pub listed-dup : (place pid fd to : ℕ) (w : World counted) → KeepsLists place w (plan_dup pid fd to w)
unfolding plan_dup
listed-dup place pid fd to w =
    on_descriptor-holds (KeepsLists place w) (refused place w) w pid fd (duplicated pid fd to w) (λ n live found. duplicated-lists place pid fd to w n found)

-- ---- all descriptors of a process

all-named : (es : List Descriptor) → All (λ (d : Descriptor). IsNamed d.named (names_of es)) es
all-named [] = All-nil (λ (d : Descriptor). IsNamed d.named [])
all-named (e ∷ es) =
    All-cons (λ (d : Descriptor). IsNamed d.named (names_of (e ∷ es))) e es (named_first e.named (names_of es))
    (All-weaker (λ (d : Descriptor). IsNamed d.named (names_of es)) (λ (d : Descriptor). IsNamed d.named (names_of (e ∷ es)))
    (λ d. more_named d.named e.named (names_of es)) es (all-named es))

pub listed-fork : (place pid child : ℕ) (w : World counted) → KeepsLists place w (plan_fork pid child w)
unfolding plan_fork carried_out
listed-fork place pid child w =
    let ds : List Descriptor = inherited pid child w.table in
    let forks : Planned = Possible (record idle {
      opened = ds;
      doings = hold_all (names_of ds);
      hints = forked pid child;
      started = Some (record { pid = child; ignores = ignored_by (process_of pid w.processes) });
    }) in
    unless_gone (KeepsLists place w) (refused place w) w pid (if was_used child w.processes then Impossible UsedPid else forks)
    (λ _. unless (KeepsLists place w) (refused place w) w (was_used child w.processes) UsedPid forks (λ _. record {
      keeps = λ c l. subst AreListed (sym (hold_all-done (names_of ds) w.objects))
          (listed-all_held (names_of ds) w.objects (names_of w.table) c.counts
          (All-map (λ n. IsNamed n (names_of w.table)) (λ (d : Descriptor). d.named) ds (inherited-all (λ n. IsNamed n (names_of w.table)) pid child w.table (all-named w.table))) l);
    }))

pub listed-exit : (place pid status : ℕ) (w : World counted) → KeepsLists place w (plan_exit pid status w)
unfolding plan_exit carried_out
listed-exit place pid status w =
    let ds : List Descriptor = descriptors_of pid w.table in
    unless_gone (KeepsLists place w) (refused place w) w pid (Possible (record idle {
      closed = pairs_of ds;
      doings = release_all (names_of ds) w.objects;
      hints = release_hints (names_of ds) w.objects ++ noted pid exit_note ∷ [];
      ended = Some (record { pid = pid; status = status });
    })) (λ _. record { keeps = λ c l. subst AreListed (sym (release_all-done (names_of ds) w.objects)) (listed-all_released (names_of ds) w.objects l) })

-- ---- records about objects

-- what the record of a place needs of the objects
ready : (place : ℕ) (w : World counted) → IsCountedWorld place w → IsReady place w.objects
ready place w c = record {
  held = c.held.description;
  fresh = λ q later. (free-place place q w later c).description;
}

with_objects-lists : (place : ℕ) (w : World counted) (a : Act) (ds : List Descriptor) (planned : object.Planned)
    → object_planning.plan place a w.objects ≡ planned → KeepsLists place w (with_objects ds planned)
unfolding with_objects carried_out
with_objects-lists place w a ds (Err why) is = record { keeps = λ c l. tt }
with_objects-lists place w a ds (Ok p) is = record { keeps = λ c l. listed-plan place a w.objects p is (ready place w c) l }

pub listed-act : (place : ℕ) (a : Act) (ds : List Descriptor) (w : World counted) → KeepsLists place w (plan_act place ds a w)
unfolding plan_act
listed-act place a ds w = with_objects-lists place w a ds (object_planning.plan place a w.objects) refl

pub listed-at : (place pid fd : ℕ) (at : Named → Act) (w : World counted) → KeepsLists place w (plan_at place pid fd at w)
unfolding plan_at
listed-at place pid fd at w =
    on_descriptor-holds (KeepsLists place w) (refused place w) w pid fd (λ n. plan_act place [] (at n) w) (λ n live found. listed-act place (at n) [] w)

pub listed-socket_record : (place pid fd receive send : ℕ) (w : World counted) → KeepsLists place w (plan_socket place pid fd receive send w)
unfolding plan_socket
listed-socket_record place pid fd receive send w =
    let made : Planned = plan_act place (descriptor pid fd (named.Socket place) ∷ []) (act.Socket receive send) w in
    if_live-holds (KeepsLists place w) (refused place w) w pid (unless_open pid (fd ∷ []) w made)
    (λ _. unless_open-holds (KeepsLists place w) (refused place w) w pid (fd ∷ []) made
    (λ _. listed-act place (act.Socket receive send) (descriptor pid fd (named.Socket place) ∷ []) w))

pub listed-accept : (place pid fd to receive send : ℕ) (w : World counted) → KeepsLists place w (plan_accept place pid fd to receive send w)
unfolding plan_accept
listed-accept place pid fd to receive send w =
    let made : Named → Planned = λ n. plan_act place (descriptor pid to (named.Socket place) ∷ []) (act.Accept n receive send) w in
    on_descriptor-holds (KeepsLists place w) (refused place w) w pid fd (λ n. unless_open pid (to ∷ []) w (made n))
    (λ n _ _. unless_open-holds (KeepsLists place w) (refused place w) w pid (to ∷ []) (made n)
    (λ _. listed-act place (act.Accept n receive send) (descriptor pid to (named.Socket place) ∷ []) w))

pub listed-open : (place pid fd file : ℕ) (mode : Mode) (w : World counted) → KeepsLists place w (plan_open place pid fd file mode w)
unfolding plan_open
listed-open place pid fd file mode w =
    let made : Planned = plan_act place (descriptor pid fd (named.Open place file) ∷ []) (act.Open file mode) w in
    if_live-holds (KeepsLists place w) (refused place w) w pid (unless_open pid (fd ∷ []) w made)
    (λ _. unless_open-holds (KeepsLists place w) (refused place w) w pid (fd ∷ []) made
    (λ _. listed-act place (act.Open file mode) (descriptor pid fd (named.Open place file) ∷ []) w))

pub listed-pipe_record : (place pid read_fd write_fd cap : ℕ) (w : World counted) → KeepsLists place w (plan_pipe place pid read_fd write_fd cap w)
unfolding plan_pipe
listed-pipe_record place pid read_fd write_fd cap w =
    let made : Planned = plan_act place (pipe_ends place pid read_fd write_fd) (act.Pipe cap) w in
    let unless_used : Planned = unless_open pid (read_fd ∷ write_fd ∷ []) w made in
    if_live-holds (KeepsLists place w) (refused place w) w pid (if read_fd == write_fd then Impossible UsedDescriptor else unless_used)
    (λ _. unless (KeepsLists place w) (refused place w) w (read_fd == write_fd) UsedDescriptor unless_used
    (λ _. unless_open-holds (KeepsLists place w) (refused place w) w pid (read_fd ∷ write_fd ∷ []) made
    (λ _. listed-act place (act.Pipe cap) (pipe_ends place pid read_fd write_fd) w)))
