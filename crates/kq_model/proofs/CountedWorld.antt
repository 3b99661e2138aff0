-- Each record about processes, signals, the clock and descriptors keeps that the objects count the
-- descriptors that name them: its plan, carried out in such a world, leads to such a world.
use Rattle.std.proofs.Common.{◌≡◌, ◌∙◌, ℕ, ℤ, ◌+◌, ◌<◌, ◌==◌, nat_lt, pos, negsuc, Bool, true, false, not, ◌||◌, eqb, length, List, [], ◌∷◌, ◌++◌, filter, Option, Some, None, refl, sym, ap, subst, arith, if◌then◌else◌}
use Rattle.std.proofs.lemmas.Bool.{eqb-true}
use Rattle.std.proofs.lemmas.List.Elements.{All-filter, All-weaker}
use Rattle.std.specs.Option.{is_some}
use Rattle.kq_model.specs.declared.change.Change.{Change}
use Rattle.kq_model.specs.declared.object.Named.{Named}
use Rattle.kq_model.specs.declared.object.Named.TheVariants as named
use Rattle.kq_model.specs.declared.why.Why.TheVariants.{UsedPid, UsedDescriptor, ClockBack, TooMany}
use Rattle.kq_model.specs.Bits.{exec_note, exit_note}
use Rattle.kq_model.specs.Close.{has_pair}
use Rattle.kq_model.specs.CountedWorld.{place_named, NamesBelow, IsOwned, IsCountedWorld, Keeps, KeepsCounts}
use Rattle.kq_model.specs.Descriptors.{Descriptor, IsRising, named_among, with_descriptor, with_descriptors, without_closed}
use Rattle.kq_model.specs.DescriptorPlans.{close_doings, close_hints, closes, duplicated, plan_call, plan_close, plan_dup, plan_kevent, plan_kqueue}
use Rattle.kq_model.specs.Holding.{hold_doings, option_list, release, release_doings, release_all, release_hint, release_hints}
use Rattle.kq_model.specs.Holders.{hold, is_same, one_if, all_held, times, IsCounted}
use Rattle.kq_model.specs.Limits.{most_changes, most_room}
use Rattle.kq_model.specs.Objects.{Objects, counted, all_done}
use Rattle.kq_model.specs.Processes.{Process, Start, Exit, Disposition, ignored_by, ignores_none, is_live, process_of, was_used, with_disposition, with_process, with_start, without_process}
use Rattle.kq_model.specs.ProcessPlans.{delivery, descriptors_of, forked, hold_all, inherited, is_signal, names_of, noted, pairs_of, plan_clock, plan_clock_at, plan_exec, plan_exit, plan_fork, plan_proc, plan_sig, plan_sigset}
use Rattle.kq_model.specs.World.{World, Plan, Planned, Impossible, Possible, carried_out, clock_after, idle, named_by, with_kqueue}
use Rattle.kq_model.proofs.CountedSteps.{below-here, further, impossible, one_higher, quiet, same_processes}
use Rattle.kq_model.proofs.CountedTables.{inherited-all, inherited-new, inherited-owned, named_among-all, named_among-closed, named_among-none, one_pair, times-parts, times-with_descriptor, times-with_descriptors, times-without, with_descriptors-rising, without_closed-nothing, without_closed-process}
use Rattle.kq_model.proofs.Descriptors.{with_descriptor-all, with_descriptor-rising, with_descriptors-all, without_closed-rising}
use Rattle.kq_model.proofs.FreePlaces.{held-all_done}
use Rattle.kq_model.proofs.HeldNames.{counted-more, counted-fewer, counted-all_held, counted-all_released, no-kqueue}
use Rattle.kq_model.proofs.KnoteLaws.{by_test}
use Rattle.kq_model.proofs.LiveProcesses.{live-started, live-with_disposition, live-with_start, owned-without_process, unused-live}
use Rattle.kq_model.proofs.PlanReasons.{no_name, on_descriptor-holds, unless, unless_gone}
use Rattle.kq_model.proofs.ReleasedAll.{all_done-append, release-counted, release_all-done}

pub counted-proc : (place pid : ℕ) (w : World counted) → KeepsCounts place w (plan_proc pid w)
unfolding plan_proc carried_out with_kqueue with_descriptors with_process without_process with_disposition clock_after all_done
counted-proc place pid w =
    let s : Start = record { pid = pid; ignores = ignores_none } in
    unless (KeepsCounts place w) (impossible place w) w (was_used pid w.processes) UsedPid (Possible (record idle { started = Some s }))
    (λ _. record { keeps = quiet place w (with_start s w.processes) w.now (λ p. live-with_start s p w.processes) })

pub counted-exec : (place pid : ℕ) (w : World counted) → KeepsCounts place w (plan_exec pid w)
unfolding plan_exec carried_out with_kqueue with_descriptors with_process without_process with_disposition clock_after all_done
counted-exec place pid w =
    unless_gone (KeepsCounts place w) (impossible place w) w pid (Possible (record idle { hints = noted pid exec_note ∷ [] })) (λ live. record { keeps = same_processes place w w.now })

pub counted-sigset : (place pid signal : ℕ) (ignore : Bool) (w : World counted) → KeepsCounts place w (plan_sigset pid signal ignore w)
unfolding plan_sigset carried_out with_kqueue with_descriptors with_process without_process clock_after all_done
counted-sigset place pid signal ignore w =
    let d : Disposition = record { pid = pid; signal = signal; ignore = ignore } in
    let does : Planned = Possible (record idle { disposed = Some d }) in
    unless_gone (KeepsCounts place w) (impossible place w) w pid (if not (is_signal signal) then Impossible TooMany else does)
    (λ _. unless (KeepsCounts place w) (impossible place w) w (not (is_signal signal)) TooMany does
    (λ _. record { keeps = quiet place w (with_disposition (Some d) w.processes) w.now (λ p live. live-with_disposition p d w.processes ∙ live) }))

pub counted-sig : (place pid signal : ℕ) (w : World counted) → KeepsCounts place w (plan_sig pid signal w)
unfolding plan_sig carried_out with_kqueue with_descriptors with_process without_process with_disposition clock_after all_done
counted-sig place pid signal w =
    let heard : Planned = Possible (record idle { hints = delivery pid signal (ignored_by (process_of pid w.processes) signal) }) in
    unless_gone (KeepsCounts place w) (impossible place w) w pid (if not (is_signal signal) then Impossible TooMany else heard)
    (λ _. unless (KeepsCounts place w) (impossible place w) w (not (is_signal signal)) TooMany heard (λ _. record { keeps = same_processes place w w.now }))

pub counted-clock : (place moment : ℕ) (w : World counted) → KeepsCounts place w (plan_clock moment w)
unfolding plan_clock carried_out with_kqueue with_descriptors with_process without_process with_disposition clock_after all_done
counted-clock place moment w =
    unless (KeepsCounts place w) (impossible place w) w (nat_lt moment w.now) ClockBack (Possible (record idle { clock = Some (record { from = w.now; to = moment }) }))
    (λ _. record { keeps = same_processes place w moment })

pub counted-clock_at : (place : ℕ) (moment : ℤ) (w : World counted) → KeepsCounts place w (plan_clock_at moment w)
unfolding plan_clock_at
counted-clock_at place (pos moment) w = counted-clock place moment w
counted-clock_at place (negsuc n) w = record { keeps = λ _. tt }

idle-keeps : (place : ℕ) (w : World counted) → KeepsCounts place w (Possible idle)
unfolding carried_out with_kqueue with_descriptors with_process without_process with_disposition clock_after all_done
idle-keeps place w = record { keeps = same_processes place w w.now }

call-keeps : (place : ℕ) (w : World counted) (changes : List Change) (room : ℕ) (n : Named) → KeepsCounts place w (plan_call changes room n)
unfolding plan_call carried_out with_kqueue with_descriptors with_process without_process with_disposition clock_after all_done
call-keeps place w changes room (named.Kqueue at) =
    unless (KeepsCounts place w) (impossible place w) w (nat_lt most_changes (length changes) || nat_lt most_room room) TooMany
    (Possible (record idle { call = Some (record { kqueue = at; changes = changes; room = room }) })) (λ _. record { keeps = same_processes place w w.now })
call-keeps place w changes room _ = record { keeps = λ c. tt }

pub counted-kevent : (place pid fd : ℕ) (changes : List Change) (room : ℕ) (w : World counted) → KeepsCounts place w (plan_kevent pid fd changes room w)
unfolding plan_kevent
counted-kevent place pid fd changes room w =
    on_descriptor-holds (KeepsCounts place w) (impossible place w) w pid fd (plan_call changes room) (λ n live found. call-keeps place w changes room n)

-- ---- a kqueue is made, which no object counts

zero_more : (k : ℕ) → k + 0 ≡ k
zero_more k = omega arith

uncounted : (place : ℕ) (m : Named) (k : ℕ) → k + one_if (is_same m (named.Kqueue place)) ≡ k
unfolding one_if
uncounted place m k = ap (λ b. k + one_if b) (no-kqueue m place) ∙ zero_more k

module _ (place pid fd : ℕ) (w : World counted) where
  abbrev born : Planned
  born = Possible (record idle { born = Some (record { pid = pid; number = fd }) })

  abbrev new : Descriptor
  new = record { pid = pid; number = fd; named = named.Kqueue place }

  born-keeps : is_live pid w.processes ≡ true → named_among pid fd w.table ≡ None → IsCountedWorld place w → Keeps place w born
  unfolding carried_out with_kqueue with_descriptors with_process without_process with_disposition clock_after all_done
  born-keeps live none c =
      let P : List Descriptor → Type 0 = λ t. IsCountedWorld (place + 1) (record { processes = w.processes; table = with_descriptor new t; objects = w.objects; now = w.now }) in
      subst P (sym (without_closed-nothing w.table)) (record {
        counts = λ m. c.counts m ∙ ap pos (sym (times-with_descriptor m new w.table ∙ uncounted place m (times m (names_of w.table))));
        held = c.held;
        rising = with_descriptor-rising new w.table none c.rising;
        owned = with_descriptor-all (IsOwned w.processes) new w.table live c.owned;
        below = with_descriptor-all (NamesBelow (place + 1)) new w.table (below-here place) (further place w.table c.below);
      })

pub counted-kqueue : (place pid fd : ℕ) (w : World counted) → KeepsCounts place w (plan_kqueue pid fd w)
unfolding plan_kqueue named_by
counted-kqueue place pid fd w =
    unless_gone (KeepsCounts place w) (impossible place w) w pid (if is_some (named_among pid fd w.table) then Impossible UsedDescriptor else born place pid fd w)
    (λ live. unless (KeepsCounts place w) (impossible place w) w (is_some (named_among pid fd w.table)) UsedDescriptor (born place pid fd w)
    (λ none. record { keeps = born-keeps place pid fd w live (no_name (named_among pid fd w.table) none) }))

-- ---- descriptors are closed and shared

module _ (place pid fd : ℕ) (w : World counted) where
  abbrev stays_open : List Descriptor
  stays_open = without_closed (one_pair pid fd) w.table

  abbrev closing : Named → Planned
  closing n = Possible (record idle {
    closed = one_pair pid fd;
    doings = release_doings n w.objects;
    hints = option_list (release_hint n w.objects);
  })

  close-keeps : (n : Named) → named_among pid fd w.table ≡ Some n → IsCountedWorld place w → Keeps place w (closing n)
  unfolding carried_out with_kqueue with_descriptors with_process without_process with_disposition clock_after
  close-keeps n found c = record {
    counts = subst (λ (o : Objects counted). IsCounted o (names_of stays_open)) (release-counted n w.objects)
        (counted-fewer n w.objects (names_of w.table) (names_of stays_open) (λ m. times-without m n pid fd w.table c.rising found) c.counts);
    held = held-all_done (release_doings n w.objects) w.objects c.held;
    rising = without_closed-rising (one_pair pid fd) w.table c.rising;
    owned = All-filter (λ (d : Descriptor). not (has_pair d.pid d.number (one_pair pid fd))) (IsOwned w.processes) w.table c.owned;
    below = All-filter (λ (d : Descriptor). not (has_pair d.pid d.number (one_pair pid fd))) (NamesBelow (place + 1)) w.table (further place w.table c.below);
  }

pub counted-close : (place pid fd : ℕ) (w : World counted) → KeepsCounts place w (plan_close pid fd w)
unfolding plan_close
counted-close place pid fd w =
    on_descriptor-holds (KeepsCounts place w) (impossible place w) w pid fd (closing place pid fd w) (λ n live found. record { keeps = close-keeps place pid fd w n found })

-- one more number names what a number names; the one that it was is closed before
module _ (place pid to : ℕ) (n : Named) (w : World counted) where
  abbrev copy : Descriptor
  copy = record { pid = pid; number = to; named = n }

  abbrev shares : Option Named → Plan
  shares x = record idle {
    closed = closes pid to x;
    opened = copy ∷ [];
    doings = close_doings x w.objects ++ hold_doings n;
  }

  opened_new : is_live pid w.processes ≡ true → place_named n < place → named_among pid to w.table ≡ None → IsCountedWorld place w
      → IsCountedWorld (place + 1) (carried_out place (shares None) w)
  unfolding carried_out with_kqueue with_descriptors with_process without_process with_disposition clock_after closes close_doings hold
  opened_new live lower none c =
      let P : List Descriptor → Type 0 = λ t. IsCountedWorld (place + 1) (record { processes = w.processes; table = with_descriptor copy t; objects = hold n w.objects; now = w.now }) in
      subst P (sym (without_closed-nothing w.table)) (record {
        counts = counted-more n w.objects (names_of w.table) (names_of (with_descriptor copy w.table)) (λ m. times-with_descriptor m copy w.table) c.counts;
        held = held-all_done (hold_doings n) w.objects c.held;
        rising = with_descriptor-rising copy w.table none c.rising;
        owned = with_descriptor-all (IsOwned w.processes) copy w.table live c.owned;
        below = with_descriptor-all (NamesBelow (place + 1)) copy w.table (one_higher (place_named n) place lower) (further place w.table c.below);
      })

  abbrev left_open : List Descriptor
  left_open = without_closed (one_pair pid to) w.table

  released_held : (old : Named) → hold n (release old w.objects) ≡ all_done (release_doings old w.objects ++ hold_doings n) w.objects
  unfolding hold
  released_held old =
      ap (all_done (hold_doings n)) (release-counted old w.objects)
      ∙ sym (all_done-append (release_doings old w.objects) (hold_doings n) w.objects)

  moved_onto : (old : Named) → is_live pid w.processes ≡ true → place_named n < place → named_among pid to w.table ≡ Some old → IsCountedWorld place w
      → IsCountedWorld (place + 1) (carried_out place (shares (Some old)) w)
  unfolding carried_out with_kqueue with_descriptors with_process without_process with_disposition clock_after closes close_doings
  moved_onto old live lower found c =
      record {
        counts = subst (λ (o : Objects counted). IsCounted o (names_of (with_descriptor copy left_open))) (released_held old)
            (counted-more n (release old w.objects) (names_of left_open) (names_of (with_descriptor copy left_open)) (λ m. times-with_descriptor m copy left_open)
            (counted-fewer old w.objects (names_of w.table) (names_of left_open) (λ m. times-without m old pid to w.table c.rising found) c.counts));
        held = held-all_done (release_doings old w.objects ++ hold_doings n) w.objects c.held;
        rising = with_descriptor-rising copy left_open (named_among-closed pid to w.table) (without_closed-rising (one_pair pid to) w.table c.rising);
        owned = with_descriptor-all (IsOwned w.processes) copy left_open live
            (All-filter (λ (d : Descriptor). not (has_pair d.pid d.number (one_pair pid to))) (IsOwned w.processes) w.table c.owned);
        below = with_descriptor-all (NamesBelow (place + 1)) copy left_open (one_higher (place_named n) place lower)
            (All-filter (λ (d : Descriptor). not (has_pair d.pid d.number (one_pair pid to))) (NamesBelow (place + 1)) w.table (further place w.table c.below));
      }

  shared : (x : Option Named) → is_live pid w.processes ≡ true → place_named n < place → named_among pid to w.table ≡ x → IsCountedWorld place w
      → IsCountedWorld (place + 1) (carried_out place (shares x) w)
  shared None = opened_new
  shared (Some old) = moved_onto old

module _ (place pid fd to : ℕ) (w : World counted) where
  lower : (n : Named) → named_among pid fd w.table ≡ Some n → IsCountedWorld place w → place_named n < place
  lower n found c = named_among-all (λ k. place_named k < place) pid fd n w.table c.below found

  -- of what is no kqueue
  sharing : (n : Named) → is_live pid w.processes ≡ true → named_among pid fd w.table ≡ Some n → KeepsCounts place w
      (if fd == to then Possible idle else Possible (record idle {
        closed = closes pid to (named_among pid to w.table);
        opened = record { pid = pid; number = to; named = n } ∷ [];
        doings = close_doings (named_among pid to w.table) w.objects ++ hold_doings n;
        hints = close_hints (named_among pid to w.table) w.objects;
      }))
  unfolding carried_out
  sharing n live found =
      by_test (λ b. KeepsCounts place w (if b then Possible idle else Possible (record idle {
        closed = closes pid to (named_among pid to w.table);
        opened = record { pid = pid; number = to; named = n } ∷ [];
        doings = close_doings (named_among pid to w.table) w.objects ++ hold_doings n;
        hints = close_hints (named_among pid to w.table) w.objects;
      }))) (fd == to) (λ _. idle-keeps place w)
      (λ _. record { keeps = λ c. shared place pid to n w (named_among pid to w.table) live (lower n found c) refl c })

  duplicated-keeps : (n : Named) → is_live pid w.processes ≡ true → named_among pid fd w.table ≡ Some n → KeepsCounts place w (duplicated pid fd to w n)
  unfolding duplicated named_by
  duplicated-keeps (named.Kqueue at) live found = record { keeps = λ c. tt }
  duplicated-keeps n live found = sharing n live found

pub counted-dup : (place pid fd to : ℕ) (w : World counted) → KeepsCounts place w (plan_dup pid fd to w)
unfolding plan_dup
counted-dup place pid fd to w =
    on_descriptor-holds (KeepsCounts place w) (impossible place w) w pid fd (duplicated pid fd to w) (duplicated-keeps place pid fd to w)

-- ---- all descriptors of a process

pub hold_all-done : (ns : List Named) (o : Objects counted) → all_done (hold_all ns) o ≡ all_held ns o
unfolding hold_all all_held hold all_done
hold_all-done [] o = refl
hold_all-done (n ∷ ns) o = all_done-append (hold_doings n) (hold_all ns) o ∙ hold_all-done ns (all_done (hold_doings n) o)

other_pid : (a b : ℕ) (ps : List Process) → is_live a ps ≡ true → is_live b ps ≡ false → eqb a b ≡ false
other_pid a b ps live none =
    by_test (λ t. eqb a b ≡ t → t ≡ false) (eqb a b)
    (λ _ same. let here : is_live a ps ≡ is_live b ps = ap (λ x. is_live x ps) (eqb-true a b same) in absurd (cc)) (λ _ _. refl) refl

module _ (place pid child : ℕ) (w : World counted) where
  abbrev start : Start
  start = record { pid = child; ignores = ignored_by (process_of pid w.processes) }

  abbrev passed_on : List Descriptor
  passed_on = inherited pid child w.table

  abbrev forks : Planned
  forks = Possible (record idle {
    opened = passed_on;
    doings = hold_all (names_of passed_on);
    hints = forked pid child;
    started = Some start;
  })

  childless : was_used child w.processes ≡ false → IsCountedWorld place w → (number : ℕ) → named_among child number w.table ≡ None
  childless unused c number =
      named_among-none child number w.table
      (All-weaker (IsOwned w.processes) (λ (d : Descriptor). eqb d.pid child ≡ false)
      (λ d live. other_pid d.pid child w.processes live (unused-live child w.processes unused)) w.table c.owned)

  fork-keeps : was_used child w.processes ≡ false → IsCountedWorld place w → Keeps place w forks
  unfolding carried_out with_kqueue with_process without_process with_disposition clock_after
  fork-keeps unused c =
      let P : List Descriptor → Type 0 = λ t. IsCountedWorld (place + 1)
      (record { processes = with_start start w.processes; table = with_descriptors passed_on t; objects = all_done (hold_all (names_of passed_on)) w.objects; now = w.now }) in
      subst P (sym (without_closed-nothing w.table)) (record {
        counts = subst (λ (o : Objects counted). IsCounted o (names_of (with_descriptors passed_on w.table))) (sym (hold_all-done (names_of passed_on) w.objects))
            (counted-all_held (names_of passed_on) w.objects (names_of w.table) (names_of (with_descriptors passed_on w.table)) (λ m. times-with_descriptors m passed_on w.table) c.counts);
        held = held-all_done (hold_all (names_of passed_on)) w.objects c.held;
        rising = with_descriptors-rising passed_on w.table (inherited-new pid child w.table c.rising (childless unused c)) c.rising;
        owned = with_descriptors-all (IsOwned (with_start start w.processes)) passed_on w.table
            (inherited-owned (λ x. is_live x (with_start start w.processes) ≡ true) pid child w.table (live-started start w.processes))
            (All-weaker (IsOwned w.processes) (IsOwned (with_start start w.processes)) (λ d. live-with_start start d.pid w.processes) w.table c.owned);
        below = with_descriptors-all (NamesBelow (place + 1)) passed_on w.table
            (inherited-all (λ n. place_named n < place + 1) pid child w.table (further place w.table c.below)) (further place w.table c.below);
      })

pub counted-fork : (place pid child : ℕ) (w : World counted) → KeepsCounts place w (plan_fork pid child w)
unfolding plan_fork
counted-fork place pid child w =
    unless_gone (KeepsCounts place w) (impossible place w) w pid (if was_used child w.processes then Impossible UsedPid else forks place pid child w)
    (λ live. unless (KeepsCounts place w) (impossible place w) w (was_used child w.processes) UsedPid (forks place pid child w) (λ unused. record { keeps = fork-keeps place pid child w unused }))

module _ (place pid status : ℕ) (w : World counted) where
  abbrev end : Exit
  end = record { pid = pid; status = status }

  abbrev own : List Descriptor
  own = descriptors_of pid w.table

  abbrev others : List Descriptor
  others = filter (λ (d : Descriptor). not (eqb d.pid pid)) w.table

  abbrev exits : Planned
  exits = Possible (record idle {
    closed = pairs_of own;
    doings = release_all (names_of own) w.objects;
    hints = release_hints (names_of own) w.objects ++ noted pid exit_note ∷ [];
    ended = Some end;
  })

  exit-keeps : IsCountedWorld place w → Keeps place w exits
  unfolding carried_out with_kqueue with_descriptors with_process with_disposition clock_after
  exit-keeps c =
      let P : List Descriptor → Type 0 = λ t. IsCountedWorld (place + 1)
      (record { processes = without_process (Some end) w.processes; table = t; objects = all_done (release_all (names_of own) w.objects) w.objects; now = w.now }) in
      subst P (sym (without_closed-process pid w.table)) (record {
        counts = subst (λ (o : Objects counted). IsCounted o (names_of others)) (sym (release_all-done (names_of own) w.objects))
            (counted-all_released (names_of own) w.objects (names_of w.table) (names_of others) (λ m. times-parts (λ (d : Descriptor). eqb d.pid pid) m w.table) c.counts);
        held = held-all_done (release_all (names_of own) w.objects) w.objects c.held;
        rising = subst IsRising (without_closed-process pid w.table) (without_closed-rising (pairs_of own) w.table c.rising);
        owned = owned-without_process end w.processes w.table c.owned;
        below = All-filter (λ (d : Descriptor). not (eqb d.pid pid)) (NamesBelow (place + 1)) w.table (further place w.table c.below);
      })

pub counted-exit : (place pid status : ℕ) (w : World counted) → KeepsCounts place w (plan_exit pid status w)
unfolding plan_exit
counted-exit place pid status w = unless_gone (KeepsCounts place w) (impossible place w) w pid (exits place pid status w) (λ live. record { keeps = exit-keeps place pid status w })
