-- The plans of the records about processes, signals and the clock, each with its reasons in their order.
-- Source: fork(2), execve(2), exit(3), sigaction(2), kill(2); NOTE_FORK, NOTE_EXEC and NOTE_EXIT of
-- kqueue(2). What is impossible is this project's choice.
use Rattle.std.specs.Prelude.{ℕ, ℤ, pos, negsuc, ◌==◌, Bool, true, false, not, ◌&&◌, List, []}
use Rattle.std.specs.Prelude.{◌∷◌, ◌++◌, map, nat_lt}
use Rattle.std.specs.Prelude.{Some, if◌then◌else◌}
use Rattle.std.specs.List.{filter}
use Rattle.kq_model.specs.declared.doing.Doing.{Doing}
use Rattle.kq_model.specs.declared.object.Hint.TheVariants as hint
use Rattle.kq_model.specs.declared.object.Named.{Named}
use Rattle.kq_model.specs.declared.object.Named.TheVariants as named
use Rattle.kq_model.specs.declared.object.Target.TheVariants as target
use Rattle.kq_model.specs.declared.why.Why.TheVariants.{NoProcess, UsedPid, ClockBack, TooMany}
use Rattle.kq_model.specs.Bits.{fork_note, exec_note, exit_note}
use Rattle.kq_model.specs.Close.{Pair}
use Rattle.kq_model.specs.Descriptors.{Descriptor}
use Rattle.kq_model.specs.Holding.{hold_doings, release_all, release_hints}
use Rattle.kq_model.specs.Limits.{most_signal}
use Rattle.kq_model.specs.Objects.{counted}
use Rattle.kq_model.specs.Processes.{was_used, is_live, process_of, ignores_none, ignored_by}
use Rattle.kq_model.specs.Targets.{Posted}
use Rattle.kq_model.specs.World.{World, Planned, Impossible, Possible, idle}

-- ---- descriptors of one process

-- in rising order of numbers
abbrev pub descriptors_of : ℕ → List Descriptor → List Descriptor
descriptors_of pid table = filter (λ (d : Descriptor). d.pid == pid) table

abbrev pub pairs_of : List Descriptor → List Pair
pairs_of ds = map (λ (d : Descriptor). record { pid = d.pid; number = d.number }) ds

abbrev pub names_of : List Descriptor → List Named
names_of ds = map (λ (d : Descriptor). d.named) ds

unfoldable pub is_kqueue : Named → Bool
is_kqueue (named.Kqueue place) = true
is_kqueue _ = false

-- the descriptors that name no kqueue
abbrev pub inheritable : List Descriptor → List Descriptor
inheritable ds = filter (λ (d : Descriptor). not (is_kqueue d.named)) ds

-- a child has copies of these
abbrev pub inherited : ℕ → ℕ → List Descriptor → List Descriptor
inherited pid child table =
    map (λ (d : Descriptor). record d { pid = child }) (inheritable (descriptors_of pid table))

unfoldable pub hold_all : List Named → List Doing
hold_all [] = []
hold_all (n ∷ ns) = hold_doings n ++ hold_all ns

-- ---- processes

abbrev pub noted : ℕ → ℕ → Posted
noted pid note = (target.Process pid, hint.Note note)

-- the fork, and then the child
abbrev pub forked : ℕ → ℕ → List Posted
forked pid child = noted pid fork_note ∷ (target.Process pid, hint.Child child) ∷ []

unfoldable pub plan_proc : ℕ → World counted → Planned
plan_proc pid w =
    if was_used pid w.processes then Impossible UsedPid
    else Possible (record idle { started = Some (record { pid = pid; ignores = ignores_none }) })

unfoldable pub plan_fork : ℕ → ℕ → World counted → Planned
plan_fork pid child w =
    if not (is_live pid w.processes) then Impossible NoProcess
    else if was_used child w.processes then Impossible UsedPid
    else Possible (record idle {
      opened = inherited pid child w.table;
      doings = hold_all (names_of (inherited pid child w.table));
      hints = forked pid child;
      started = Some (record { pid = child; ignores = ignored_by (process_of pid w.processes) });
    })

unfoldable pub plan_exec : ℕ → World counted → Planned
plan_exec pid w =
    if not (is_live pid w.processes) then Impossible NoProcess
    else Possible (record idle { hints = noted pid exec_note ∷ [] })

-- all descriptors are closed in rising order
unfoldable pub plan_exit : ℕ → ℕ → World counted → Planned
plan_exit pid status w =
    if not (is_live pid w.processes) then Impossible NoProcess
    else Possible (record idle {
      closed = pairs_of (descriptors_of pid w.table);
      doings = release_all (names_of (descriptors_of pid w.table)) w.objects;
      hints = release_hints (names_of (descriptors_of pid w.table)) w.objects ++ noted pid exit_note ∷ [];
      ended = Some (record { pid = pid; status = status });
    })

-- ---- signals

unfoldable pub is_signal : ℕ → Bool
is_signal signal = nat_lt 0 signal && not (nat_lt most_signal signal)

unfoldable pub plan_sigset : ℕ → ℕ → Bool → World counted → Planned
plan_sigset pid signal ignore w =
    if not (is_live pid w.processes) then Impossible NoProcess
    else if not (is_signal signal) then Impossible TooMany
    else Possible (record idle { disposed = Some (record { pid = pid; signal = signal; ignore = ignore }) })

-- SIGCHLD
abbrev pub child_signal : ℕ
child_signal = 20

-- a knote hears of a signal also where the process ignores it, but for SIGCHLD
unfoldable pub delivery : ℕ → ℕ → Bool → List Posted
delivery pid signal ignored =
    if (signal == child_signal) && ignored then [] else (target.Signal pid signal, hint.Delivered) ∷ []

unfoldable pub plan_sig : ℕ → ℕ → World counted → Planned
plan_sig pid signal w =
    if not (is_live pid w.processes) then Impossible NoProcess
    else if not (is_signal signal) then Impossible TooMany
    else Possible (record idle { hints = delivery pid signal (ignored_by (process_of pid w.processes) signal) })

-- ---- the clock

-- to a moment in ns; it may stay where it is
unfoldable pub plan_clock : ℕ → World counted → Planned
plan_clock moment w =
    if nat_lt moment w.now then Impossible ClockBack
    else Possible (record idle { clock = Some (record { from = w.now; to = moment }) })

-- The moment of a record is a number with a sign. Text has none below 0, but a trace that was made in code may; the
-- clock begins at 0, so each of those is behind it.
unfoldable pub plan_clock_at : ℤ → World counted → Planned
plan_clock_at (pos moment) w = plan_clock moment w
plan_clock_at (negsuc _) w = Impossible ClockBack
