-- The processes of a world, by rising pid: each pid that was ever used, live or gone, with the signals
-- that it ignores.
-- Source: fork(2), exit(3), sigaction(2); that no pid is used again is this project's choice.
use Rattle.std.specs.Prelude.{ℕ, ◌==◌, nat_lt, Bool, false, ◌&&◌, List, [], ◌∷◌, map, Option}
use Rattle.std.specs.Prelude.{Some, None, if◌then◌else◌}
use Rattle.std.specs.List.{list_any}
use Rattle.std.specs.Option.{is_none}

-- a pid that was used, with the exit status once the process is gone
pub record Process : Type 0 where
  pub pid : ℕ
  pub exited : Option ℕ
  -- whether it ignores a signal
  pub ignores : ℕ → Bool

-- a process that starts, with the signals that it ignores from the start
pub record Start : Type 0 where
  pub pid : ℕ
  pub ignores : ℕ → Bool

-- a process that exits, with its status
pub record Exit : Type 0 where
  pub pid : ℕ
  pub status : ℕ

-- a process that begins to ignore a signal, or ceases to
pub record Disposition : Type 0 where
  pub pid : ℕ
  pub signal : ℕ
  pub ignore : Bool

-- ---- questions

unfoldable pub was_used : ℕ → List Process → Bool
was_used pid ps = list_any (λ (p : Process). p.pid == pid) ps

unfoldable pub is_live : ℕ → List Process → Bool
is_live pid ps = list_any (λ (p : Process). (p.pid == pid) && is_none p.exited) ps

-- the process of a pid, live or gone
unfoldable pub process_of : ℕ → List Process → Option Process
process_of pid [] = None
process_of pid (p ∷ ps) = if p.pid == pid then Some p else process_of pid ps

-- at first no signal is ignored
abbrev pub ignores_none : ℕ → Bool
ignores_none signal = false

unfoldable pub ignored_by : Option Process → ℕ → Bool
ignored_by None signal = false
ignored_by (Some p) signal = p.ignores signal

-- ---- changes

abbrev pub started : Start → Process
started s = record { pid = s.pid; exited = None; ignores = s.ignores }

-- before the first of a greater pid
unfoldable pub with_start : Start → List Process → List Process
with_start s [] = started s ∷ []
with_start s (p ∷ ps) = if nat_lt s.pid p.pid then started s ∷ p ∷ ps else p ∷ with_start s ps

unfoldable pub with_process : Option Start → List Process → List Process
with_process None ps = ps
with_process (Some s) ps = with_start s ps

unfoldable pub without_process : Option Exit → List Process → List Process
without_process None ps = ps
without_process (Some e) ps =
    map (λ (p : Process). if p.pid == e.pid then record p { exited = Some e.status } else p) ps

-- the one signal is ignored from now on, or no longer; the others as before
abbrev pub disposed : ℕ → Bool → (ℕ → Bool) → ℕ → Bool
disposed signal ignore ignores s = if s == signal then ignore else ignores s

unfoldable pub with_disposition : Option Disposition → List Process → List Process
with_disposition None ps = ps
with_disposition (Some d) ps =
    map (λ (p : Process). if p.pid == d.pid then record p { ignores = disposed d.signal d.ignore p.ignores } else p) ps
