-- What jobs gave, and what becomes of a run where it fails.
use Rattle.std.specs.Prelude.{◌≡◌, ℕ, ◌<◌, ◌≤◌, ◌⊎◌, List, [], ◌∷◌, length}
use Rattle.std.specs.Prelude.{slice_get, Option}
use Rattle.std.specs.Prelude.{Some}
use Rattle.kq_jobs.specs.declared.worker.Ran.{Ran}
use Rattle.kq_jobs.specs.declared.fault.RunFault.{RunFault}
use Rattle.kq_jobs.specs.declared.fault.RunFault.TheVariants.{Workers, Memory, Spawn}

module _ {T : Type 0} (gives : ℕ → T → Type 0) where
  -- each of these is an outcome of the job whose number it has
  abbrev pub AreRan : List (Ran T) → Type 0
  AreRan [] = Unit {0}
  AreRan (r ∷ rs) = gives r.number r.outcome × AreRan rs

  -- a slot for each of n jobs, which is empty or has an outcome of its job
  pub record FitSlots (n : ℕ) (slots : List (Option T)) : Type 0 where
    pub count : length slots ≡ n
    pub each : (i : ℕ) (outcome : T) → slice_get slots i ≡ Some (Some outcome) → gives i outcome

  -- one outcome for each of n jobs, in the order of their numbers
  pub record AreOutcomes (n : ℕ) (outcomes : List T) : Type 0 where
    pub count : length outcomes ≡ n
    pub each : (i : ℕ) (outcome : T) → slice_get outcomes i ≡ Some outcome → gives i outcome

-- the start of a worker is refused only where there is one to be started
abbrev pub IsStartFault : ℕ → ℕ → RunFault → Type 0
IsStartFault worker workers Workers = ⊥
IsStartFault worker workers Memory = Unit {0}
IsStartFault worker workers Spawn = worker ≤ workers

-- Workers where their number is out of range, and else another fault. No worker is started by one
-- worker, nor for one job.
abbrev pub IsRunFault : ℕ → ℕ → RunFault → Type 0
IsRunFault count workers Workers = (workers ≡ 0) ⊎ (256 < workers)
IsRunFault count workers Memory = (1 ≤ workers) × (workers ≤ 256)
IsRunFault count workers Spawn = (2 ≤ workers) × (workers ≤ 256) × (2 ≤ count)
