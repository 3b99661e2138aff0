-- How many threads may replay, and how many may run a trace on a live system (this project's choice).
use Rattle.std.specs.Prelude.{◌≤◌, ℕ}

abbrev pub IsWorkerCount : ℕ → Type 0
IsWorkerCount workers = (1 ≤ workers) × (workers ≤ 256)

abbrev pub IsThreadCount : ℕ → Type 0
IsThreadCount threads = (1 ≤ threads) × (threads ≤ 64)
