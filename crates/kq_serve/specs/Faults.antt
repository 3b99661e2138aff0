-- Why steps were not served.
use Rattle.std.specs.Prelude.{◌≢◌, ◌≤◌, ℕ}
use Rattle.kq_lock.specs.declared.error.TurnError.TheVariants.{Busy}
use Rattle.kq_serve.specs.declared.error.ServeError.{ServeError}
use Rattle.kq_serve.specs.declared.error.ServeError.TheVariants.{Call, Spawn}

-- each call waits for its turn, and one thread alone is never started
abbrev pub IsServeFault : ℕ → ServeError → Type 0
IsServeFault threads (Call refused) = refused ≢ Busy
IsServeFault threads Spawn = 2 ≤ threads
