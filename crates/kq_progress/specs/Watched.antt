-- What a reader that is watched still has.
use Rattle.std.specs.Prelude.{ℕ, List, Option}
use Rattle.kq_progress.specs.declared.watched.Watched.{Watched}

-- what the reader within has
abbrev pub watched_remaining : {I C W : Type 0} → (I → Option (List ℕ)) → Watched I C W → Option (List ℕ)
watched_remaining remaining w = remaining w.inner
