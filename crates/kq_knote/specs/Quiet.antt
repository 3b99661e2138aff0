-- A span of the clock in which no timer expires.
use Rattle.std.specs.Prelude.{ℕ, ◌<◌, ◌≤◌, List}
use Rattle.std.specs.List.{AllByRecursion}
use Rattle.kq_model.specs.Clock.{expires_at}
use Rattle.kq_model.specs.Tallied.{Knote}
use Rattle.kq_model.specs.NextTicks.{next_tick}

-- after `since` none of these knotes expires before `soonest`
abbrev pub AreQuiet : ℕ → ℕ → List Knote → Type 0
AreQuiet since soonest knotes = AllByRecursion (λ k. soonest ≤ next_tick (expires_at k) since) knotes

-- each of them expires first after `from` only after `to`
abbrev pub AreLater : ℕ → ℕ → List Knote → Type 0
AreLater from to knotes = AllByRecursion (λ k. to < next_tick (expires_at k) from) knotes
