-- What comes of a kqueue: when a timer of it expires next, and whether an event is delivered of a knote.
use Rattle.std.specs.Prelude.{◌≡◌, ℕ, ◌<◌, ◌≤◌, Bool, true, false, List, Option, Some, None, is_some}
use Rattle.std.specs.Option.{option_and_then}
use Rattle.kq_model.specs.declared.key.Key.{Key}
use Rattle.kq_model.specs.Clock.{expires_at}
use Rattle.kq_model.specs.Knote.{find_knote}
use Rattle.kq_model.specs.Look.{look}
use Rattle.kq_model.specs.Tallied.{Knote}
use Rattle.kq_model.specs.Ticks.{last_moment}
use Rattle.kq_model.specs.Views.{Views}

-- none of the knotes expires at this moment
abbrev pub IsSilent : List Knote → ℕ → Type 0
IsSilent knotes moment =
    (k : Knote) → find_knote k.key knotes ≡ Some k → expires_at k moment ≡ false

-- at this moment one of the knotes expires, and none between `now` and it
pub record IsNextExpiry (now : ℕ) (knotes : List Knote) (moment : ℕ) : Type 0 where
  pub after : now < moment
  pub within : moment ≤ last_moment
  pub timer : Knote
  pub registered : find_knote timer.key knotes ≡ Some timer
  pub expires : expires_at timer moment ≡ true
  pub first : (m : ℕ) → now < m → m < moment → IsSilent knotes m

-- the next moment after `now` at which a knote expires; none where none does up to the last moment of the clock
abbrev pub IsNextOf : ℕ → List Knote → Option ℕ → Type 0
IsNextOf now knotes None = (m : ℕ) → now < m → m ≤ last_moment → IsSilent knotes m
IsNextOf now knotes (Some moment) = IsNextExpiry now knotes moment

-- the condition of the key's knote holds
abbrev pub is_due : Views → List Knote → Key → Bool
is_due views knotes key = is_some (option_and_then (look views) (find_knote key knotes))
