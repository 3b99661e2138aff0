-- What was seen of a world after each place, by its marks; and when that is what a trace's worlds show.
use Rattle.std.specs.Prelude.{◌≡◌, ◌≤◌, ℕ, Bool, List, [], Option, None}
use Rattle.std.specs.HashMap.{HashMap}
use Rattle.kq_model.specs.declared.object.Named.{Named}
use Rattle.kq_model.specs.declared.object.Target.{Target}
use Rattle.kq_model.specs.Ticks.{last_moment}
use Rattle.kq_model.specs.Views.{Views}
use Rattle.kq_projection.specs.declared.history.seen.Seen.{Seen}
use Rattle.kq_projection.specs.declared.history.timeline.Mark.{Mark}
use Rattle.kq_projection.specs.Keys.{pair_eq, target_key}
use Rattle.kq_projection.specs.Timeline.{value_at}
use Rattle.kq_projection.specs.Timelines.{marks_at}
use Rattle.kq_projection.specs.Touched.{targets_left}

-- what the marks give at a place; before all marks the world was empty
abbrev pub seen_by : Seen → ℕ → Views
seen_by s place = record {
  view = λ t. value_at place None (marks_at target_key s.views.table t);
  descriptor = λ pid number. value_at place None (marks_at pair_eq s.numbers.table (pid, number));
  now = value_at place 0 s.clock;
}

-- of what a number names by its marks at a place, what may have ended
abbrev pub left_at : {S : Type 0} → HashMap (ℕ × ℕ) (List (Mark (Option Named))) S → ℕ → Bool
    → ℕ × ℕ → List Target
left_at table place tells p = targets_left tells (value_at place None (marks_at pair_eq table p))

-- at every place what was seen is what these worlds show, whose clock is within its range
pub record Shows (worlds seen : ℕ → Views) : Type 0 where
  pub view : (place : ℕ) (t : Target) → (seen place).view t ≡ (worlds place).view t
  pub descriptor : (place pid number : ℕ)
      → (seen place).descriptor pid number ≡ (worlds place).descriptor pid number
  pub now : (place : ℕ) → (seen place).now ≡ (worlds place).now
  pub within : (place : ℕ) → (worlds place).now ≤ last_moment

-- nothing was seen yet
pub record IsBlank (s : Seen) : Type 0 where
  pub numbers : (key : ℕ × ℕ) → marks_at pair_eq s.numbers.table key ≡ []
  pub views : (t : Target) → marks_at target_key s.views.table t ≡ []
  pub clock : s.clock ≡ []
