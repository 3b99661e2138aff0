-- What is noted at a place: of the keys that a record touches, what is read of the world after it.
use Rattle.std.specs.Prelude.{◌≡◌, ℕ, false, List, nat_lt, if◌then◌else◌}
use Rattle.kq_model.specs.declared.object.Target.{Target}
use Rattle.kq_model.specs.Views.{Views}
use Rattle.kq_projection.specs.declared.history.seen.Seen.{Seen}
use Rattle.kq_projection.specs.Keys.{pair_eq, target_key}
use Rattle.kq_projection.specs.Timeline.{IsUpTo}
use Rattle.kq_projection.specs.Timelines.{AreUpTo}
use Rattle.kq_projection.specs.Touched.{has_number, has_target}

-- nothing was noted behind a place
pub record AreAllUpTo (place : ℕ) (s : Seen) : Type 0 where
  pub numbers : AreUpTo pair_eq place s.numbers.table
  pub views : AreUpTo target_key place s.views.table
  pub clock : IsUpTo place s.clock

-- from `place` on the world is another one, `after` in place of `before`, which differs in these numbers and targets at
-- most
pub record IsNextWorld (place : ℕ) (before after : Views) (numbers : List (ℕ × ℕ)) (targets : List Target)
    (worlds next : ℕ → Views) : Type 0 where
  pub earlier : (at : ℕ) → next at ≡ (if nat_lt at place then worlds at else after)
  pub stood : (at : ℕ) → nat_lt at place ≡ false → worlds at ≡ before
  pub same_numbers : (pid number : ℕ) → has_number pid number numbers ≡ false
      → after.descriptor pid number ≡ before.descriptor pid number
  pub same_views : (t : Target) → has_target t targets ≡ false → after.view t ≡ before.view t
