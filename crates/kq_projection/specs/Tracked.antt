-- The world and what was seen of it, as far as a trace was gone through.
use Rattle.std.specs.Prelude.{◌≡◌, ℕ, List, length, Result, Ok, Err}
use Rattle.kq_model.specs.declared.event.Event.{Event}
use Rattle.kq_model.specs.declared.why.Why.{Why}
use Rattle.kq_model.specs.ListedFiles.{AreListed}
use Rattle.kq_model.specs.Objects.{counted}
use Rattle.kq_model.specs.Targets.{Posted}
use Rattle.kq_model.specs.Views.{Views}
use Rattle.kq_model.specs.World as model
use Rattle.kq_model.specs.World.{views_of}
use Rattle.kq_process.specs.World.{last_of, world_of}
use Rattle.kq_process.specs.declared.effect.Effect.{Effect}
use Rattle.kq_process.specs.declared.world.World.{World}
use Rattle.kq_projection.specs.declared.history.seen.Seen.{Seen}
use Rattle.kq_projection.specs.Noted.{AreAllUpTo, IsNextWorld}
use Rattle.kq_projection.specs.Seen.{seen_by, Shows}
use Rattle.kq_projection.specs.Touched.{touched_numbers, touched_targets}
use Rattle.kq_projection.specs.Traced.{Traced, seen_at, world_at_end}

-- this is the world after all of the records
pub record IsWorldAfter (t : Traced) (w : World) : Type 0 where
  pub world : world_of w ≡ world_at_end t
  pub last : last_of w ≡ length t.events
  pub listed : AreListed (world_of w).objects

-- and this is what was seen of the worlds up to it
pub record IsTracked (t : Traced) (w : World) (s : Seen) : Type 0 where
  pub after : IsWorldAfter t w
  pub shows : Shows (seen_at t) (seen_by s)
  pub up_to : AreAllUpTo (length t.events) s

-- ---- one record more, with the worlds before it and after it

-- all that it touches was noted: where what is seen goes on with the world after it, that is shown now
abbrev pub IsNoted : ℕ → Event → List (ℕ × ℕ) → List Posted → model.World counted
    → model.World counted → (ℕ → Views)
    → (ℕ → Views) → Type 0
IsNoted place e closed hints before after old new =
    (worlds next : ℕ → Views)
    → IsNextWorld place (views_of before) (views_of after) (touched_numbers e closed after)
    (touched_targets e closed hints (views_of before) (views_of after)) worlds next
    → Shows worlds old → Shows next new

abbrev pub IsFollowedBy : ℕ → Event → Result (Unit {0}) Why → List (ℕ × ℕ) → List Posted
    → model.World counted
    → model.World counted → Seen → Seen → Type 0
IsFollowedBy place e (Err why) closed hints before after old new = new ≡ old
IsFollowedBy place e (Ok done) closed hints before after old new =
    AreAllUpTo place new × IsNoted place e closed hints before after (seen_by old) (seen_by new)

-- of an impossible record nothing is noted
abbrev pub IsFollowed : ℕ → Event → Effect → model.World counted → model.World counted → Seen → Seen
    → Type 0
IsFollowed place e effect before after old new =
    IsFollowedBy place e effect.verdict effect.closed effect.hints before after old new
