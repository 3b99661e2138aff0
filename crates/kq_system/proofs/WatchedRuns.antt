-- Over a whole run: READ, WRITE and VNODE knotes watch what their numbers name.
use Rattle.std.proofs.Common.{◌+◌, ℕ, List, [], ◌∷◌, sym, subst}
use Rattle.kq_model.specs.declared.event.Event.{Event}
use Rattle.kq_model.specs.CountedWorld.{IsCountedWorld, KeepsCounts}
use Rattle.kq_model.specs.Hearing.{Hearing, listed}
use Rattle.kq_model.specs.Objects as objects
use Rattle.kq_model.specs.Objects.{Keeping, counted}
use Rattle.kq_model.specs.Plans.{plan}
use Rattle.kq_model.specs.System.{System, empty_system, step, step_by}
use Rattle.kq_model.specs.WatchedNumbers.{AllWatchTheirNumbers, AlwaysWatchTheirNumbers}
use Rattle.kq_model.specs.World.{World, Planned, Impossible, Possible, seen_world}
use Rattle.kq_model.proofs.CountedObjects.{CountsAll, listed-counts}
use Rattle.kq_model.proofs.CountedSteps.{counted-empty}
use Rattle.kq_model.proofs.SeenWorld.{seen-carried_out}
use Rattle.kq_model.proofs.WatchedNumbers.{empty-watched, step-watched}
use Rattle.kq_process.proofs.Applied.{counted-record}
use Rattle.kq_system.proofs.StepLemmas.{counted_later}

module _ {S A B C D : Type 0} {h : Hearing S} {k : Keeping A B C D} (counts : CountsAll k) where
  counted_by : (place : ℕ) (planned : Planned) (s : System h k) → KeepsCounts place (seen_world s.world) planned
      → IsCountedWorld place (seen_world s.world)
      → IsCountedWorld (place + 1) (seen_world (step_by place planned s).system.world)
  unfolding step_by
  counted_by place (Impossible why) s keeps c = counted_later place (seen_world s.world) c
  counted_by place (Possible p) s keeps c =
      subst (λ (w : World counted). IsCountedWorld (place + 1) w) (sym (seen-carried_out counts place p s.world))
      (keeps.keeps c)

  counted_step : (place : ℕ) (e : Event) (s : System h k) → IsCountedWorld place (seen_world s.world)
      → IsCountedWorld (place + 1) (seen_world (step place e s).system.world)
  unfolding step
  counted_step place e s c =
      counted_by place (plan place e (seen_world s.world)) s (counted-record place (seen_world s.world) e) c

  always_watched : (place : ℕ) (s : System h k) (es : List Event) → IsCountedWorld place (seen_world s.world)
      → AllWatchTheirNumbers s → AlwaysWatchTheirNumbers place s es
  unfolding AlwaysWatchTheirNumbers
  always_watched place s [] c watch = watch
  always_watched place s (e ∷ es) c watch =
      let after = counted_step place e s c in
      (watch, always_watched (place + 1) (step place e s).system es after (step-watched place e s after.rising watch))

-- of a whole trace, with all that was heard and all that was noted of objects
pub always_watched_from_none : (version : ℕ) (es : List Event)
    → AlwaysWatchTheirNumbers 1 (empty_system {h = listed} {k = objects.listed} version) es
always_watched_from_none version es =
    always_watched {h = listed} listed-counts 1 (empty_system version) es counted-empty
    (empty-watched listed objects.listed version)
