-- Each READ, WRITE or VNODE knote watches what its number names now: the number is open in the process that
-- owns the kqueue, and what it names is the knote's target (kqueue(2): idents of these filters are descriptors).
use Rattle.std.specs.Prelude.{◌≡◌, ℕ, ◌+◌, false, List, [], ◌∷◌, Some, All}
use Rattle.kq_model.specs.declared.event.Event.{Event}
use Rattle.kq_model.specs.declared.object.Named.{Named}
use Rattle.kq_model.specs.Close.{Pair, has_pair}
use Rattle.kq_model.specs.Hearing.{Hearing}
use Rattle.kq_model.specs.Kqueue.{Kqueue}
use Rattle.kq_model.specs.NamedTargets.{IsNamed}
use Rattle.kq_model.specs.Objects.{Keeping}
use Rattle.kq_model.specs.Subjects.{HaveSubjects}
use Rattle.kq_model.specs.System.{Live, System, step}
use Rattle.kq_model.specs.Views.{Views}
use Rattle.kq_model.specs.World.{seen_world, views_of}

-- but for those that were closed, each open number of this process names after a record what it named before
abbrev pub LeavesOpen : Views → Views → ℕ → List Pair → Type 0
LeavesOpen before after owner closed =
    (number : ℕ) (named : Named) → has_pair owner number closed ≡ false
    → before.descriptor owner number ≡ Some named
    → after.descriptor owner number ≡ Some named

module _ {S : Type 0} {h : Hearing S} where
  -- in a kqueue of this owner, in this world
  abbrev pub WatchTheirNumbers : Views → ℕ → Kqueue h → Type 0
  WatchTheirNumbers views owner kq = HaveSubjects (IsNamed views owner) kq.knotes

  -- in each live kqueue, in the world as it is now
  abbrev pub AllWatchTheirNumbers : {A B C D : Type 0} {k : Keeping A B C D} → System h k → Type 0
  AllWatchTheirNumbers s = All (λ (l : Live h). WatchTheirNumbers (views_of (seen_world s.world)) l.owner l.kq) s.live

-- at the beginning of a run, whose next record has this place, and after each of its records
unfoldable pub AlwaysWatchTheirNumbers : {S A B C D : Type 0} {h : Hearing S} {k : Keeping A B C D} → ℕ
    → System h k → List Event → Type 0
AlwaysWatchTheirNumbers place s [] = AllWatchTheirNumbers s
AlwaysWatchTheirNumbers place s (e ∷ es) =
    AllWatchTheirNumbers s × AlwaysWatchTheirNumbers (place + 1) (step place e s).system es
