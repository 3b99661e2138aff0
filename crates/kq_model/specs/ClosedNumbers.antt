-- The law of close: after a record no kqueue has a READ, WRITE or VNODE knote of a number that the record closed
-- in its process, also where a duplicate stays open (kqueue(2): a close removes the kevents of the descriptor).
use Rattle.std.specs.Prelude.{◌≡◌, ℕ, ◌+◌, List, [], ◌∷◌, All}
use Rattle.kq_model.specs.declared.event.Event.{Event}
use Rattle.kq_model.specs.Close.{Pair, IsNotClosed}
use Rattle.kq_model.specs.Hearing.{Hearing}
use Rattle.kq_model.specs.Objects.{Keeping}
use Rattle.kq_model.specs.Plans.{plan}
use Rattle.kq_model.specs.Subjects.{HaveSubjects}
use Rattle.kq_model.specs.System.{Live, System, step}
use Rattle.kq_model.specs.World.{Plan, Possible, seen_world}

-- the kqueue has no READ, WRITE or VNODE knote of one of these numbers of its process
abbrev pub HasNoneOf : {S : Type 0} {h : Hearing S} → List Pair → Live h → Type 0
HasNoneOf pairs l = HaveSubjects (IsNotClosed l.owner pairs) l.kq.knotes

module _ {S A B C D : Type 0} {h : Hearing S} {k : Keeping A B C D} where
  -- after the event no kqueue has such a knote of a number that it closed
  abbrev pub ClosesAll : ℕ → Event → System h k → System h k → Type 0
  ClosesAll place event old new =
      (p : Plan) → plan place event (seen_world old.world) ≡ Possible p → All (HasNoneOf p.closed) new.live

  -- so after each record of a run, the next of which has this place
  unfoldable pub AlwaysClosesAll : ℕ → System h k → List Event → Type 0
  AlwaysClosesAll place s [] = Unit {0}
  AlwaysClosesAll place s (e ∷ es) =
      ClosesAll place e s (step place e s).system × AlwaysClosesAll (place + 1) (step place e s).system es
