-- What a record does to the objects: what is noted of them, in order, and the hints, in order.
use Rattle.std.specs.Prelude.{List, [], ◌∷◌, Option, Some, None, Result}
use Rattle.kq_model.specs.declared.doing.Doing.{Doing}
use Rattle.kq_model.specs.declared.object.Hint.{Hint}
use Rattle.kq_model.specs.declared.object.Target.{Target}
use Rattle.kq_model.specs.declared.why.Why.{Why}

pub record ObjectPlan : Type 0 where
  pub doings : List Doing
  pub hints : List (Target × Hint)

-- a plan, or the first reason why the record is impossible
abbrev pub Planned : Type 0
Planned = Result ObjectPlan Why

unfoldable pub hints_for : Target → Option Hint → List (Target × Hint)
hints_for target None = []
hints_for target (Some hint) = (target, hint) ∷ []
