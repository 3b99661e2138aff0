-- A timeline for each key of a table; none stands for one without marks.
use Rattle.std.specs.Prelude.{ℕ, Bool, List, [], Option, None, Some}
use Rattle.std.specs.HashMap.{HashMap, get}
use Rattle.kq_projection.specs.declared.history.timeline.Mark.{Mark}
use Rattle.kq_projection.specs.Timeline.{IsUpTo}

abbrev pub or_none : {V : Type 0} → Option (List (Mark V)) → List (Mark V)
or_none None = []
or_none (Some marks) = marks

module _ {K V S : Type 0} (same : K → K → Bool) where
  -- the marks of a key
  abbrev pub marks_at : HashMap K (List (Mark V)) S → K → List (Mark V)
  marks_at table key = or_none (get same table key)

  -- no mark of any key is later
  abbrev pub AreUpTo : ℕ → HashMap K (List (Mark V)) S → Type 0
  AreUpTo place table = (key : K) → IsUpTo place (marks_at table key)
