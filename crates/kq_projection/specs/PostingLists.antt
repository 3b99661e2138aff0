-- A list of numbers for each source of a table; none stands for an empty one.
use Rattle.std.specs.Prelude.{ℕ, Bool, List, [], ◌∷◌, Option, None, Some, if◌then◌else◌}
use Rattle.std.specs.HashMap.{HashMap, get}
use Rattle.kq_projection.specs.declared.history.item.Source.{Source}
use Rattle.kq_projection.specs.Items.{source_eq}

abbrev pub or_nothing : Option (List ℕ) → List ℕ
or_nothing None = []
or_nothing (Some numbers) = numbers

-- the numbers under a source
abbrev pub postings_at : {S : Type 0} → HashMap Source (List ℕ) S → Source → List ℕ
postings_at table s = or_nothing (get source_eq table s)

-- the number, where it goes under the source
abbrev pub posting : Bool → ℕ → List ℕ
posting is number = if is then number ∷ [] else []
