-- The kqueues that some records make, by their places.
use Rattle.std.specs.Prelude.{ℕ, List, map}
use Rattle.kq_model.specs.declared.event.Event.{Event}
use Rattle.kq_model.specs.Births.{Birth, birth_by, births_from}
use Rattle.kq_model.specs.Moments.{plans_from}
use Rattle.kq_model.specs.Objects.{counted}
use Rattle.kq_model.specs.World.{Planned, World}

abbrev pub places_of : List Birth → List ℕ
places_of births = map (λ (b : Birth). b.place) births

-- of the record with this plan
abbrev pub birth_of : ℕ → Planned → List ℕ
birth_of place q = places_of (birth_by place q)

-- of these records, the first of which stands at `place`
abbrev pub births_after : ℕ → World counted → List Event → List ℕ
births_after place w es = places_of (births_from place (plans_from place w es))
