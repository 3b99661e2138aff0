-- Sources, each once; and those of what the changes of a kqueue name.
use Rattle.std.specs.Prelude.{◌≡◌, ◌||◌, ℕ, Bool, List, [], ◌∷◌, ◌++◌, Option, Some, None}
use Rattle.std.specs.Prelude.{if◌then◌else◌}
use Rattle.std.specs.List.{flat_map}
use Rattle.kq_model.specs.declared.change.Change.{Change}
use Rattle.kq_model.specs.declared.object.Target.{Target}
use Rattle.kq_model.specs.Knote.{watches_number, is_timer}
use Rattle.kq_model.specs.References.{Reference, reference_of}
use Rattle.kq_model.specs.Views.{Views}
use Rattle.kq_projection.specs.declared.history.item.Source.{Source}
use Rattle.kq_projection.specs.declared.history.item.Source.TheVariants.{Number, Of, Clock, Kqueue}
use Rattle.kq_projection.specs.declared.history.sources.Sources.{Sources}
use Rattle.kq_projection.specs.Items.{has_source}

-- these came to those that there were
abbrev pub Grows : List Source → Sources → Sources → Type 0
Grows extra old new =
    (x : Source) → has_source new.set.keys x ≡ (has_source old.set.keys x || has_source extra x)

-- the one list begins as the other is
abbrev pub Begins : List Source → List Source → Type 0
Begins old new = (more : List Source) × (new ≡ old ++ more)

-- ---- what a change names

abbrev pub target_sources : Option Target → List Source
target_sources None = []
target_sources (Some target) = Of target ∷ []

abbrev pub number_sources : Bool → ℕ → ℕ → List Source
number_sources watched owner ident = if watched then Number owner ident ∷ [] else []

abbrev pub clock_sources : Bool → List Source
clock_sources timed = if timed then Clock ∷ [] else []

abbrev pub reference_sources : ℕ → Reference → List Source
reference_sources owner r =
    number_sources (watches_number r.filter) owner r.ident
    ++ (target_sources r.target ++ clock_sources (is_timer r.filter))

-- by a change of this process, in a world of these views
abbrev pub change_sources : Views → ℕ → Change → List Source
change_sources views owner c = reference_sources owner (reference_of views owner c)

abbrev pub call_sources : Views → ℕ → List Change → List Source
call_sources views owner changes = flat_map (change_sources views owner) changes

-- of a kqueue: its calls, and what its changes name
abbrev pub named_sources : ℕ → ℕ → List Reference → List Source
named_sources kqueue owner rs = Kqueue kqueue ∷ flat_map (reference_sources owner) rs
