-- The sources of what concerns a kqueue, and its private list item by item.
use Rattle.std.specs.Prelude.{◌≡◌, ℕ, List}
use Rattle.std.specs.List.{flat_map}
use Rattle.kq_model.specs.Births.{Birth}
use Rattle.kq_model.specs.Items as model
use Rattle.kq_model.specs.Moment.{Moment}
use Rattle.kq_model.specs.PrivateList.{private_list}
use Rattle.kq_model.specs.References.{Names}
use Rattle.kq_projection.specs.declared.history.item.Item.{Item}
use Rattle.kq_projection.specs.declared.history.item.Source.{Source}
use Rattle.kq_projection.specs.Items.{bare_items, bare_what, has_source, source_of}

-- the owner, and just the sources of what concerns a kqueue that names these, of all that there is to say
abbrev pub IsConcerned : Names → Birth → ℕ → List Source → Type 0
IsConcerned ns b owner sources =
    (owner ≡ b.owner)
    × ((w : model.What) → has_source sources (source_of (bare_what w)) ≡ model.is_own b.place b.owner ns w)

-- the items of the private list of the kqueue with this place and this owner
abbrev pub private_items : ℕ → ℕ → List Moment → List Item
private_items place owner ms = bare_items (flat_map model.items_of (private_list place owner ms))
