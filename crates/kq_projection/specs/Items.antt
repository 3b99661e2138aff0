-- The items of the code's log against those of the model: a call stands there by its kqueue alone, since its record
-- has the rest.
use Rattle.std.specs.Prelude.{Bool, List, map}
use Rattle.std.specs.List.{list_any}
use Rattle.kq_projection.specs.declared.history.item.Item.{Item}
use Rattle.kq_projection.specs.declared.history.item.Source.{Source}
use Rattle.kq_projection.specs.declared.history.item.Source.TheVariants as source
use Rattle.kq_projection.specs.declared.history.item.What.{What}
use Rattle.kq_projection.specs.declared.history.item.What.TheVariants as what
use Rattle.kq_projection.specs.contracts.history.item.SourcePartialEq.TheImpl as source_equal
use Rattle.kq_model.specs.Items as model

-- ---- items

abbrev pub bare_what : model.What → What
bare_what (model.Closed p) = what.Closed p.pid p.number
bare_what (model.Told p) = what.Told p.0 p.1
bare_what (model.Clocked span) = what.Clocked span.from span.to
bare_what (model.Called c) = what.Called c.kqueue

abbrev pub bare : model.Item → Item
bare i = record { place = i.place; what = bare_what i.what }

abbrev pub bare_items : List model.Item → List Item
bare_items items = map bare items

-- ---- where they come from

abbrev pub source_of : What → Source
source_of (what.Closed pid number) = source.Number pid number
source_of (what.Told target hint) = source.Of target
source_of (what.Clocked from to) = source.Clock
source_of (what.Called kqueue) = source.Kqueue kqueue

abbrev pub source_eq : Source → Source → Bool
source_eq = source_equal.eq-value.it

abbrev pub has_source : List Source → Source → Bool
has_source sources s = list_any (source_eq s) sources

-- the item comes from one of these
abbrev pub is_from : List Source → Item → Bool
is_from sources i = has_source sources (source_of i.what)
