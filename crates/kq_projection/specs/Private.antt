-- The private list of the kqueue that was made at a place.
use Rattle.std.specs.Prelude.{◌≡◌, ◌==◌, ◌&&◌, ℕ, Bool, true, List}
use Rattle.std.specs.List.{list_any}
use Rattle.kq_model.specs.Births.{Birth}
use Rattle.kq_projection.specs.declared.history.item.Item.{Item}
use Rattle.kq_projection.specs.Concerned.{private_items}
use Rattle.kq_projection.specs.Traced.{Traced, births_of, moments_of}

-- this process made a kqueue at this place
abbrev pub is_owned : Traced → ℕ → ℕ → Bool
is_owned t place owner = list_any (λ (b : Birth). (b.place == place) && (b.owner == owner)) (births_of t)

-- the items of the kqueue with this place and this owner, which there is
pub record IsPrivate (t : Traced) (place owner : ℕ) (items : List Item) : Type 0 where
  pub owned : is_owned t place owner ≡ true
  pub items_are : items ≡ private_items place owner (moments_of t)
