-- Objects as the code keeps them: under keys of a slab, and the keys by place.
use Rattle.std.specs.Prelude.{◌≡◌, ◌==◌, ℕ, ◌-◌, min, cond, Option, None, Some}
use Rattle.std.specs.HashMap.{spare}
use Rattle.slab.specs.Slab as slab
use Rattle.kq_objects.specs.declared.by_place.ByPlace.{ByPlace}
use Rattle.kq_objects.specs.declared.by_place.Placed.{Placed}
use Rattle.kq_objects.specs.Keys.{key_of}

module _ {T : Type 0} where
  -- the object, if it is that of the place
  abbrev pub of_place : ℕ → Option (Placed T) → Option T
  of_place place None = None
  of_place place (Some placed) = cond (placed.place == place) (Some placed.object) None

  abbrev pub under : slab.Slab (Placed T) → ℕ → Option ℕ → Option T
  under s place None = None
  under s place (Some key) = of_place place (slab.get s key)

  -- the object of a place
  abbrev pub object_at : ByPlace T → ℕ → Option T
  object_at kept place = under kept.slab place (key_of kept.keys place)

  -- the key under which the object of a place is found
  pub record IsKeyOf (place : ℕ) (kept : ByPlace T) (key : ℕ) : Type 0 where
    pub told : key_of kept.keys place ≡ Some key
    pub placed : Placed T
    pub there : slab.get kept.slab key ≡ Some placed
    pub own : placed.place ≡ place

  -- how many more objects can be kept without a growth
  abbrev pub room_in : ByPlace T → ℕ
  room_in kept = min (spare kept.keys.far) (kept.slab.capacity - slab.slab_len kept.slab)
