-- The keys of places, as the code keeps them: in a list, and in a map where the list tells none.
use Rattle.std.specs.Prelude.{ℕ, nat_eq, ◌-◌, ◌==◌, cond, slice_get, Option, None, Some}
use Rattle.std.specs.HashMap.{get}
use Rattle.kq_objects.specs.declared.keys.Keys.{Keys}

-- the key that an entry of the list tells
abbrev pub key_in : ℕ → Option ℕ
key_in entry = cond (entry == 0) None (Some (entry - 1))

-- the key that the list tells, if there is an entry
abbrev pub listed_key : Option ℕ → Option ℕ
listed_key None = None
listed_key (Some entry) = key_in entry

abbrev pub or_else : Option ℕ → Option ℕ → Option ℕ
or_else None far = far
or_else (Some key) far = Some key

-- the key of a place
abbrev pub key_of : Keys → ℕ → Option ℕ
key_of k place = or_else (listed_key (slice_get k.near.items place)) (get nat_eq k.far place)
