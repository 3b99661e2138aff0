-- Which knotes watch which targets: what is found; and what holds of the knotes and of the alarms.
use Rattle.std.specs.Prelude.{◌≡◌, ◌≤◌, ℕ, Bool, true, false, List, map, filter, Some, None}
use Rattle.std.specs.Prelude.{Option, slice_get}
use Rattle.std.specs.Prelude.{if◌then◌else◌}
use Rattle.std.specs.List.{list_any}
use Rattle.kq_model.specs.declared.key.Key.{Key}
use Rattle.kq_model.specs.declared.object.Target.{Target}
use Rattle.kq_model.specs.declared.object.Target.TheVariants.{Own}
use Rattle.kq_model.specs.Knote.{key_eq, find_knote}
use Rattle.kq_model.specs.Kqueue.{HaveOwnKeys}
use Rattle.kq_model.specs.Tallied.{Knote}
use Rattle.kq_model.specs.Targets.{Posted, is_target}
use Rattle.kq_model.specs.Ticks.{last_moment}
use Rattle.kq_alarm.specs.Armed.{Armed}
use Rattle.kq_knote.specs.Expiring.{AreAlarmed}
use Rattle.kq_knote.specs.Quiet.{AreQuiet}
use Rattle.kq_table.specs.Rows.{rows_behind}

-- the keys of the knotes that watch this target, in order of registration
abbrev pub keys_watching : Target → List Knote → List Key
keys_watching target knotes = map (λ k. k.key) (filter (λ k. is_target k.target target) knotes)

-- the knote watches one of the targets for which there is a hint
abbrev pub is_hinted : List Posted → Knote → Bool
is_hinted posted k = list_any (λ (p : Posted). is_target k.target p.0) posted

-- the keys of such knotes, in order of registration
abbrev pub hinted_keys : List Posted → List Knote → List Key
hinted_keys posted knotes = map (λ k. k.key) (filter (is_hinted posted) knotes)

-- the first of them
abbrev pub first_hinted : List Posted → List Knote → Option Key
first_hinted posted knotes = slice_get (hinted_keys posted knotes) 0

-- of each knote the key is among these just where it watches such a target
abbrev pub AreHinted : List Posted → List Knote → List Key → Type 0
AreHinted posted knotes keys =
    (k : Knote) → find_knote k.key knotes ≡ Some k → list_any (key_eq k.key) keys ≡ is_hinted posted k

-- the knotes behind the one of this key
abbrev pub behind : Key → List Knote → List Knote
behind key knotes = rows_behind key_eq (λ k. k.key) key knotes

-- the knote of this key, where there is one, watches such a target
abbrev pub IsHinted : List Posted → Key → List Knote → Type 0
IsHinted posted key knotes = (k : Knote) → find_knote key knotes ≡ Some k → is_hinted posted k ≡ true

-- records give hints for it: it is something, and not the knote itself
unfoldable pub is_shared : Option Target → Bool
is_shared None = false
is_shared (Some Own) = false
is_shared (Some _) = true

abbrev pub shares : Knote → Bool
shares k = is_shared k.target

-- all hints are for this one target, which the knotes that watch it share
abbrev pub IsOnly : Target → List Posted → Type 0
IsOnly target posted =
    (is_shared (Some target) ≡ true) × ((k : Knote) → is_hinted posted k ≡ is_target k.target target)

-- what it watches, where others may watch it too
abbrev pub shared_of : Knote → Option Target
shared_of k = if shares k then k.target else None

-- Keys differ. After the moment `since` no timer expires before `soonest`; where the alarms are whole, each knote has
-- one when it expires first after `since`
pub record IsKept (knotes : List Knote) (since soonest : ℕ) (alarmed : Bool) (alarms : Armed) : Type 0 where
  pub own_keys : HaveOwnKeys knotes
  pub begun : since ≤ last_moment
  pub quiet : AreQuiet since soonest knotes
  pub armed : alarmed ≡ true → AreAlarmed since alarms.entries knotes
