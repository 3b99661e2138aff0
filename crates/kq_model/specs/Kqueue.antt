-- A kqueue: its knotes in order of registration, and the queue of those that are to be returned
-- (Lemon 2001, section 4.2).
use Rattle.std.specs.Prelude.{◌≡◌, Bool, false, ◌&&◌, List, [], ◌∷◌, Option, Some, None}
use Rattle.kq_model.specs.declared.key.Key.{Key}
use Rattle.kq_model.specs.Hearing.{Hearing}
use Rattle.kq_model.specs.Knote.{Knote, find_knote, has_key}

pub record Kqueue {S : Type 0} (h : Hearing S) : Type 0 where
  pub knotes : List (Knote h)
  pub queue : List Key

-- no key stands twice in the queue
abbrev pub AreOnce : List Key → Type 0
AreOnce [] = Unit {0}
AreOnce (key ∷ keys) = (has_key key keys ≡ false) × AreOnce keys

module _ {S : Type 0} {h : Hearing S} where
  abbrev pub empty_kqueue : Kqueue h
  empty_kqueue = record { knotes = []; queue = [] }

  -- no two knotes have one key
  abbrev pub HaveOwnKeys : List (Knote h) → Type 0
  HaveOwnKeys [] = Unit {0}
  HaveOwnKeys (k ∷ ks) = (find_knote k.key ks ≡ None) × HaveOwnKeys ks

  -- a knote of this key is active and enabled
  unfoldable pub is_waiting : Option (Knote h) → Bool
  is_waiting None = false
  is_waiting (Some k) = k.active && k.enabled

-- keys differ, and the queue holds each active enabled knote once and nothing else
pub record IsSound {S : Type 0} {h : Hearing S} (kq : Kqueue h) : Type 0 where
  pub own_keys : HaveOwnKeys kq.knotes
  pub once : AreOnce kq.queue
  pub waiting : (key : Key) → has_key key kq.queue ≡ is_waiting (find_knote key kq.knotes)
