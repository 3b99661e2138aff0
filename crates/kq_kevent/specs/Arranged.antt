-- The order of a queue, and another order of it: some of its keys first, the others behind them as they stood.
use Rattle.std.specs.Prelude.{◌≡◌, true, not, List, [], ◌∷◌, ◌++◌, filter, Option, if◌then◌else◌}
use Rattle.kq_model.specs.declared.key.Key.{Key}
use Rattle.kq_model.specs.Knote.{key_eq, has_key, without_key}
use Rattle.kq_table.specs.Rows.{key_behind}

-- the key behind this one; none where this is the last, or not there
abbrev pub key_after : Key → List Key → Option Key
key_after key queue = key_behind key_eq key queue

-- Those of the keys that are in the queue, each once, in the order in which they are first named.
unfoldable pub named_in : List Key → List Key → List Key
named_in [] queue = []
named_in (key ∷ keys) queue =
    if has_key key queue then key ∷ named_in keys (without_key key queue) else named_in keys queue

-- the queue without these keys
abbrev pub without_keys : List Key → List Key → List Key
without_keys keys queue = filter (λ key. not (has_key key keys)) queue

-- these keys of the queue first
unfoldable pub arranged : List Key → List Key → List Key
arranged keys queue = named_in keys queue ++ without_keys keys queue

-- each of the keys is in the queue
abbrev pub AreAllIn : List Key → List Key → Type 0
AreAllIn keys queue = (key : Key) → has_key key keys ≡ true → has_key key queue ≡ true
