-- A knote: what a kqueue keeps of one registered kevent, and the operations on lists of knotes and
-- of keys (kqueue(2); Lemon 2001, section 4).
use Rattle.std.specs.Prelude.{ℕ, ℤ, Bool, true, false, not, ◌&&◌, ◌==◌, List, [], ◌∷◌}
use Rattle.std.specs.Prelude.{◌++◌, map, filter, Option, Some}
use Rattle.std.specs.Prelude.{None, if◌then◌else◌}
use Rattle.std.specs.List.{list_any}
use Rattle.std.specs.Option.{is_none}
use Rattle.kq_model.specs.declared.filter.Filter.{Filter}
use Rattle.kq_model.specs.declared.filter.Filter.TheVariants.{Read, Write, Vnode, Proc, Signal, Timer, User, Aio, Lio}
use Rattle.kq_model.specs.declared.filter.Filter.TheVariants.{Fs, Procdesc, Sendfile, Empty}
use Rattle.kq_model.specs.declared.key.Key.{Key}
use Rattle.kq_model.specs.declared.object.Target.{Target}
use Rattle.kq_model.specs.Hearing.{Hearing}

-- ---- keys

-- a number for each filter, to tell them apart
abbrev pub filter_number : Filter → ℕ
filter_number Read = 0
filter_number Write = 1
filter_number Vnode = 2
filter_number Proc = 3
filter_number Signal = 4
filter_number Timer = 5
filter_number User = 6
filter_number Aio = 7
filter_number Lio = 8
filter_number Fs = 9
filter_number Procdesc = 10
filter_number Sendfile = 11
filter_number Empty = 12

abbrev pub filter_eq : Filter → Filter → Bool
filter_eq f g = filter_number f == filter_number g

-- READ, WRITE and VNODE watch what a number of the process names
unfoldable pub watches_number : Filter → Bool
watches_number Read = true
watches_number Write = true
watches_number Vnode = true
watches_number _ = false

unfoldable pub is_timer : Filter → Bool
is_timer Timer = true
is_timer _ = false

abbrev pub key_eq : Key → Key → Bool
key_eq a b = (a.ident == b.ident) && filter_eq a.filter b.filter

abbrev pub has_key : Key → List Key → Bool
has_key key keys = list_any (key_eq key) keys

-- the keys without this one
abbrev pub without_key : Key → List Key → List Key
without_key key keys = filter (λ other. not (key_eq key other)) keys

-- the key is in the queue, where it was not at the back
abbrev pub queued : Key → List Key → List Key
queued key queue = if has_key key queue then queue else queue ++ key ∷ []

-- ---- knotes

-- `h` says how what was heard is kept
pub record Knote {S : Type 0} (h : Hearing S) : Type 0 where
  pub key : Key
  -- what is watched; none where the change named nothing that is there
  pub target : Option Target
  -- the parameters, of the last change that set them, or of the parent's knote at the fork
  pub fflags : ℕ
  pub datum : ℤ
  pub udata : ℕ
  -- the actions, of the change that made the knote, or of the parent's knote at the fork; PROC, SIGNAL and TIMER
  -- have CLEAR always, and a PROC gets ONESHOT when its process exits
  pub oneshot : Bool
  pub clear : Bool
  pub dispatch : Bool
  -- it may be returned
  pub enabled : Bool
  -- its condition was seen to hold, and nothing has taken that back
  pub active : Bool
  -- what was heard since the last reset
  pub seen : S
  -- of a TIMER, in ns: its start and its period, or its moment as the start and no period, which is 0
  pub start : ℕ
  pub period : ℕ
  -- of a USER
  pub bits : ℕ
  pub triggered : Bool
  -- of a PROC that follows from a parent: that one's pid, until this was told
  pub notice : Option ℕ

module _ {S : Type 0} {h : Hearing S} where
  -- there is nothing that it has to tell: it has no notice, and heard nothing
  abbrev pub has_nothing : Knote h → Bool
  has_nothing k = is_none k.notice && h.is_empty k.seen

  -- the knote of this key
  unfoldable pub find_knote : Key → List (Knote h) → Option (Knote h)
  find_knote key [] = None
  find_knote key (k ∷ ks) = if key_eq key k.key then Some k else find_knote key ks

  -- the knotes with this one in the place of the one of its key
  abbrev pub with_knote : Knote h → List (Knote h) → List (Knote h)
  with_knote knote knotes = map (λ k. if key_eq knote.key k.key then knote else k) knotes

  -- the knotes without the one of this key
  abbrev pub without_knote : Key → List (Knote h) → List (Knote h)
  without_knote key knotes = filter (λ k. not (key_eq key k.key)) knotes
