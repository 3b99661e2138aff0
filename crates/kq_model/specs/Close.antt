-- What the close of descriptors does to a kqueue: the READ, WRITE and VNODE knotes of their numbers are
-- gone, from the queue too, also where a duplicate stays open (kqueue(2)).
use Rattle.std.specs.Prelude.{◌≡◌, ℕ, Bool, false, not, ◌&&◌, ◌==◌, List, filter, Option}
use Rattle.std.specs.List.{list_any}
use Rattle.kq_model.specs.declared.filter.Filter.{Filter}
use Rattle.kq_model.specs.declared.key.Key.{Key}
use Rattle.kq_model.specs.declared.object.Target.{Target}
use Rattle.kq_model.specs.Hearing.{Hearing}
use Rattle.kq_model.specs.Knote.{Knote, watches_number}
use Rattle.kq_model.specs.Kqueue.{Kqueue}

-- a process and one of its numbers
pub record Pair : Type 0 where
  pub pid : ℕ
  pub number : ℕ

abbrev pub has_pair : ℕ → ℕ → List Pair → Bool
has_pair pid number pairs = list_any (λ p. (p.pid == pid) && (p.number == number)) pairs

-- the key is of READ, WRITE or VNODE and of this number
abbrev pub is_of_number : ℕ → Key → Bool
is_of_number number key = watches_number key.filter && (number == key.ident)

-- what such a key of this process watches was closed
abbrev pub is_closed : ℕ → List Pair → Key → Bool
is_closed owner pairs key = watches_number key.filter && has_pair owner key.ident pairs

-- a knote of this filter and ident is of no number that was closed
abbrev pub IsNotClosed : ℕ → List Pair → Filter → ℕ → Option Target → Type 0
IsNotClosed owner pairs filter ident target =
    is_closed owner pairs (record { ident = ident; filter = filter }) ≡ false

module _ {S : Type 0} {h : Hearing S} where
  unfoldable pub closed : ℕ → List Pair → Kqueue h → Kqueue h
  closed owner pairs kq = record {
    knotes = filter (λ (k : Knote h). not (is_closed owner pairs k.key)) kq.knotes;
    queue = filter (λ key. not (is_closed owner pairs key)) kq.queue;
  }
