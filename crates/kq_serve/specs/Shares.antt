-- How steps are shared out among threads, and what is done once all threads have served.
use Rattle.std.specs.Prelude.{◌≡◌, ℕ, zero, suc, ◌==◌, ◌%◌, List, [], ◌∷◌, ◌++◌, map, filter}
use mathlib.Core.List.{IsPrefix}
use Rattle.kq_lock.specs.declared.entry.Entry.{Entry}
use Rattle.kq_lock.specs.declared.view.Call.{Call}
use Rattle.kq_lock.specs.Calls.{plain, calls_by, Leads}
use Rattle.kq_lock.specs.Merging.{IsMerge}
use Rattle.kq_lock.specs.Seats.{Seated, own_calls}

module _ {S : Type 0} where
  -- the steps of thread t among n, in their order: those whose owner leaves t when divided by n
  abbrev pub share : (S → ℕ) → ℕ → ℕ → List S → List S
  share owner n t steps = filter (λ (s : S). owner s % n == t) steps

  -- the shares of the first k threads among n; that of thread t stands at t
  abbrev pub shares : (S → ℕ) → ℕ → ℕ → List S → List (List S)
  shares owner n zero steps = []
  shares owner n (suc k) steps = shares owner n k steps ++ share owner n k steps ∷ []

module _ {S A : Type 0} where
  abbrev pub steps_of : List (Call S A) → List S
  steps_of calls = map (λ (c : Call S A). c.step) calls

  abbrev pub entry_steps : List (Entry S A) → List S
  entry_steps history = map (λ (e : Entry S A). e.step) history

module _ {M S A : Type 0} where
  -- the seat v has made calls of just these steps, in their order, and is w afterwards
  pub record HasServed (v w : Seated M S A) (steps : List S) : Type 0 where
    pub lock : w.lock ≡ v.lock
    pub number : w.number ≡ v.number
    pub done : steps_of (own_calls w) ≡ steps

  -- the history has all steps of each share, as the first that its seat called
  abbrev pub AreServed : List (Seated M S A) → List (List S) → List (Call S A) → Type 0
  AreServed [] [] log = Unit {0}
  AreServed [] (s ∷ ss) log = ⊥
  AreServed (v ∷ vs) [] log = ⊥
  AreServed (v ∷ vs) (s ∷ ss) log =
      IsPrefix s (steps_of (calls_by v.number log)) × AreServed vs ss log

  -- The value and the history that many threads made: the machine's relation leads through it from
  -- the opening value, and it is a merge of the shares, each whole and in its order.
  pub record Serves (leads : M → S → A → M → Type 0) (opening value : M) (parts : List (List S))
      (history : List (Entry S A)) : Type 0 where
    pub log : List (Call S A)
    pub is : history ≡ plain log
    pub legal : Leads leads opening log value
    pub merged : IsMerge parts (entry_steps history)
