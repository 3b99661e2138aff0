-- The rule of the counter's table, and what each step tells the seat that takes it.
use Rattle.std.specs.Prelude.{◌≡◌, ℕ, ◌+◌, ◌-◌, ◌<◌, ◌≤◌, ltb, List, [], ◌∷◌}
use Rattle.std.specs.Prelude.{◌++◌, filter}
use Rattle.std.specs.Prelude.{sum_by}
use mathlib.Core.Option.{some}
use lib.ListN.{get_elem?}
use Rattle.atomic_table.specs.Table.{State, Me, Step}
use Rattle.kq_jobs.specs.declared.view.View.{View}
use Rattle.kq_jobs.specs.Claims.{times, once_below, IsAtMostOnce}

-- the numbers that a seat drew, but for those past the last one
abbrev pub claimed : View → List ℕ
claimed v = filter (λ (n : ℕ). ltb n v.count) v.drawn

-- what a seat knows, where CLAIM is `claim`
pub record Knows (count claim : ℕ) (v : View) : Type 0 where
  -- how many numbers there are, which only a spent seat does not know
  pub counted : 0 < v.parts → v.count ≡ count
  -- it draws past the last one at most once for each of its parts
  pub few_past : v.past ≤ v.parts
  -- a number past the last one was drawn only after all others
  pub ended : 0 < v.past → count ≤ claim
  -- a spent seat has drawn nothing
  pub spent : v.parts ≡ 0 → v.drawn ≡ []

-- the rule: the numbers drawn are those below CLAIM, each once
pub record HandsOut {S : Type 0} (count : ℕ) (s : State S View) : Type 0 where
  pub claim : ℕ
  pub word : s.words ≡ claim ∷ []
  pub each_once : (x : ℕ) → sum_by (λ (v : View). times x v.drawn) s.views ≡ once_below x claim
  -- CLAIM is past the last number only as often as seats were told so
  pub bounded : claim ≤ count + sum_by (λ (v : View). v.past) s.views
  pub all_parts : sum_by (λ (v : View). v.parts) s.views ≡ 256
  pub seats : (j : ℕ) (v : View) → get_elem? s.views j ≡ some v → Knows count claim v

-- the first seat
abbrev pub newcomer : ℕ → View
newcomer count = record { count = count; parts = 256; drawn = []; past = 0 }

-- a seat that gives a part away, and the new seat that gets it
abbrev pub giving : View → View
giving v = record v { parts = v.parts - 1 }

abbrev pub given : View → View
given v = record { count = v.count; parts = 1; drawn = []; past = 0 }

abbrev pub joined : View → View → View
joined v w =
    record v { parts = v.parts + w.parts; drawn = v.drawn ++ w.drawn; past = v.past + w.past }

abbrev pub spent : View
spent = record { count = 0; parts = 0; drawn = []; past = 0 }

-- where the seat has all parts, and drew past the last number, it drew all
abbrev pub DrewAll : View → Type 0
DrewAll v = v.parts ≡ 256 → 0 < v.past → (x : ℕ) → x < v.count → times x v.drawn ≡ 1

module _ {S : Type 0} where
  -- the seat with one number more
  abbrev pub drew : Me S View → ℕ → ℕ → Me S View
  drew m n past = (record m.0 { drawn = m.0.drawn ++ n ∷ []; past = past }, m.1)

  abbrev pub Draws : Step S → Me S View → ℕ → Me S View → Type 0
  Draws st m r m' =
      (r < m.0.count → m' ≡ drew m r m.0.past) × (m.0.count ≤ r → m' ≡ drew m r (m.0.past + 1))
      × ((x : ℕ) → times x m.0.drawn ≤ once_below x r)

  abbrev pub Settles : Step S → Me S View → ℕ → Me S View → Type 0
  Settles st m r m' = (m' ≡ m) × IsAtMostOnce m.0.drawn × DrewAll m.0
