-- Histories of a machine: lists of calls, each with the number of the seat that made it.
use Rattle.std.specs.Prelude.{◌≡◌, ◌≢◌, ℕ, ◌==◌, ◌%◌, ◌<◌, Option, Some, ltb, cond}
use Rattle.std.specs.Prelude.{List, [], ◌∷◌}
use Rattle.std.specs.Prelude.{◌++◌, map, filter, length}
use mathlib.Core.List.{IsPrefix}
use mathlib.Core.Option.{some}
use lib.ListN.{get_elem?}
use Rattle.kq_lock.specs.declared.entry.Entry.{Entry}
use Rattle.kq_lock.specs.declared.view.Call.{Call}

module _ {S A : Type 0} where
  -- a call as `close` gives it, with no seat's number
  abbrev pub entry_of : Call S A → Entry S A
  entry_of c = record { step = c.step; answer = c.answer }

  abbrev pub plain : List (Call S A) → List (Entry S A)
  plain log = map entry_of log

  abbrev pub call_of : ℕ → Entry S A → Call S A
  call_of number e = record { number = number; step = e.step; answer = e.answer }

  -- the calls of the seat with this number
  abbrev pub calls_by : ℕ → List (Call S A) → List (Call S A)
  calls_by number log = filter (λ (c : Call S A). c.number == number) log

  -- P holds of each call
  abbrev pub Each : (Call S A → Type 0) → List (Call S A) → Type 0
  Each P [] = Unit {0}
  Each P (c ∷ cs) = P c × Each P cs

-- the number is that of a seat that was made
module _ {S A : Type 0} where
  abbrev pub IsMade : List ℕ → Call S A → Type 0
  IsMade made c = (j : ℕ) × (get_elem? made j ≡ some c.number)

abbrev pub longer : {X : Type 0} → List X → List X → List X
longer xs ys = cond (ltb (length xs) (length ys)) ys xs

module _ {S A : Type 0} where
  -- The second list has no calls beyond those of the first under numbers that leave `number` when
  -- divided by `stride`.
  abbrev pub HasNoFurther : ℕ → ℕ → List (Call S A) → List (Call S A) → Type 0
  HasNoFurther number stride before after =
      (n : ℕ) → n % stride ≡ number → calls_by n after ≡ calls_by n before

  -- After a join the seat has seen the longer of what both had seen. Both begin it, and it has no
  -- further call under a number that one of the two seats owned.
  pub record Merged (number stride number2 stride2 : ℕ) (seen before other : List (Call S A))
      : Type 0 where
    pub longest : seen ≡ longer before other
    pub first : IsPrefix before seen
    pub second : IsPrefix other seen
    pub own : HasNoFurther number stride before seen
    pub theirs : HasNoFurther number2 stride2 other seen

  -- A seat has a number below its stride, and made no call under another number that it owns.
  pub record IsNumbered (number stride : ℕ) (seen : List (Call S A)) : Type 0 where
    pub small : number < stride
    pub others : (n : ℕ) → n % stride ≡ number → n ≢ number → calls_by n seen ≡ []

-- The history leads from the value v to the value w: there are values between them such that each
-- value, the step, its answer and the next value stand in the machine's relation.
abbrev pub Leads : {M S A : Type 0} → (M → S → A → M → Type 0) → M → List (Call S A) → M → Type 0
Leads leads v [] w = v ≡ w
Leads {M} leads v (c ∷ cs) w = (u : M) × leads v c.step c.answer u × Leads leads u cs w

-- A call is added. All that was seen begins what is seen now, which leads from the opening value
-- on,
-- and ends with this call. It has each call of the seat once.
pub record Grows {M S A : Type 0} (leads : M → S → A → M → Type 0) (opening : Option M)
    (number : ℕ) (before after : List (Call S A)) (e : Entry S A) : Type 0 where
  pub begins : IsPrefix before after
  pub legal : (o : M) × (u : M) × (opening ≡ Some o) × Leads leads o after u
  pub ends : (log : List (Call S A)) × (after ≡ log ++ call_of number e ∷ [])
  pub own : calls_by number after ≡ calls_by number before ++ call_of number e ∷ []
