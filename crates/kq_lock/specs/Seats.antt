-- What contracts see of a lock and of its seats, and what its calls promise.
use Rattle.std.specs.Prelude.{◌≡◌, ◌≢◌, ℕ, ◌%◌, ◌<◌, ◌≤◌, Bool, true, false, Some}
use Rattle.std.specs.Prelude.{Option, List, []}
use Rattle.std.specs.Prelude.{◌∷◌, length}
use mathlib.Core.List.{IsPrefix}
use Rattle.atomic_table.specs.Seated.{TableId}
use Rattle.kq_lock.specs.declared.entry.Entry.{Entry}
use Rattle.kq_lock.specs.declared.view.Call.{Call}
use Rattle.kq_lock.specs.declared.error.TurnError.{TurnError}
use Rattle.kq_lock.specs.declared.error.TurnError.TheVariants.{Memory, WornOut, Busy}
use Rattle.kq_lock.specs.Calls.{plain, calls_by, Leads, Grows}

-- which lock it is, the value that it began with, and how many tickets it has
pub record LockName (M : Type 0) : Type 0 where
  pub table : TableId
  pub opening : Option M
  pub last : ℕ

-- A seat: its lock, its own number, the calls that it has seen, and whether it found that all
-- tickets
-- were drawn. It splits into seats whose numbers are its own and multiples of the stride further.
pub record Seated (M S A : Type 0) : Type 0 where
  pub lock : LockName M
  pub number : ℕ
  pub stride : ℕ
  pub seen : List (Call S A)
  pub worn : Bool

module _ {M S A : Type 0} where
  -- the calls that the seat made
  abbrev pub own_calls : Seated M S A → List (Call S A)
  own_calls v = calls_by v.number v.seen

  -- the number is the seat's own, or that of a seat that may be split off from it
  abbrev pub OwnsNumber : Seated M S A → ℕ → Type 0
  OwnsNumber v n = n % v.stride ≡ v.number

  -- no number is owned by both
  abbrev pub AreParted : Seated M S A → Seated M S A → Type 0
  AreParted v w = (n : ℕ) → OwnsNumber v n → OwnsNumber w n → ⊥

  -- the seat v made the call, and is w afterwards
  pub record Called (leads : M → S → A → M → Type 0) (v w : Seated M S A)
      (step : S) (at : ℕ) (answer : A) (seen_len : ℕ) : Type 0 where
    pub same : w ≡ record v { seen = w.seen }
    pub grows : Grows leads v.lock.opening v.number v.seen w.seen
        (record { step = step; answer = answer })
    pub place : at ≡ length w.seen
    pub shorter : seen_len ≡ length v.seen

  -- the call was refused: the seat is as before, or worn
  abbrev pub Refused : Seated M S A → Seated M S A → TurnError → Type 0
  Refused v w Memory = w ≡ v
  Refused v w WornOut = w ≡ record v { worn = true }
  Refused v w Busy = w ≡ v

  -- The seat `old` is now `first`, and `second` is new: each owns its own number, and numbers that
  -- were the old seat's. No number is owned by both.
  pub record AreHalves (old first second : Seated M S A) : Type 0 where
    pub small : old.number < old.stride
    pub own : OwnsNumber first first.number × OwnsNumber second second.number
    pub in_first : (n : ℕ) → OwnsNumber first n → OwnsNumber old n
    pub in_second : (n : ℕ) → OwnsNumber second n → OwnsNumber old n
    pub parted : AreParted first second

  -- a seat that has seen nothing
  abbrev pub IsFresh : LockName M → Seated M S A → Type 0
  IsFresh lock v = (v.lock ≡ lock) × (v.seen ≡ []) × (v.worn ≡ false)

  abbrev pub EachSeat : (Seated M S A → Type 0) → List (Seated M S A) → Type 0
  EachSeat P [] = Unit {0}
  EachSeat P (v ∷ vs) = P v × EachSeat P vs

  -- no two of the seats have one number
  abbrev pub AreApart : List (Seated M S A) → Type 0
  AreApart [] = Unit {0}
  AreApart (v ∷ vs) = EachSeat (λ w. v.number ≢ w.number) vs × AreApart vs

  -- each seat owns its own number, and no number is owned by two of the seats
  abbrev pub AllParted : List (Seated M S A) → Type 0
  AllParted [] = Unit {0}
  AllParted (v ∷ vs) = OwnsNumber v v.number × EachSeat (AreParted v) vs × AllParted vs

  -- the value and its whole history, as the last seat finds them
  pub record Ends (leads : M → S → A → M → Type 0) (lock : LockName M) (v : Seated M S A)
      (value : M) (history : List (Entry S A)) : Type 0 where
    pub log : List (Call S A)
    pub is : history ≡ plain log
    pub legal : (o : M) × (lock.opening ≡ Some o) × Leads leads o log value
    pub seen : IsPrefix v.seen log
    pub short : length log ≤ lock.last
    pub own : own_calls v ≡ calls_by v.number log
