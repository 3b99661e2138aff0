-- The kqueues that a trace makes have different places, so each place has one owner.
use Rattle.std.proofs.Common.{◌≡◌, ℕ, ◌+◌, ◌≤◌, true, eqb, List, [], ◌∷◌, ◌++◌, map, Option, Some, None, refl, sym, arith}
use Rattle.std.proofs.lemmas.Bool.{eq-eqb}
use Rattle.std.proofs.lemmas.List.Elements.{All-nil, All-cons, All-map, All-weaker, All-contains_itself}
use Rattle.std.specs.List.{All, Contains, list_any}
use Rattle.kq_model.specs.Births.{Birth, birth_at, birth_by, births_from}
use Rattle.kq_model.specs.Close.{Pair}
use Rattle.kq_model.specs.World.{Planned, Impossible, Possible}
use Rattle.kq_model.proofs.ListFilters.{any_contained, All-unmap, All-both}

abbrev pub Apart : ℕ → List ℕ → Type 0
Apart place places = All (λ other. place ≡ other → ⊥) places

abbrev pub AreDistinct : List ℕ → Type 0
AreDistinct [] = Unit {0}
AreDistinct (place ∷ places) = Apart place places × AreDistinct places

abbrev pub places_of : List Birth → List ℕ
places_of bs = map (λ (b : Birth). b.place) bs

-- the kqueue of a row is one of these, if it has one
abbrev pub IsOf : List ℕ → Option ℕ → Type 0
IsOf places None = Unit {0}
IsOf places (Some place) = list_any (λ other. eqb place other) places ≡ true

abbrev IsFrom : ℕ → Birth → Type 0
IsFrom place b = place ≤ b.place

abbrev Rising : ℕ → List Birth → Type 0
Rising place bs = All (IsFrom place) bs × AreDistinct (places_of bs)

earlier : (place : ℕ) (bs : List Birth) → Rising (place + 1) bs → Rising place bs
earlier place bs rising = (All-weaker (IsFrom (place + 1)) (IsFrom place) (λ b is. omega (arith, is)) bs rising.0, rising.1)

born-rising : (place : ℕ) (p : Option Pair) (bs : List Birth) → Rising (place + 1) bs → Rising place (birth_at place p ++ bs)
unfolding birth_at
born-rising place None bs rising = earlier place bs rising
born-rising place (Some p) bs rising = (
  All-cons (IsFrom place) (record { place = place; owner = p.pid; number = p.number }) bs (omega arith) (earlier place bs rising).0,
  (
    All-map (λ other. place ≡ other → ⊥) (λ (b : Birth). b.place) bs
        (All-weaker (IsFrom (place + 1)) (λ b. place ≡ b.place → ⊥) (λ b is same. absurd (omega (arith, is, same))) bs rising.0),
    rising.1,
  ),
)

pub births-rising : (place : ℕ) (qs : List Planned) → Rising place (births_from place qs)
unfolding births_from birth_by
births-rising place [] = (All-nil (IsFrom place), tt)
births-rising place (Impossible why ∷ qs) = earlier place (births_from (place + 1) qs) (births-rising (place + 1) qs)
births-rising place (Possible p ∷ qs) = born-rising place p.born (births_from (place + 1) qs) (births-rising (place + 1) qs)

-- ---- one owner a place

abbrev IsOwned : Birth → Birth → Type 0
IsOwned of b = b.place ≡ of.place → b.owner ≡ of.owner

with_apart : (b of : Birth) (bs : List Birth) → (b.place ≡ of.place → ⊥) → All (IsOwned of) bs → All (IsOwned of) (b ∷ bs)
with_apart b of bs apart owned = All-cons (IsOwned of) b bs (λ same. absurd (apart same)) owned

pub one-owner : (bs : List Birth) → AreDistinct (places_of bs) → All (λ of. All (IsOwned of) bs) bs
one-owner [] distinct = All-nil (λ of. All (IsOwned of) [])
one-owner (b ∷ bs) distinct =
    let apart = All-unmap (λ other. b.place ≡ other → ⊥) (λ (x : Birth). x.place) bs distinct.0 in
    let rest = one-owner bs distinct.1 in
    All-cons (λ of. All (IsOwned of) (b ∷ bs)) b bs
    (All-cons (IsOwned b) b bs (λ _. refl) (All-weaker (λ x. b.place ≡ x.place → ⊥) (IsOwned b) (λ x other same. absurd (other (sym same))) bs apart))
    (All-both (λ x. b.place ≡ x.place → ⊥) (λ of. All (IsOwned of) bs) (λ of. All (IsOwned of) (b ∷ bs)) (λ of other owned. with_apart b of bs other owned) bs apart rest)

-- ---- each is one of them

pub each-of : (bs : List Birth) → All (λ (b : Birth). IsOf (places_of bs) (Some b.place)) bs
each-of bs =
    let places = places_of bs in
    All-unmap (λ place. IsOf places (Some place)) (λ (b : Birth). b.place) bs
    (All-weaker (Contains places) (λ place. IsOf places (Some place)) (λ place there. any_contained (λ other. eqb place other) places place there (eq-eqb place place refl)) places (All-contains_itself places))
