-- A timer's ticks by division: what `kq_timer` computes counts the moments of the definition.
use Rattle.std.proofs.Common.{◌≡◌, ◌≢◌, ℕ, zero, suc, ◌+◌, ◌-◌, ◌*◌, ◌/◌, ◌%◌, ◌<◌, ◌≤◌, ◌==◌, Bool, true, false, cond, ◌⊎◌, inl, inr, refl, sym, ◌∙◌, zero-add, add-zero, arith}
use Rattle.std.proofs.lemmas.Bool.{eq-eqb, eqb-true, ne_eqb, or_right, or_left, or_from, cases_lt}
use Rattle.std.proofs.lemmas.Nat.{div-mul-add, same_from_place, div-add-mod', mod_below}
use Rattle.std.proofs.Math.Nat.{le-mul_of_pos_right, mul-le-mul_right, lt-div-mul-add, div-mul-le_self, lt_of_mul-lt-mul_right}
use Rattle.kq_model.specs.Ticks.{Ticking, is_among_first, is_tick}
use Rattle.kq_model.specs.NextTicks.{counted}
use Rattle.kq_model.specs.NextTicks.{ticks_between}

-- ---- which moments are ticks

among_first : (t : Ticking) (m k j : ℕ) → j < k → t.start + suc j * t.period ≡ m → is_among_first k t m ≡ true
unfolding is_among_first
among_first t m zero j below e = absurd (omega arith)
among_first t m (suc k) j below e = by_place (λ h. among_first t m k j h e) (cases_lt j k)
  where
    by_place : (j < k → is_among_first k t m ≡ true) → (j < k) ⊎ (k ≤ j) → is_among_first (suc k) t m ≡ true
    by_place earlier (inl h) = or_right _ _ (earlier h)
    by_place earlier (inr h) =
        let same : j ≡ k = omega arith in
        or_left _ _ (eq-eqb _ _ (rw same at e))

none_among_first : (t : Ticking) (m k : ℕ) → ((j : ℕ) → t.start + suc j * t.period ≢ m) → is_among_first k t m ≡ false
unfolding is_among_first
none_among_first t m zero none = refl
none_among_first t m (suc k) none = or_from _ _ (ne_eqb _ _ (none k)) (none_among_first t m k none)

-- start and j + 1 periods
-- without a period each is the start
still : (t : Ticking) (j : ℕ) → t.period ≡ 0 → t.start + suc j * t.period ≡ t.start
still t j none = let nothing : t.start + suc j * 0 ≡ t.start = omega arith in rw none nothing

pub is_tick-at : (t : Ticking) (m j : ℕ) → j < m → t.start + suc j * t.period ≡ m → is_tick t m ≡ true
unfolding is_tick
is_tick-at t m j below e =
    by_period (t.period == 0) refl
  where
    by_period : (b : Bool) → (t.period == 0) ≡ b → cond b (t.start == m) (is_among_first m t m) ≡ true
    by_period true none = eq-eqb t.start m (sym (still t j (eqb-true t.period 0 none)) ∙ e)
    by_period false _ = among_first t m m j below e

pub is_tick-true : (t : Ticking) (m j : ℕ) → 0 < t.period → t.start + suc j * t.period ≡ m → is_tick t m ≡ true
is_tick-true t m j positive e =
    let far : suc j ≤ suc j * t.period = le-mul_of_pos_right (suc j) positive in
    is_tick-at t m j (omega arith) e

pub is_tick-false : (t : Ticking) (m : ℕ) → ((j : ℕ) → t.start + suc j * t.period ≢ m) → is_tick t m ≡ false
unfolding is_tick
is_tick-false t m none = by_period (t.period == 0) refl
  where
    by_period : (b : Bool) → (t.period == 0) ≡ b → cond b (t.start == m) (is_among_first m t m) ≡ false
    by_period true nothing = ne_eqb t.start m (λ e. none 0 (still t 0 (eqb-true t.period 0 nothing) ∙ e))
    by_period false _ = none_among_first t m m none

-- ---- a quotient grows at the multiples of the divisor

within_step : (y p : ℕ) → 0 < p → suc (y % p) < p → suc y / p ≡ y / p
within_step y p positive h =
    let e : suc y ≡ y / p * p + suc (y % p) = omega (arith, div-add-mod' y p) in
    rw e (div-mul-add (y / p) p (suc (y % p)) h)

no_multiple : (y p j : ℕ) → suc (y % p) < p → suc j * p ≢ suc y
no_multiple y p j h e =
    let places : (suc j ≡ y / p) × (0 ≡ suc (y % p)) = same_from_place (suc j) 0 (y / p) (suc (y % p)) p (omega arith) h (omega (arith, div-add-mod' y p)) in
    absurd (omega (arith, places.1))

next_multiple : (y p : ℕ) → 0 < p → p ≤ suc (y % p) → suc (y / p) * p ≡ suc y
next_multiple y p positive h = omega (arith, div-add-mod' y p, mod_below y p positive)

multiple_step : (y p : ℕ) → 0 < p → p ≤ suc (y % p) → suc y / p ≡ suc (y / p)
multiple_step y p positive h =
    let e : suc y ≡ suc (y / p) * p + 0 = omega (arith, next_multiple y p positive h) in
    rw e (div-mul-add (suc (y / p)) p 0 positive)

-- ---- how many ticks are not after a moment

-- the whole periods from the start to a moment
abbrev pub periods : Ticking → ℕ → ℕ
periods t moment = (moment - t.start) / t.period

periods-suc : (t : Ticking) (m : ℕ) → 0 < t.period → periods t (suc m) ≡ periods t m + cond (is_tick t (suc m)) 1 0
periods-suc t m positive = by_start (cases_lt m t.start)
  where
    y : ℕ
    y = m - t.start

    by_rest : t.start ≤ m → (suc (y % t.period) < t.period) ⊎ (t.period ≤ suc (y % t.period)) → periods t (suc m) ≡ periods t m + cond (is_tick t (suc m)) 1 0
    by_rest h (inl inside) =
        let grown : suc m - t.start ≡ suc y = omega arith in
        let no : is_tick t (suc m) ≡ false = is_tick-false t (suc m) (λ j e. no_multiple y t.period j inside (omega arith)) in
        rw (no, grown) (within_step y t.period positive inside ∙ omega arith)
    by_rest h (inr ends) =
        let grown : suc m - t.start ≡ suc y = omega arith in
        let yes : is_tick t (suc m) ≡ true = is_tick-true t (suc m) (y / t.period) positive (omega (arith, next_multiple y t.period positive ends)) in
        rw (yes, grown) (multiple_step y t.period positive ends ∙ omega arith)

    by_start : (m < t.start) ⊎ (t.start ≤ m) → periods t (suc m) ≡ periods t m + cond (is_tick t (suc m)) 1 0
    by_start (inl h) =
        let now : suc m - t.start ≡ 0 = omega arith in
        let before : m - t.start ≡ 0 = omega arith in
        let no : is_tick t (suc m) ≡ false = is_tick-false t (suc m) (λ j e. absurd (omega (arith, le-mul_of_pos_right (suc j) positive))) in
        rw (no, now, before) (omega arith)
    by_start (inr h) = by_rest h (cases_lt _ _)

-- the ticks of the n moments after `from`: what the quotient grows by
counted-periods : (t : Ticking) (from n : ℕ) → 0 < t.period → counted (is_tick t) from n + periods t from ≡ periods t (from + n)
unfolding counted
counted-periods t from zero positive = simp (zero-add, add-zero)
counted-periods t from (suc n) positive =
    let one_more : from + suc n ≡ suc (from + n) = omega arith in
    let before = counted-periods t from n positive in
    rw one_more (omega (arith, before, periods-suc t (from + n) positive))

pub ticks_between-periods : (t : Ticking) (from to : ℕ) → 0 < t.period → from ≤ to → ticks_between (is_tick t) from to ≡ periods t to - periods t from
ticks_between-periods t from to positive ordered =
    let reached : from + (to - from) ≡ to = omega arith in
    let all = rw reached at (counted-periods t from (to - from) positive) in
    omega (arith, all)

-- ---- the next tick

-- one period after the last whole one up to `from`
abbrev pub moment_after : Ticking → ℕ → ℕ
moment_after t from = t.start + suc (periods t from) * t.period

pub moment_after-later : (t : Ticking) (from : ℕ) → 0 < t.period → from < moment_after t from
moment_after-later t from positive =
    let past : from - t.start < periods t from * t.period + t.period = lt-div-mul-add positive in
    omega (arith, past)

pub moment_after-tick : (t : Ticking) (from : ℕ) → 0 < t.period → is_tick t (moment_after t from) ≡ true
moment_after-tick t from positive = is_tick-true t (moment_after t from) (periods t from) positive refl

pub moment_after-least : (t : Ticking) (from m : ℕ) → 0 < t.period → from < m → m < moment_after t from → is_tick t m ≡ false
moment_after-least t from m positive later earlier = is_tick-false t m none
  where
    none : (j : ℕ) → t.start + suc j * t.period ≢ m
    none j e =
        let fewer : suc j < suc (periods t from) = lt_of_mul-lt-mul_right t.period {m = suc j} {n = suc (periods t from)} (omega arith) in
        let most : suc j * t.period ≤ periods t from * t.period = mul-le-mul_right t.period (omega (arith, fewer)) in
        let whole : periods t from * t.period ≤ from - t.start = div-mul-le_self (from - t.start) t.period in
        let some : 0 < suc j * t.period = omega (arith, le-mul_of_pos_right (suc j) positive) in
        absurd (omega (arith, most, whole, some))
