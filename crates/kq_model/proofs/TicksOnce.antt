-- A timer that expires once: how often it does, and when first.
use Rattle.std.proofs.Common.{◌≡◌, ℕ, zero, suc, ◌+◌, ◌<◌, ◌≤◌, Bool, true, false, cond, ◌&&◌, eqb, leb, ltb, negsuc, ◌⊎◌, inl, inr, refl, sym, ◌∙◌, add-zero, arith}
use Rattle.std.proofs.lemmas.Bool.{cases_lt, cases_order, le-leb, lt-leb, lt-ltb, le-ltb, eq-eqb, ne_eqb, and_right, true≢false}
use Rattle.std.proofs.lemmas.Int.{ints}
use Rattle.kq_model.specs.Ticks.{Ticking, last_moment, is_tick, expires}
use Rattle.kq_model.specs.NextTicks.{counted}
use Rattle.kq_model.specs.NextTicks.{IsNextTick, HasNoTick}
use Rattle.kq_model.specs.WalkedAtOnce.{IsFirstPassing}
use Rattle.kq_model.proofs.Ticks.{is_tick-at, is_tick-false}

-- ---- which moments

and_true : (b : Bool) → (b && true) ≡ b
and_true true = refl
and_true false = refl

pub expires-often : (t : Ticking) (m : ℕ) → expires false t m ≡ is_tick t m
expires-often t m = and_true (is_tick t m)

first_moment : (t : Ticking) → 0 < t.start + t.period → is_tick t (t.start + t.period) ≡ true
first_moment t later = is_tick-at t (t.start + t.period) 0 later (omega arith)

pub expires-once : (t : Ticking) (m : ℕ) → 0 < m → expires true t m ≡ eqb m (t.start + t.period)
expires-once t m later = by_order (cases_order m (t.start + t.period))
  where
    other : eqb m (t.start + t.period) ≡ false → expires true t m ≡ eqb m (t.start + t.period)
    other e = rw e (and_right _ _ refl)

    by_order : (m ≡ t.start + t.period) ⊎ ((m < t.start + t.period) ⊎ (t.start + t.period < m)) → expires true t m ≡ eqb m (t.start + t.period)
    by_order (inl e) =
        let ticks : is_tick t m ≡ true = rw e (first_moment t (omega arith)) in
        rw (ticks, eq-eqb m (t.start + t.period) e)
    by_order (inr (inl h)) = other (ne_eqb m (t.start + t.period) (λ e. omega arith))
    by_order (inr (inr h)) = other (ne_eqb m (t.start + t.period) (λ e. omega arith))

-- ---- how often

pub counted-single : (test : ℕ → Bool) (single from n : ℕ) → ((m : ℕ) → 0 < m → test m ≡ eqb m single)
    → counted test from n ≡ cond (ltb from single && leb single (from + n)) 1 0
unfolding counted
counted-single test single from zero is = sym (by_order (cases_lt from single))
  where
    by_order : (from < single) ⊎ (single ≤ from) → cond {A = ℕ} (ltb from single && leb single (from + 0)) 1 0 ≡ 0
    by_order (inl h) = rw (lt-leb single (from + 0) (omega arith), and_right (ltb from single) false refl)
    by_order (inr h) = rw (le-ltb from single h)
counted-single test single from (suc n) is = rw (is (from + suc n) (omega arith)) (by_order (counted-single test single from n is) (cases_order single (from + suc n)))
  where
    by_order : counted test from n ≡ cond (ltb from single && leb single (from + n)) 1 0 → (single ≡ from + suc n) ⊎ ((single < from + suc n) ⊎ (from + suc n < single))
        → counted test from n + cond (eqb (from + suc n) single) 1 0 ≡ cond (ltb from single && leb single (from + suc n)) 1 0
    by_order before (inl e) =
        rw (
          before,
          lt-leb single (from + n) (omega arith),
          and_right (ltb from single) false refl,
          eq-eqb (from + suc n) single (sym e),
          lt-ltb from single (omega arith),
          le-leb single (from + suc n) (omega arith),
        )
    by_order before (inr (inl h)) =
        rw (before, le-leb single (from + n) (omega arith), ne_eqb (from + suc n) single (λ e. omega arith), le-leb single (from + suc n) (omega arith), add-zero)
    by_order before (inr (inr h)) =
        rw (
          before,
          lt-leb single (from + n) (omega arith),
          and_right (ltb from single) false refl,
          ne_eqb (from + suc n) single (λ e. omega arith),
          lt-leb single (from + suc n) h,
          and_right (ltb from single) false refl,
        )

-- it expires once where its first moment is after `from` and not after the n-th moment from there
pub counted-once : (t : Ticking) (from n : ℕ)
    → counted (expires true t) from n ≡ cond (ltb from (t.start + t.period) && leb (t.start + t.period) (from + n)) 1 0
counted-once t from n = counted-single (expires true t) (t.start + t.period) from n (expires-once t)

-- ---- when first

pub once-first : (t : Ticking) (from to : ℕ) → from < t.start + t.period → IsFirstPassing (expires true t) from to (t.start + t.period)
once-first t from to later = record {
  after = later;
  least = λ m after earlier within. expires-once t m (omega arith) ∙ ne_eqb m (t.start + t.period) (λ e. omega arith);
  passes = λ within. expires-once t (t.start + t.period) (omega arith) ∙ eq-eqb (t.start + t.period) (t.start + t.period) refl;
}

pub once-spent : (t : Ticking) (from m : ℕ) → t.start + t.period ≤ from → from < m → expires true t m ≡ false
once-spent t from m over later = expires-once t m (omega arith) ∙ ne_eqb m (t.start + t.period) (λ e. omega arith)

-- what never passes the test comes first after all
pub first-of_none : (test : ℕ → Bool) (from to : ℕ) → from ≤ to → ((m : ℕ) → from < m → test m ≡ false) → IsFirstPassing test from to (suc to)
first-of_none test from to ordered none = record {
  after = omega arith;
  least = λ m after earlier within. none m after;
  passes = λ within. absurd (omega arith);
}

-- ---- the first moment of all, as `first_after(-1)` gives it

before_first : (t : Ticking) (m : ℕ) → 0 < t.period → m < t.start + t.period → is_tick t m ≡ false
before_first t m positive earlier = is_tick-false t m (λ j e. omega arith)

pub next_tick-first : (t : Ticking) (m : ℕ) → 0 < t.period → IsNextTick (is_tick t) (negsuc 0) m → m ≡ t.start + t.period
next_tick-first t m positive next = by_order (cases_order m (t.start + t.period))
  where
    by_order : (m ≡ t.start + t.period) ⊎ ((m < t.start + t.period) ⊎ (t.start + t.period < m)) → m ≡ t.start + t.period
    by_order (inl e) = e
    by_order (inr (inl h)) = absurd (true≢false (sym next.tick ∙ before_first t m positive h))
    by_order (inr (inr h)) = absurd (true≢false (sym (first_moment t (omega arith)) ∙ next.least (t.start + t.period) (omega (arith, ints)) h))

pub next_tick-no_first : (t : Ticking) → 0 < t.period → HasNoTick (is_tick t) (negsuc 0) → last_moment < t.start + t.period
next_tick-no_first t positive none = by_size (cases_lt last_moment (t.start + t.period))
  where
    by_size : (last_moment < t.start + t.period) ⊎ (t.start + t.period ≤ last_moment) → last_moment < t.start + t.period
    by_size (inl h) = h
    by_size (inr h) = absurd (true≢false (sym (first_moment t (omega arith)) ∙ none (t.start + t.period) (omega (arith, ints)) h))
