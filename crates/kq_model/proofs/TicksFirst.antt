-- The first of the moments that pass a test: there is just one answer, and it is in time just where
-- some moment is counted.
use Rattle.std.proofs.Common.{◌≡◌, ℕ, zero, suc, ◌+◌, ◌-◌, ◌<◌, ◌≤◌, Bool, true, false, cond, leb, ltb, pos, ◌⊎◌, inl, inr, sym, ap, ◌∙◌, add-zero, arith}
use Rattle.std.proofs.lemmas.Bool.{cases_lt, cases_order, cases_Bool, le-leb, lt-leb, lt-ltb, true≢false}
use Rattle.std.proofs.lemmas.Int.{ints}
use Rattle.kq_model.specs.Ticks.{last_moment}
use Rattle.kq_model.specs.NextTicks.{counted}
use Rattle.kq_model.specs.NextTicks.{first_passing, next_tick, IsNextTick, HasNoTick}
use Rattle.kq_model.specs.WalkedAtOnce.{IsFirstPassing}

-- ---- the definition finds it

module _ (test : ℕ → Bool) (from to first : ℕ) (is : IsFirstPassing test from to first) where
  in_time_stays : first ≤ to → IsFirstPassing test from (suc to) first
  in_time_stays h = record {
    after = is.after;
    least = λ m later earlier within. is.least m later earlier (omega arith);
    passes = λ _. is.passes h;
  }

  found_now : to < first → from ≤ to → test (suc to) ≡ true → IsFirstPassing test from (suc to) (suc to)
  found_now h begun e = record {
    after = omega arith;
    least = λ m later earlier within. is.least m later (omega arith) (omega arith);
    passes = λ _. e;
  }

  none_yet : to < first → from ≤ to → test (suc to) ≡ false → IsFirstPassing test from (suc to) (suc (suc to))
  none_yet h begun e = record {
    after = omega arith;
    least = λ m later earlier within. by_place m later (cases_lt to m) within;
    passes = λ within. absurd (omega arith);
  }
    where
      by_place : (m : ℕ) → from < m → (to < m) ⊎ (m ≤ to) → m ≤ suc to → test m ≡ false
      by_place m later (inl past) within = let same : m ≡ suc to = omega arith in rw same e
      by_place m later (inr old) within = is.least m later (omega arith) old

pub first_passing-is : (test : ℕ → Bool) (from n : ℕ) → IsFirstPassing test from (from + n) (first_passing test from n)
unfolding first_passing
first_passing-is test from zero = record {
  after = omega arith;
  least = λ m later earlier within. absurd (omega arith);
  passes = λ within. absurd (omega arith);
}
first_passing-is test from (suc n) =
    let more : from + suc n ≡ suc (from + n) = omega arith in
    rw more (by_test (first_passing-is test from n) (cases_lt (from + n) (first_passing test from n)) (cases_Bool (test (suc (from + n)))))
  where
    by_test : IsFirstPassing test from (from + n) (first_passing test from n) → (from + n < first_passing test from n) ⊎ (first_passing test from n ≤ from + n)
        → (test (suc (from + n)) ≡ true) ⊎ (test (suc (from + n)) ≡ false)
        → IsFirstPassing test from (suc (from + n)) (cond (leb (first_passing test from n) (from + n)) (first_passing test from n) (cond (test (suc (from + n))) (suc (from + n)) (suc (suc (from + n)))))
    by_test is (inr h) _ = rw (le-leb (first_passing test from n) (from + n) h) (in_time_stays test from _ _ is h)
    by_test is (inl h) (inl e) = rw (lt-leb (first_passing test from n) (from + n) h, e) (found_now test from _ _ is h (omega arith) e)
    by_test is (inl h) (inr e) = rw (lt-leb (first_passing test from n) (from + n) h, e) (none_yet test from _ _ is h (omega arith) e)

pub next_tick-is : (test : ℕ → Bool) (from : ℕ) → from ≤ last_moment → IsFirstPassing test from last_moment (next_tick test from)
next_tick-is test from within =
    let whole : from + (last_moment - from) ≡ last_moment = omega arith in
    rw whole at (first_passing-is test from (last_moment - from))

-- ---- and there is no other

pub first_passing-none : (test : ℕ → Bool) (from n : ℕ) → ((m : ℕ) → from < m → m ≤ from + n → test m ≡ false) → first_passing test from n ≡ suc (from + n)
unfolding first_passing
first_passing-none test from zero none = rw add-zero
first_passing-none test from (suc n) none =
    let earlier = first_passing-none test from n (λ m later within. none m later (omega arith)) in
    let late : leb (first_passing test from n) (from + n) ≡ false = lt-leb _ _ (omega (arith, earlier)) in
    rw (late, none (from + suc n) (omega arith) (omega arith))

-- what `first_after` says of a next tick names this definition
pub next_tick-found : (test : ℕ → Bool) (from m : ℕ) → m ≤ last_moment → IsNextTick test (pos from) m → next_tick test from ≡ m
next_tick-found test from m in_time next = by_order (next_tick-is test from (omega (arith, ints, next.after, in_time))) (cases_order (next_tick test from) m)
  where
    by_order : IsFirstPassing test from last_moment (next_tick test from) → (next_tick test from ≡ m) ⊎ ((next_tick test from < m) ⊎ (m < next_tick test from)) → next_tick test from ≡ m
    by_order is (inl e) = e
    by_order is (inr (inl h)) =
        let ticks : test (next_tick test from) ≡ true = is.passes (omega (arith, in_time)) in
        let not : test (next_tick test from) ≡ false = next.least (next_tick test from) (omega (arith, ints, is.after)) h in
        absurd (true≢false (sym ticks ∙ not))
    by_order is (inr (inr h)) =
        let not : test m ≡ false = is.least m (omega (arith, ints, next.after)) h in_time in
        absurd (true≢false (sym next.tick ∙ not))

pub next_tick-none : (test : ℕ → Bool) (from : ℕ) → from ≤ last_moment → HasNoTick test (pos from) → next_tick test from ≡ suc last_moment
next_tick-none test from within none =
    let whole : from + (last_moment - from) ≡ last_moment = omega arith in
    first_passing-none test from (last_moment - from) (λ m later in_time. none m (omega (arith, ints)) (omega arith)) ∙ ap suc whole

-- ---- what expires is counted

pub counted-expired : (test : ℕ → Bool) (from to first n : ℕ) → IsFirstPassing test from to first → from + n ≤ to → ltb 0 (counted test from n) ≡ leb first (from + n)
unfolding counted
counted-expired test from to first zero is within = sym (lt-leb first (from + 0) (omega (arith, is.after)))
counted-expired test from to first (suc n) is within = by_test (counted-expired test from to first n is (omega arith)) (cases_Bool (test (from + suc n))) (cases_lt (from + suc n) first)
  where
    by_test : ltb 0 (counted test from n) ≡ leb first (from + n) → (test (from + suc n) ≡ true) ⊎ (test (from + suc n) ≡ false) → (from + suc n < first) ⊎ (first ≤ from + suc n)
        → ltb 0 (counted test from n + cond (test (from + suc n)) 1 0) ≡ leb first (from + suc n)
    by_test before (inl e) (inl h) = absurd (true≢false (sym e ∙ is.least (from + suc n) (omega arith) h within))
    by_test before (inl e) (inr h) = rw (e, le-leb first (from + suc n) h) (lt-ltb 0 (counted test from n + 1) (omega arith))
    by_test before (inr e) (inl h) = rw (e, lt-leb first (from + suc n) h, add-zero) (before ∙ lt-leb first (from + n) (omega arith))
    by_test before (inr e) (inr h) = rw (e, le-leb first (from + suc n) h, add-zero) (before ∙ le-leb first (from + n) (not_last (cases_order first (from + suc n))))
      where
        not_last : (first ≡ from + suc n) ⊎ ((first < from + suc n) ⊎ (from + suc n < first)) → first ≤ from + n
        not_last (inl same) = absurd (true≢false (sym (is.passes (omega arith)) ∙ rw same e))
        not_last (inr (inl below)) = omega arith
        not_last (inr (inr above)) = omega arith
