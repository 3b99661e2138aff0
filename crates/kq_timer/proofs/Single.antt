-- A timer that expires at one moment alone: how often it does so in a span, and when next.
use Rattle.std.proofs.Common.{◌≡◌, ◌+◌, ◌-◌, ℕ, ◌<◌, ◌≤◌, cond, ◌&&◌, eqb, leb, ltb, ℤ, pos, negsuc, ◌<ℤ◌, ◌≤ℤ◌, unsigned_abs, refl, sym, ap, ap₂, ◌∙◌, arith}
use Rattle.std.proofs.lemmas.Bool.{eq-eqb, ne_eqb, lt-ltb, le-ltb, le-leb, lt-leb}
use Rattle.std.proofs.lemmas.Bool.Decides.{nat_tests}
use Rattle.std.proofs.lemmas.Int.{ints}
use Rattle.kq_model.specs.Ticks.{Ticking, is_tick}
use Rattle.kq_model.specs.NextTicks.{ticks_between, IsNextTick, HasNoTick}
use Rattle.kq_model.proofs.TicksOnce.{counted-single}

abbrev pub at_moment : ℕ → Ticking
at_moment m = record { start = m; period = 0 }

-- of all moments it expires at this one
is_tick-single : (m n : ℕ) → is_tick (at_moment m) n ≡ eqb m n
unfolding is_tick
is_tick-single m n = refl

eqb-turned : (a b : ℕ) → eqb a b ≡ eqb b a
eqb-turned a b = grind (arith, nat_tests)

-- ---- how often

between : (m from to : ℕ) → from ≤ to → ticks_between (is_tick (at_moment m)) from to ≡ cond {A = ℕ} (ltb from m && leb m to) 1 0
between m from to ordered =
    let whole : from + (to - from) ≡ to = omega (arith, ordered) in
    counted-single (is_tick (at_moment m)) m from (to - from) (λ n _. is_tick-single m n ∙ eqb-turned m n)
    ∙ ap (λ n. cond {A = ℕ} (ltb from m && leb m n) 1 0) whole

pub single-within : (m : ℕ) (from to : ℤ) → pos 0 ≤ℤ from → from <ℤ pos m → pos m ≤ℤ to
    → pos 1 ≡ pos (ticks_between (is_tick (at_moment m)) (unsigned_abs from) (unsigned_abs to))
single-within m (pos a) (pos b) past after before =
    let later : a < m = omega (arith, ints) in
    let in_time : m ≤ b = omega (arith, ints) in
    ap pos (sym (between m a b (omega arith) ∙ ap₂ (λ x y. cond {A = ℕ} (x && y) 1 0) (lt-ltb a m later) (le-leb m b in_time)))
single-within m (pos a) (negsuc b) past after before = absurd (omega (arith, ints))
single-within m (negsuc a) to past after before = absurd (omega (arith, ints))

pub single-over : (m : ℕ) (from to : ℤ) → pos 0 ≤ℤ from → from ≤ℤ to → pos m ≤ℤ from
    → pos 0 ≡ pos (ticks_between (is_tick (at_moment m)) (unsigned_abs from) (unsigned_abs to))
single-over m (pos a) (pos b) past ordered over =
    let gone : m ≤ a = omega (arith, ints) in
    ap pos (sym (between m a b (omega (arith, ints)) ∙ ap (λ x. cond {A = ℕ} (x && leb m b) 1 0) (le-ltb a m gone)))
single-over m (pos a) (negsuc b) past ordered over = absurd (omega (arith, ints))
single-over m (negsuc a) to past ordered over = absurd (omega (arith, ints))

pub single-to_come : (m : ℕ) (from to : ℤ) → pos 0 ≤ℤ from → from ≤ℤ to → to <ℤ pos m
    → pos 0 ≡ pos (ticks_between (is_tick (at_moment m)) (unsigned_abs from) (unsigned_abs to))
single-to_come m (pos a) (pos b) past ordered early =
    let ahead : b < m = omega (arith, ints) in
    let later : a < m = omega (arith, ints) in
    ap pos (sym (between m a b (omega (arith, ints)) ∙ ap₂ (λ x y. cond {A = ℕ} (x && y) 1 0) (lt-ltb a m later) (lt-leb m b ahead)))
single-to_come m (pos a) (negsuc b) past ordered early = absurd (omega (arith, ints))
single-to_come m (negsuc a) to past ordered early = absurd (omega (arith, ints))

-- ---- when next

pub single-next : (m : ℕ) (from : ℤ) → from <ℤ pos m → IsNextTick (is_tick (at_moment m)) from m
single-next m from after = record {
  after = after;
  tick = is_tick-single m m ∙ eq-eqb m m refl;
  least = λ n _ earlier. is_tick-single m n ∙ ne_eqb m n (λ e. omega (arith, e, earlier));
}

pub single-none : (m : ℕ) (from : ℤ) → pos m ≤ℤ from → HasNoTick (is_tick (at_moment m)) from
single-none m from over n after in_time = is_tick-single m n ∙ ne_eqb m n (λ e. omega (arith, ints, e, after, over))
