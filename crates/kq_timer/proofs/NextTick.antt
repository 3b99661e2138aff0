-- What `next_after` computes, one period after the last whole one, is the next tick.
use Rattle.std.proofs.Common.{◌≡◌, ℕ, ◌+◌, ◌-◌, ◌%◌, ◌<◌, ◌≤◌, max, ℤ, pos, negsuc, ◌<ℤ◌, unsigned_abs, ◌==◌, false, cond, ◌⊎◌, inl, inr, ap, arith}
use Rattle.std.specs.Int.{int_max}
use Rattle.std.proofs.lemmas.Bool.{cases_lt, ne_eqb}
use Rattle.std.proofs.lemmas.Int.{ints, clamps}
use Rattle.std.proofs.lemmas.Nat.{div-add-mod'}
use Rattle.kq_model.specs.Ticks.{Ticking, is_among_first, is_tick}
use Rattle.kq_model.specs.NextTicks.{IsNextTick}
use Rattle.kq_model.proofs.Ticks.{moment_after, moment_after-later, moment_after-tick, moment_after-least}

never_at_zero : (t : Ticking) → 0 < t.period → is_tick t 0 ≡ false
unfolding is_tick is_among_first
never_at_zero t positive = ap (λ b. cond b (t.start == 0) false) (ne_eqb t.period 0 (λ e. omega (arith, e, positive)))

-- `base` is `from`, or 0 where that is negative
none_between : (t : Ticking) (from : ℤ) (base m : ℕ) → 0 < t.period → pos base ≡ int_max from (pos 0) → from <ℤ pos m → m < moment_after t base → is_tick t m ≡ false
none_between t from base m positive e later earlier = by_base (cases_lt base m)
  where
    by_base : (base < m) ⊎ (m ≤ base) → is_tick t m ≡ false
    by_base (inl h) = moment_after-least t base m positive h earlier
    by_base (inr h) =
        let start : m ≡ 0 = omega (arith, ints, clamps) in
        rw start (never_at_zero t positive)

pub next_is : (t : Ticking) (from : ℤ) (base : ℕ) → 0 < t.period → pos base ≡ int_max from (pos 0) → IsNextTick (is_tick t) from (moment_after t base)
next_is t from base positive e =
    let later = moment_after-later t base positive in
    record {
      after = omega (arith, ints, clamps);
      tick = moment_after-tick t base positive;
      least = λ m h k. none_between t from base m positive e h k;
    }

-- what the code computes from `later`, the later of `base` and the start
pub moment_after-code : (t : Ticking) (base later : ℕ) → later ≡ max base t.start → later - (later - t.start) % t.period + t.period ≡ moment_after t base
moment_after-code t base later e =
    let same : later - t.start ≡ base - t.start = omega arith in
    rw same (omega (arith, div-add-mod' (base - t.start) t.period))

not_negative : (z from : ℤ) → z ≡ int_max from (pos 0) → pos (unsigned_abs z) ≡ int_max from (pos 0)
not_negative (pos n) from e = e
not_negative (negsuc n) from e = absurd (omega (arith, ints, clamps))

-- with the later of `from` and 0 as the code has it
pub next_found : (t : Ticking) (from z : ℤ) (later : ℕ) → 0 < t.period → z ≡ int_max from (pos 0) → later ≡ max (unsigned_abs z) t.start
    → IsNextTick (is_tick t) from (later - (later - t.start) % t.period + t.period)
next_found t from z later positive e l = rw (moment_after-code t (unsigned_abs z) later l) (next_is t from (unsigned_abs z) positive (not_negative z from e))
