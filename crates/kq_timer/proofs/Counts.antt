-- What `ticks` counts: the quotients of two moments differ by the ticks between them, of which there are
-- no more than moments.
use Rattle.std.proofs.Common.{◌≡◌, ◌-◌, ◌/◌, ◌<◌, ◌≤◌, ℕ, ℤ, pos, negsuc, ◌≤ℤ◌, unsigned_abs, FitsSigned, w64, to_z, of_z, arith, sym, ap, ◌∙◌}
use Rattle.std.proofs.lemmas.Int.{ints, to_z-of_z, to_z_pos}
use Rattle.std.proofs.Math.Nat.{div-le_self}
use Rattle.kq_model.specs.Ticks.{Ticking, is_tick}
use Rattle.kq_model.specs.NextTicks.{ticks_between}
use Rattle.kq_model.proofs.Ticks.{periods, ticks_between-periods}

ticks_are : (t : Ticking) (from to : ℤ) → 0 < t.period → pos 0 ≤ℤ from → from ≤ℤ to → FitsSigned w64 to
    → to_z w64 (periods t (unsigned_abs to) - periods t (unsigned_abs from)) ≡ pos (ticks_between (is_tick t) (unsigned_abs from) (unsigned_abs to))
ticks_are t (pos a) (pos b) positive past ordered fits =
    let below : periods t b ≤ b = omega (arith, div-le_self (b - t.start) t.period) in
    to_z_pos w64 _ (omega (arith, ints, below, fits)) ∙ ap pos (sym (ticks_between-periods t a b positive (omega (arith, ints))))
ticks_are t (pos a) (negsuc b) positive past ordered fits = absurd (omega (arith, ints))
ticks_are t (negsuc a) to positive past ordered fits = absurd (omega (arith, ints))

-- at the values that the code has
pub ticks_found : (t : Ticking) (from to : ℤ) (before until p : ℕ) → FitsSigned w64 from → FitsSigned w64 to → pos 0 ≤ℤ from → from ≤ℤ to → 0 < p → p ≡ t.period
    → before ≡ unsigned_abs (to_z w64 (of_z w64 from)) - t.start → until ≡ unsigned_abs (to_z w64 (of_z w64 to)) - t.start
    → to_z w64 (until / p - before / p) ≡ pos (ticks_between (is_tick t) (unsigned_abs from) (unsigned_abs to))
ticks_found t from to before until p from_fits to_fits past ordered positive e b u =
    rw (e, b, u, to_z-of_z w64 from from_fits, to_z-of_z w64 to to_fits) (ticks_are t from to (rw e at positive) past ordered to_fits)
