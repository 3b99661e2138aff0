-- The numbers that a seat owns are cut in two: those that leave n, and those that leave n + stride,
-- when divided by twice the stride.
use Rattle.std.proofs.Common.{◌≡◌, ℕ, ◌+◌, ◌*◌, ◌/◌, ◌%◌, ◌<◌, ap, ◌∙◌, arith, div-add-mod'}
use Rattle.std.proofs.Math.Nat.{mul-add-mod_self_right, add-mod_right, mod-eq_of_lt}

half : (n s a : ℕ) → n % (s + s) ≡ a → n % s ≡ a % s
half n s a e = let q : ℕ = n / (s + s) in let whole : q * (s + s) + n % (s + s) ≡ n =
    div-add-mod' n (s + s) in
    let parts : n ≡ q * 2 * s + a = omega arith in ap (λ (z : ℕ). z % s) parts
    ∙ mul-add-mod_self_right (q * 2) s a

pub first_owns : (n s a : ℕ) → a < s → n % (s + s) ≡ a → n % s ≡ a
first_owns n s a l e = half n s a e ∙ mod-eq_of_lt l

pub second_owns : (n s a : ℕ) → a < s → n % (s + s) ≡ a + s → n % s ≡ a
second_owns n s a l e = half n s (a + s) e ∙ (add-mod_right a s ∙ mod-eq_of_lt l)

-- a seat owns its own number
pub owns_own : (s a : ℕ) → a < s → a % s ≡ a
owns_own s a l = mod-eq_of_lt l
