-- Amounts: what reaches a mark after bytes were taken, or after space was used, reached it before.
use Rattle.std.proofs.Common.{◌≡◌, ℕ, ◌+◌, ◌-◌, ℤ, pos, ◌+ℤ◌, ◌-ℤ◌, int_lt, int_le, nat_lt, Bool, true, false, ◌||◌, refl, sym, ap, ◌∙◌, arith}
use Rattle.std.proofs.lemmas.Bool.{true≢false}
use Rattle.std.proofs.lemmas.Bool.Decides.{nat_tests}
use Rattle.std.proofs.lemmas.Int.{ints}
use Rattle.std.specs.Int.{saturate_signed, w64}
use Rattle.kq_model.specs.Look.{difference}
use Rattle.kq_model.proofs.KnoteLaws.{by_test}

pub reached-before : (mark amount : ℤ) (n : ℕ) → int_le mark (amount -ℤ pos n) ≡ true → int_le mark amount ≡ true
reached-before mark amount n e = grind (arith, ints)

pub some-before : (amount : ℤ) (n : ℕ) → int_lt (pos 0) (amount -ℤ pos n) ≡ true → int_lt (pos 0) amount ≡ true
some-before amount n e = grind (arith, ints)

pub none-after : (amount : ℤ) (n : ℕ) → int_lt (pos 0) amount ≡ false → int_lt (pos 0) (amount -ℤ pos n) ≡ false
none-after amount n e = grind (arith, ints)

pub room-before : (mark size used : ℤ) (n : ℕ) → int_le mark (size -ℤ (used +ℤ pos n)) ≡ true → int_le mark (size -ℤ used) ≡ true
room-before mark size used n e = grind (arith, ints)

-- what 64 bits hold of a difference
nearest-before : (mark a b : ℤ) → int_le a b ≡ true → int_le mark (saturate_signed w64 a) ≡ true → int_le mark (saturate_signed w64 b) ≡ true
nearest-before mark a b below e = grind (arith, ints)

pub space-before : (mark size used : ℤ) (n : ℕ) → int_le mark (difference size (used +ℤ pos n)) ≡ true → int_le mark (difference size used) ≡ true
space-before mark size used n e =
    nearest-before mark (size -ℤ (used +ℤ pos n)) (size -ℤ used) (grind (arith, ints)) e

-- there is something between the size and the offset
abbrev pub is_apart : ℕ → ℕ → Bool
is_apart size offset =
    int_lt (pos 0) (difference (pos size) (pos offset)) || int_lt (difference (pos size) (pos offset)) (pos 0)

zero-nearest : (z : ℤ) → (int_lt (pos 0) (saturate_signed w64 z) || int_lt (saturate_signed w64 z) (pos 0)) ≡ false → z ≡ pos 0
zero-nearest z e = grind (arith, ints)

-- so there is where bytes are read, since no more are read than there are
pub apart-before : (size offset bytes : ℕ) → nat_lt (size - offset) bytes ≡ false → is_apart size (offset + bytes) ≡ true → is_apart size offset ≡ true
apart-before size offset bytes within e =
    by_test (λ b. is_apart size offset ≡ b → b ≡ true) (is_apart size offset) (λ _ _. refl)
    (λ _ off. absurd (let same = zero-nearest (pos size -ℤ pos offset) off in
    let equal : size ≡ offset = omega (arith, ints) in
    let none : bytes ≡ 0 = grind (arith, nat_tests) in
    true≢false (sym e ∙ ap (λ n. is_apart size n) (omega arith) ∙ off))) refl
