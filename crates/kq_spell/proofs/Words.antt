-- Names of small letters: they are spelled as they are, and each byte of them is seen.
use Rattle.std.proofs.Common.{◌≡◌, ℕ, ◌<◌, true, ◌&&◌, List, [], ◌∷◌, ◌++◌, nat_lt, refl, ap, ap₂, ltb-true, arith}
use Rattle.std.proofs.lemmas.Bool.{and_parts}
use Rattle.json.specs.Print.{escape, escape_byte}
use Rattle.json.proofs.Printed.Strings.{escape_byte_plain}
use Rattle.serde_json.specs.Data.{string}
use Rattle.serde_json.specs.Written.{compact_text}
use Rattle.kq_spell.specs.Texts.{is_word}

pub letter_range : (b : ℕ) → (nat_lt 96 b && nat_lt b 123) ≡ true → (96 < b) × (b < 123)
letter_range b is = let p = and_parts (nat_lt 96 b) (nat_lt b 123) is in (ltb-true 96 b p.0, ltb-true b 123 p.1)

letter_plain : (b : ℕ) → 96 < b → b < 123 → escape_byte b ≡ b ∷ []
letter_plain b above below = escape_byte_plain b (λ e. omega arith) (λ e. omega arith) (omega arith)

pub word_escaped : (name : List ℕ) → is_word name ≡ true → escape name ≡ name
word_escaped [] is = refl
word_escaped (b ∷ bs) is =
    let p = and_parts (nat_lt 96 b && nat_lt b 123) (is_word bs) is in
    let r = letter_range b p.0 in
    ap₂ (λ (x y : List ℕ). x ++ y) (letter_plain b r.0 r.1) (word_escaped bs p.1)

pub word_text : (name : List ℕ) → is_word name ≡ true → compact_text (string name) ≡ 34 ∷ (name ++ 34 ∷ [])
word_text name is = ap (λ s. 34 ∷ (s ++ 34 ∷ [])) (word_escaped name is)
