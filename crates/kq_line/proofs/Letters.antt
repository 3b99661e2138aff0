-- Names as text: they are spelled as they are.
use Rattle.std.proofs.Common.{◌≡◌, ℕ, suc, ◌<◌, ◌≤◌, Bool, true, List, [], ◌∷◌, ◌++◌, length, get_or, take, IsUtf8, bytes_eq, inl, inr, refl, sym, ap, ap₂, ◌∙◌, arith, lt-ltb, get_or-take}
use Rattle.std.proofs.lemmas.Bool.{and_from}
use Rattle.std.proofs.lemmas.Slice.Eq.{bytes_eq-Decides}
use Rattle.json.specs.Print.{escape, escape_byte, quoted}
use Rattle.json.proofs.Printed.Strings.{escape_byte_plain}
use Rattle.json.proofs.Printed.Utf8.{are_ascii, IsUtf8-are_ascii}
use Rattle.kq_line.specs.Names.{IsLetter, IsName}

letter_plain : (b : ℕ) → IsLetter b → escape_byte b ≡ b ∷ []
letter_plain b (inl h) = escape_byte_plain b (λ e. omega arith) (λ e. omega arith) (omega arith)
letter_plain b (inr h) = escape_byte_plain b (λ e. omega arith) (λ e. omega arith) (omega arith)

letter_small : (b : ℕ) → IsLetter b → b < 128
letter_small b (inl h) = omega arith
letter_small b (inr h) = omega arith

pub name_escaped : (name : List ℕ) → IsName name → escape name ≡ name
name_escaped [] letters = refl
name_escaped (b ∷ bs) letters =
    ap₂ (λ (x y : List ℕ). x ++ y) (letter_plain b (letters 0 (omega arith))) (name_escaped bs (λ k below. letters (suc k) (omega arith)))

name_ascii : (name : List ℕ) → IsName name → are_ascii name ≡ true
name_ascii [] letters = refl
name_ascii (b ∷ bs) letters =
    and_from _ _ (lt-ltb b 128 (letter_small b (letters 0 (omega arith)))) (name_ascii bs (λ k below. letters (suc k) (omega arith)))

pub name_utf8 : (name : List ℕ) → IsName name → IsUtf8 name
name_utf8 name letters = IsUtf8-are_ascii name (name_ascii name letters)

pub name_quoted : (name : List ℕ) → IsName name → quoted name ≡ 34 ∷ (name ++ 34 ∷ [])
name_quoted name letters = ap (λ s. 34 ∷ (s ++ 34 ∷ [])) (name_escaped name letters)

pub letters_taken : (text name : List ℕ) (n : ℕ) → n ≤ length text → name ≡ take n text → length name ≡ n
    → ((k : ℕ) → k < n → IsLetter (get_or text k 0)) → IsName name
letters_taken text name n within is long letters k below =
    let lt : k < n = omega arith in
    let same : get_or name k 0 ≡ get_or text k 0 = ap (λ s. get_or s k 0) is ∙ get_or-take n text k 0 lt in
    rw same (letters k lt)

-- ---- two names that are one

pub same_name : (b : Bool) (name other : List ℕ) → b ≡ true → b ≡ bytes_eq name other → name ≡ other
same_name b name other holds e = (bytes_eq-Decides name other).0 (sym e ∙ holds)
