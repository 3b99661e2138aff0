-- Values without parts, as they stand in a line.
use Rattle.std.proofs.Common.{◌≡◌, ℕ, suc, ◌^◌, ◌<◌, negsuc, Bool, List, [], ◌∷◌, ◌++◌, decimal, Bor, IsUtf8, option_map, refl, sym, ap, ◌∙◌, arith, append_assoc}
use Rattle.std.specs.Fmt.{signed_decimal}
use Rattle.std.proofs.lemmas.Fmt.{IsAscii-decimal}
use Rattle.std.proofs.lemmas.Str.{IsUtf8-append, IsUtf8-from_ascii}
use Rattle.json.specs.Json as json
use Rattle.json.specs.Print.{quoted, token_text}
use Rattle.json.specs.Token.{Token}
use Rattle.json.proofs.Printed.Decimals.{IsNumber-decimal, IsNumber-signed_decimal}
use Rattle.json.proofs.Printed.Utf8.{IsUtf8-are_ascii, IsUtf8-boolean, IsUtf8-quoted}
use Rattle.serde_json.specs.Data.{boolean, negative, number, string, unsigned}
use Rattle.serde_json.proofs.Numbers.{number_of-decimal, number_of-negative}
use Rattle.kq_line.specs.declared.piece.Piece.TheVariants.{Number, Below, Truth, Name}
use Rattle.kq_line.specs.Names.{IsName}
use Rattle.kq_line.specs.Spells.{IsValue}
use Rattle.kq_line.specs.Values.{IsScalar}
use Rattle.kq_line.proofs.Letters.{name_quoted, name_utf8}
use Rattle.kq_line.proofs.Spelled.{spells_alone}

decimal_utf8 : (n : ℕ) → n < 2 ^ 64 → IsUtf8 (decimal n)
decimal_utf8 n fits = IsUtf8-from_ascii (decimal n) (IsAscii-decimal n fits)

-- a name in quotation marks
pub name_text : (name tail : List ℕ) → IsName name → quoted name ++ tail ≡ 34 ∷ (name ++ 34 ∷ tail)
name_text name tail letters = ap (λ s. s ++ tail) (name_quoted name letters) ∙ ap (λ s. 34 ∷ s) (append_assoc name (34 ∷ []) tail)

pub name_value : (text name tail : List ℕ) → IsName name → text ≡ 34 ∷ (name ++ 34 ∷ tail) → IsValue 0 text tail (string name)
name_value text name tail letters cut = record {
  written = json.string name;
  means = refl;
  nests = omega arith;
  spelled = spells_alone (Token.string name) text tail tt (IsUtf8-quoted name (name_utf8 name letters)) (cut ∙ sym (name_text name tail letters));
}

pub number_value : (text tail : List ℕ) (n : ℕ) → n < 2 ^ 64 → text ≡ decimal n ++ tail → IsValue 0 text tail (number (unsigned n))
number_value text tail n fits cut = record {
  written = json.number (decimal n);
  means = ap (option_map number) (number_of-decimal n fits);
  nests = omega arith;
  spelled = spells_alone (Token.number (decimal n)) text tail (IsNumber-decimal n fits) (decimal_utf8 n fits) cut;
}

pub below_value : (text digits tail : List ℕ) (size far : ℕ) → size ≡ suc far → far < 2 ^ 63 → text ≡ 45 ∷ digits → digits ≡ decimal size ++ tail
    → IsValue 0 text tail (number (negative (negsuc far)))
below_value text digits tail size far is fits minus cut = record {
  written = json.number (signed_decimal (negsuc far));
  means = ap (option_map number) (number_of-negative far fits);
  nests = omega arith;
  spelled = spells_alone (Token.number (signed_decimal (negsuc far))) text tail (IsNumber-signed_decimal (negsuc far) fits)
      (IsUtf8-append (45 ∷ []) _ (IsUtf8-are_ascii (45 ∷ []) refl) (decimal_utf8 (suc far) (omega arith)))
      (minus ∙ ap (λ s. 45 ∷ s) (cut ∙ ap (λ n. decimal n ++ tail) is));
}

pub truth_value : (text tail : List ℕ) (b : Bool) (word : List ℕ) → text ≡ word ++ tail → word ≡ token_text (Token.boolean b) → IsValue 0 text tail (boolean b)
truth_value text tail b word cut is = record {
  written = json.boolean b;
  means = refl;
  nests = omega arith;
  spelled = spells_alone (Token.boolean b) text tail tt (IsUtf8-boolean b) (cut ∙ ap (λ w. w ++ tail) is);
}

-- ---- what the code found

pub name_scalar : (text name tail : List ℕ) (s : Bor (List ℕ)) → s.now ≡ name → IsName name → text ≡ 34 ∷ (name ++ 34 ∷ tail) → IsScalar text (Name s) tail
name_scalar text name tail s is letters cut = (string name, name_value text name tail letters cut, λ changes. ap string (sym is))

pub number_scalar : (text tail : List ℕ) (n : ℕ) → n < 2 ^ 64 → text ≡ decimal n ++ tail → IsScalar text (Number n) tail
number_scalar text tail n fits cut = (number (unsigned n), number_value text tail n fits cut, λ changes. (refl, fits))

pub below_scalar : (text digits tail : List ℕ) (size far : ℕ) → size ≡ suc far → far < 2 ^ 63 → text ≡ 45 ∷ digits → digits ≡ decimal size ++ tail
    → IsScalar text (Below far) tail
below_scalar text digits tail size far is fits minus cut =
    (number (negative (negsuc far)), below_value text digits tail size far is fits minus cut, λ changes. (refl, fits))

pub truth_scalar : (text tail : List ℕ) (b : Bool) (word : List ℕ) → text ≡ word ++ tail → word ≡ token_text (Token.boolean b) → IsScalar text (Truth b) tail
truth_scalar text tail b word cut is = (boolean b, truth_value text tail b word cut is, λ changes. refl)
