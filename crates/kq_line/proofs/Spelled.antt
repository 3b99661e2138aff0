-- A text that spells tokens, put together from parts.
use Rattle.std.proofs.Common.{◌≡◌, ℕ, Bool, true, false, cond, ◌&&◌, List, [], ◌∷◌, ◌++◌, fold, map, IsUtf8, refl, sym, ap, ap₂, ◌∙◌, subst, append_assoc}
use Rattle.std.proofs.lemmas.List.{map-append}
use Rattle.std.proofs.lemmas.Str.{IsUtf8-append, IsUtf8-nil}
use Rattle.json.specs.Print.{ArePrintable, IsPrintable, begins, ends, separator, token_text}
use Rattle.json.specs.Spaced.{AreGaps, IsGap, print_spaced}
use Rattle.json.specs.Token.{Token}
use Rattle.json.proofs.Printed.Tokens.{IsGap-append}
use Rattle.json.proofs.Printed.Utf8.{IsUtf8-IsGap, IsUtf8-separator}
use Rattle.kq_line.specs.Spells.{Spells}

abbrev pub Spaced : Type 0
Spaced = List (List ℕ × Token)

abbrev pub tokens_of : Spaced → List Token
tokens_of ps = map (λ p. p.1) ps

-- whether a value has ended behind these tokens
abbrev pub ends_after : Bool → List Token → Bool
ends_after after ts = fold (λ _ t. ends t) after ts

-- a comma, where a value stands before
abbrev pub comma_behind : Bool → List ℕ
comma_behind after = cond after (44 ∷ []) []

-- ---- none, and one more in front

pub spells_none : (after : Bool) (tail : List ℕ) → Spells after [] tail tail
unfolding print_spaced ArePrintable
spells_none after tail = record { printed = []; gaps = tt; same = refl; printable = tt; utf8 = IsUtf8-nil; cut = refl }

regroup : (a b c d e : List ℕ) → a ++ (b ++ (c ++ (d ++ e))) ≡ (a ++ (b ++ (c ++ d))) ++ e
regroup a b c d e = simp append_assoc

pub spells_first : (after : Bool) (gap : List ℕ) (t : Token) (ts : List Token) (text rest tail : List ℕ) → IsGap gap → IsPrintable t → IsUtf8 (token_text t)
    → text ≡ separator after t ++ (gap ++ (token_text t ++ rest)) → Spells (ends t) ts rest tail → Spells after (t ∷ ts) text tail
unfolding print_spaced ArePrintable
spells_first after gap t ts text rest tail blank printable utf8 cut more = record {
  printed = (gap, t) ∷ more.printed;
  gaps = (blank, more.gaps);
  same = ap (λ us. t ∷ us) more.same;
  printable = (printable, more.printable);
  utf8 = IsUtf8-append (separator after t) _ (IsUtf8-separator after t)
      (IsUtf8-append gap _ (IsUtf8-IsGap gap blank) (IsUtf8-append (token_text t) _ utf8 more.utf8));
  cut = cut ∙ ap (λ r. separator after t ++ (gap ++ (token_text t ++ r))) more.cut
      ∙ regroup (separator after t) gap (token_text t) (print_spaced (ends t) more.printed) tail;
}

-- a token alone
pub spells_alone : (t : Token) (text tail : List ℕ) → IsPrintable t → IsUtf8 (token_text t) → text ≡ token_text t ++ tail → Spells false (t ∷ []) text tail
spells_alone t text tail printable utf8 cut =
    spells_first false [] t [] text tail tail tt printable utf8 cut (spells_none (ends t) tail)

-- ---- one text behind another

spaced_append : (after : Bool) (ps qs : Spaced) → print_spaced after (ps ++ qs) ≡ print_spaced after ps ++ print_spaced (ends_after after (tokens_of ps)) qs
unfolding print_spaced
spaced_append after [] qs = refl
spaced_append after (p ∷ ps) qs =
    ap (λ l. separator after p.1 ++ (p.0 ++ (token_text p.1 ++ l))) (spaced_append (ends p.1) ps qs)
    ∙ regroup (separator after p.1) p.0 (token_text p.1) (print_spaced (ends p.1) ps) (print_spaced (ends_after (ends p.1) (tokens_of ps)) qs)

gaps_append : (ps qs : Spaced) → AreGaps ps → AreGaps qs → AreGaps (ps ++ qs)
gaps_append [] qs first later = later
gaps_append (p ∷ ps) qs first later = (first.0, gaps_append ps qs first.1 later)

printable_append : (ts us : List Token) → ArePrintable ts → ArePrintable us → ArePrintable (ts ++ us)
unfolding ArePrintable
printable_append [] us first later = later
printable_append (t ∷ ts) us first later = (first.0, printable_append ts us first.1 later)

pub spells_append : (after : Bool) (ts us : List Token) (text mid tail : List ℕ) → Spells after ts text mid → Spells (ends_after after ts) us mid tail → Spells after (ts ++ us) text tail
spells_append after ts us text mid tail first later =
    let ps = first.printed in
    let qs = later.printed in
    let joined : print_spaced after (ps ++ qs) ≡ print_spaced after ps ++ print_spaced (ends_after after ts) qs =
    spaced_append after ps qs ∙ ap (λ vs. print_spaced after ps ++ print_spaced (ends_after after vs) qs) first.same in
    record {
      printed = ps ++ qs;
      gaps = gaps_append ps qs first.gaps later.gaps;
      same = map-append (λ (p : List ℕ × Token). p.1) ps qs ∙ ap₂ (λ (x y : List Token). x ++ y) first.same later.same;
      printable = printable_append ts us first.printable later.printable;
      utf8 = subst IsUtf8 (sym joined) (IsUtf8-append _ _ first.utf8 later.utf8);
      cut = first.cut ∙ ap (λ r. print_spaced after ps ++ r) later.cut
          ∙ sym (append_assoc (print_spaced after ps) (print_spaced (ends_after after ts) qs) tail) ∙ ap (λ l. l ++ tail) (sym joined);
    }

-- ---- behind a comma and a gap

widened : (s g h x tail : List ℕ) → s ++ (g ++ ((h ++ x) ++ tail)) ≡ (s ++ ((g ++ h) ++ x)) ++ tail
widened s g h x tail = simp append_assoc

comma_is : (after b : Bool) → b ≡ true → cond (after && b) (44 ∷ []) [] ≡ comma_behind after
comma_is true b is = rw is refl
comma_is false b is = refl

begins_same : (t u : Token) → u ≡ t → begins t ≡ true → begins u ≡ true
begins_same t u is begin = ap begins is ∙ begin

behind_at : (after : Bool) (gap : List ℕ) (t : Token) (ts : List Token) (rest tail : List ℕ) (ps : Spaced) → IsGap gap → begins t ≡ true
    → AreGaps ps → tokens_of ps ≡ t ∷ ts → ArePrintable (t ∷ ts) → IsUtf8 (print_spaced false ps) → rest ≡ print_spaced false ps ++ tail
    → Spells after (t ∷ ts) (comma_behind after ++ (gap ++ rest)) tail
unfolding print_spaced
behind_at after gap t ts rest tail [] blank begin gaps same printable utf8 cut = cc
behind_at after gap t ts rest tail (p ∷ ps) blank begin gaps same printable utf8 cut =
    let first : p.1 ≡ t = cc in
    let x = token_text p.1 ++ print_spaced (ends p.1) ps in
    let comma : separator after p.1 ≡ comma_behind after = comma_is after (begins p.1) (begins_same t p.1 first begin) in
    let all : IsUtf8 (separator after p.1 ++ ((gap ++ p.0) ++ x)) =
    IsUtf8-append (separator after p.1) _ (IsUtf8-separator after p.1)
    (subst IsUtf8 (sym (append_assoc gap p.0 x)) (IsUtf8-append gap _ (IsUtf8-IsGap gap blank) utf8)) in
    record {
      printed = (gap ++ p.0, p.1) ∷ ps;
      gaps = (IsGap-append gap p.0 blank gaps.0, gaps.1);
      same = same;
      printable = printable;
      utf8 = all;
      cut = ap (λ r. comma_behind after ++ (gap ++ r)) cut ∙ widened (comma_behind after) gap p.0 x tail
          ∙ ap (λ s. (s ++ ((gap ++ p.0) ++ x)) ++ tail) (sym comma);
    }

pub spells_behind : (after : Bool) (gap : List ℕ) (t : Token) (ts : List Token) (rest tail : List ℕ) → IsGap gap → begins t ≡ true
    → Spells false (t ∷ ts) rest tail → Spells after (t ∷ ts) (comma_behind after ++ (gap ++ rest)) tail
spells_behind after gap t ts rest tail blank begin spelled =
    behind_at after gap t ts rest tail spelled.printed blank begin spelled.gaps spelled.same spelled.printable spelled.utf8 spelled.cut
