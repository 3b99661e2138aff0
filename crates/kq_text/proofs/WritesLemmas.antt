-- Texts that are written over bytes, one behind the other.
use Rattle.std.proofs.Common.{◌≡◌, ◌∙◌, ◌+◌, ◌≤◌, ℕ, List, ◌++◌, length, take, drop, sym, ap, subst, refl, arith, append_assoc, length-append}
use Rattle.std.proofs.Math.Seq.{take-append-add, take-append_seam}
use Rattle.std.proofs.lemmas.List.{length-take-le, take-append-drop, take-take}
use Rattle.kq_text.specs.Adds.{Adds}
use Rattle.kq_text.specs.Writes.{Writes}

pub and_then : {a b c t rest : List ℕ} {start middle end : ℕ} → Writes a start t b middle → Writes b middle rest c end
    → Writes a start (t ++ rest) c end
and_then {a} {b} {c} {t} {rest} {start} {middle} {end} p q = record {
  ends = q.ends ∙ ap (λ n. n + length rest) p.ends ∙ omega (arith, length-append t rest);
  is = q.is ∙ ap (λ l. l ++ rest) p.is ∙ append_assoc (take start a) t rest;
}

-- the same text, spelled otherwise
pub as_text : {a b t text : List ℕ} {start end : ℕ} → text ≡ t → Writes a start t b end → Writes a start text b end
as_text {a} {start = start} e p = record {
  ends = p.ends ∙ ap (λ l. start + length l) (sym e);
  is = p.is ∙ ap (λ l. take start a ++ l) (sym e);
}

-- the first bytes of a text
pub first_of : (old new text : List ℕ) (start bytes end : ℕ) → start ≤ length old → bytes ≤ length text
    → Writes old start text new end → Writes old start (take bytes text) new (start + bytes)
first_of old new text start bytes end in_old within w =
    let long : length (take bytes text) ≡ bytes = length-take-le bytes text within in
    let before : length (take start old) ≡ start = length-take-le start old in_old in
    let short : start + bytes ≤ end = omega (arith, w.ends) in
    record {
      ends = ap (λ n. start + n) (sym long);
      is = sym (take-take (start + bytes) end new short) ∙ ap (take (start + bytes)) w.is
          ∙ ap (λ n. take (n + bytes) (take start old ++ text)) (sym before)
          ∙ take-append-add (take start old) text bytes;
    }

-- a text that was put where it is to stand
pub placed : (old new text rest : List ℕ) (start : ℕ) → start ≤ length old → take start new ≡ take start old
    → drop start new ≡ text ++ rest → Writes old start text new (start + length text)
placed old new text rest start in_old before behind =
    let long : length (take start old) ≡ start = length-take-le start old in_old in
    record {
      ends = refl;
      is = ap (take (start + length text)) (sym (take-append-drop start new))
          ∙ ap (λ l. take (start + length text) (l ++ drop start new)) before
          ∙ ap (λ l. take (start + length text) (take start old ++ l)) behind
          ∙ ap (λ n. take (n + length text) (take start old ++ (text ++ rest))) (sym long)
          ∙ take-append-add (take start old) (text ++ rest) (length text)
          ∙ ap (λ l. take start old ++ l) (take-append_seam text rest);
    }

-- the same, told by how many bytes there are, and by where they were put
pub placed_back : (old new text rest : List ℕ) (start count first : ℕ) → start ≤ length old → count ≡ length text
    → first + length text ≡ start + count → take first new ≡ take first old → drop first new ≡ text ++ rest
    → Writes old start text new (start + count)
placed_back old new text rest start count first in_old long back before behind =
    let at : first ≡ start = omega arith in
    subst (λ n. Writes old start text new (start + n)) (sym long)
    (placed old new text rest start in_old
    (subst (λ n. take n new ≡ take n old) at before)
    (subst (λ n. drop n new ≡ text ++ rest) at behind))

-- seen as a text that is added
pub as_adds : {a b t : List ℕ} {start end : ℕ} → Writes a start t b end → Adds (take start a) t (take end b)
as_adds w = record { is = w.is }

pub from_adds : (a b t : List ℕ) (start end : ℕ) → start ≤ length a → end ≤ length b
    → Adds (take start a) t (take end b)
    → Writes a start t b end
from_adds a b t start end in_a in_b adds = record {
  ends = sym (length-take-le end b in_b) ∙ ap length adds.is ∙ length-append (take start a) t
      ∙ ap (λ n. n + length t) (length-take-le start a in_a);
  is = adds.is;
}
