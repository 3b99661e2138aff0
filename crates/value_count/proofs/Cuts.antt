-- Counting by the first LF: a text without one is one line, and one with it is that line and the rest.
use Rattle.std.proofs.Common.{arith, ◌≡◌, ◌∙◌, ap, refl, ℕ, ◌+◌, true, false, List, [], ◌∷◌, Some, None, if◌then◌else◌, take, drop, cond, ◌==◌}
use Rattle.std.specs.List.{slice_split, count_by, position_or_len}
use Rattle.std.proofs.lemmas.Bool.{false_from_ne_true}
use Rattle.std.proofs.lemmas.List.Splits.{slice_split_first, slice_split_none}
use Rattle.std.proofs.lemmas.List.Sums.{position_or_len_is, sum_by-cons}
use Rattle.std.proofs.lemmas.List.Elements.{All-from_get_or}
use Rattle.memchr.specs.Find.{IsFirstByte, is_byte}
use Rattle.std.specs.Str.{is_utf8, IsUtf8}
use Rattle.std.specs.Option.{is_some}
use Rattle.std.proofs.lemmas.Str.{is_utf8-from_IsUtf8, IsUtf8-from_is_utf8}
use Rattle.serde_json.specs.Data.{Data}
use Rattle.serde_json.specs.Read.{read}
use Rattle.value_count.specs.Count.{is_value, values_in}

-- the first LF, as the count of what stands before it
pub first_at : (text : List ℕ) (k : ℕ) → IsFirstByte (is_byte 10) text (Some k) → position_or_len (λ b. b == 10) text ≡ k
first_at text k h = position_or_len_is (λ b. b == 10) text k 0 (omega arith) (λ j l. false_from_ne_true _ (h.0.before j (omega arith) l)) (λ _. h.1)

pub values_at : (text : List ℕ) (k : ℕ) → IsFirstByte (is_byte 10) text (Some k) → values_in text ≡ cond (is_value (take k text)) 1 0 + values_in (drop (k + 1) text)
unfolding values_in
values_at text k h =
    let first = first_at text k h in
    let cut = slice_split_first (λ b. b == 10) text 0 (rw first h.0.high) in
    ap (count_by is_value) (cut ∙ ap (λ n. take n text ∷ slice_split (λ b. b == 10) (drop (n + 1) text)) first) ∙ sum_by-cons {X = List ℕ} (λ x. cond (is_value x) 1 0) (take k text) (slice_split (λ b. b == 10) (drop (k + 1) text))

pub values_none : (text : List ℕ) → IsFirstByte (is_byte 10) text None → values_in text ≡ cond (is_value text) 1 0
unfolding values_in
values_none text h =
    let whole = slice_split_none (λ b. b == 10) text (All-from_get_or (λ b. (b == 10) ≡ false) text 0 (λ i l. false_from_ne_true _ (h i (omega arith) l))) in
    let one = sum_by-cons {X = List ℕ} (λ x. cond (is_value x) 1 0) text [] in
    ap (count_by is_value) whole ∙ (one ∙ omega arith)

pub value-some : (line : List ℕ) (d : Data) → IsUtf8 line → read line ≡ Some d → true ≡ is_value line
unfolding is_value
value-some line d u r = rw (is_utf8-from_IsUtf8 line u) (rw r refl)

pub value-none : (line : List ℕ) → (IsUtf8 line → read line ≡ None) → false ≡ is_value line
unfolding is_value
value-none line h = elim (is_utf8 line) as (λ b. is_utf8 line ≡ b → false ≡ (if b then is_some (read line) else false)) [
  | true ↦ λ e. rw (h (IsUtf8-from_is_utf8 line e)) refl
  | false ↦ λ _. refl
] refl
