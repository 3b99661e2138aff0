-- The value at a place is that of the mark before the first one that is later.
use Rattle.std.proofs.Common.{◌≡◌, ℕ, zero, suc, ◌+◌, ◌-◌, ◌<◌, ◌≤◌, Bool, true, false, cond, leb, length, get_or, List, [], ◌∷◌, None, Some, refl, sym, ap, ◌∙◌, arith}
use Rattle.std.specs.List.{slice_get}
use Rattle.std.proofs.lemmas.Option.{get_or_from_slice_get, none-some, slice_get-get_or, slice_get_within}
use Rattle.kq_projection.specs.declared.history.timeline.Mark.{Mark}
use Rattle.kq_projection.specs.Timeline.{last_value, value_at}

module _ {V : Type 0} (place : ℕ) where
  abbrev has_begun : Mark V → Bool
  has_begun m = leb m.place place

  abbrev with_mark : V → List (Mark V) → V → Bool → V
  with_mark before ms value b = value_at place (cond b value before) ms

  -- all marks are later
  pub value_before : (ms : List (Mark V)) (before : V)
      → ((k : ℕ) (d : Mark V) → k < length ms → has_begun (get_or ms k d) ≡ false) → value_at place before ms ≡ before
  value_before [] before later = refl
  value_before (m ∷ ms) before later =
      ap (with_mark before ms m.value) (later 0 m (omega arith))
      ∙ value_before ms before (λ k d within. later (suc k) d (omega (arith, within)))

  -- so many marks and one more have begun, and no others
  pub value_from : (ms : List (Mark V)) (n : ℕ) (before : V) → n < length ms
      → ((k : ℕ) (d : Mark V) → k ≤ n → has_begun (get_or ms k d) ≡ true)
      → ((k : ℕ) (d : Mark V) → n < k → k < length ms → has_begun (get_or ms k d) ≡ false) → (d : Mark V)
      → value_at place before ms ≡ (get_or ms n d).value
  value_from [] n before within begun later d = absurd (omega (arith, within))
  value_from (m ∷ ms) zero before within begun later d =
      ap (with_mark before ms m.value) (begun 0 m (omega arith))
      ∙ value_before ms m.value (λ k e inside. later (suc k) e (omega arith) (omega (arith, inside)))
  value_from (m ∷ ms) (suc n) before within begun later d =
      value_from ms n (cond (has_begun m) m.value before) (omega (arith, within))
      (λ k e up_to. begun (suc k) e (omega (arith, up_to)))
      (λ k e after inside. later (suc k) e (omega (arith, after)) (omega (arith, inside))) d

-- ---- behind all marks

module _ {V : Type 0} where
  ends-at : (ms : List (Mark V)) (before : V) (d : Mark V) (n : ℕ) → length ms ≡ n + 1 → last_value before ms ≡ (get_or ms n d).value
  ends-at [] before d n e = absurd (omega (arith, e))
  ends-at (m ∷ []) before d zero e = refl
  ends-at (m ∷ (x ∷ ms)) before d zero e = absurd (omega (arith, e))
  ends-at (m ∷ ms) before d (suc n) e = ends-at ms m.value d n (omega (arith, e))

  pub last-some : (ms : List (Mark V)) (before : V) (m : Mark V) → slice_get ms (length ms - 1) ≡ Some m → last_value before ms ≡ m.value
  last-some ms before m got =
      let within : length ms - 1 < length ms = slice_get_within ms (length ms - 1) m got in
      ends-at ms before m (length ms - 1) (omega (arith, within))
      ∙ ap (λ (x : Mark V). x.value) (get_or_from_slice_get ms (length ms - 1) m m got)

  pub last-none : (ms : List (Mark V)) (before : V) → slice_get ms (length ms - 1) ≡ None → last_value before ms ≡ before
  last-none [] before none = refl
  last-none (m ∷ ms) before none =
      absurd (none-some _ (sym none ∙ slice_get-get_or (m ∷ ms) (length (m ∷ ms) - 1) m (omega arith)))
