-- Rows that each have a kqueue out of a list, or none, are the rows of these kqueues and those of none.
use Rattle.std.proofs.Common.{◌≡◌, ℕ, Bool, true, not, eqb, ◌||◌, List, [], ◌∷◌, ◌++◌, map, filter, Option, Some, None, refl, sym, ap, ap₂, subst, ◌∙◌}
use Rattle.std.proofs.lemmas.Bool.{eqb-true, ne_eqb, false≢true, not_from_false}
use Rattle.std.proofs.lemmas.List.{append_assoc, map-append}
use Rattle.std.proofs.lemmas.List.Elements.{All-head, All-tail, All-filter, All-weaker, filter_passes}
use Rattle.std.proofs.lemmas.List.Sorted.{IsPermutation-refl, IsPermutation-sym, IsPermutation-trans, IsPermutation-map, IsPermutation-append_right, IsPermutation-filter_both}
use Rattle.std.specs.List.{All, flat_map, list_any}
use Rattle.std.specs.List.Sorted.{IsPermutation}
use Rattle.kq_model.specs.declared.row.Row.{Row}
use Rattle.kq_model.specs.OwnedRows.{OwnedRow, same_kqueue, rows_of, all_rows}
use Rattle.kq_model.proofs.Distinct.{Apart, AreDistinct, IsOf}
use Rattle.kq_model.proofs.KnoteLaws.{by_test}
use Rattle.kq_model.proofs.ListFilters.{filter-weaker, filter-all}

abbrev is_of : Option ℕ → OwnedRow → Bool
is_of who r = same_kqueue who r.kqueue

abbrev owned_of : Option ℕ → List OwnedRow → List OwnedRow
owned_of who rows = filter (is_of who) rows

abbrev others : ℕ → List OwnedRow → List OwnedRow
others place rows = filter (λ r. not (is_of (Some place) r)) rows

of_none : (tag : Option ℕ) → IsOf [] tag → same_kqueue None tag ≡ true
unfolding same_kqueue
of_none None is = refl
of_none (Some place) is = absurd (false≢true is)

of_rest : (place : ℕ) (places : List ℕ) (tag : Option ℕ) → IsOf (place ∷ places) tag → not (same_kqueue (Some place) tag) ≡ true → IsOf places tag
unfolding same_kqueue
of_rest place places None is other = tt
of_rest place places (Some p) is other =
    by_test (λ b. b || list_any (λ x. eqb p x) places ≡ true → not b ≡ true → list_any (λ x. eqb p x) places ≡ true) (eqb p place)
    (λ _ _ fails. absurd (false≢true fails)) (λ _ there _. there) is other

not_both : (place other : ℕ) → (place ≡ other → ⊥) → (tag : Option ℕ) → same_kqueue (Some other) tag ≡ true → not (same_kqueue (Some place) tag) ≡ true
unfolding same_kqueue
not_both place other apart None is = absurd (false≢true is)
not_both place other apart (Some p) is = not_from_false _ (ne_eqb p place (λ e. apart (sym e ∙ eqb-true p other is)))

none_not : (place : ℕ) (tag : Option ℕ) → same_kqueue None tag ≡ true → not (same_kqueue (Some place) tag) ≡ true
unfolding same_kqueue
none_not place None is = refl
none_not place (Some p) is = absurd (false≢true is)

flat-others : (place : ℕ) (rows : List OwnedRow) (places : List ℕ) → Apart place places
    → flat_map (λ p. owned_of (Some p) (others place rows)) places ≡ flat_map (λ p. owned_of (Some p) rows) places
flat-others place rows [] apart = refl
flat-others place rows (p ∷ places) apart =
    ap₂ (λ xs ys. xs ++ ys)
    (filter-weaker (is_of (Some p)) (λ r. not (is_of (Some place) r)) (λ r is. not_both place p (All-head (λ other. place ≡ other → ⊥) p places apart) r.kqueue is) rows)
    (flat-others place rows places (All-tail (λ other. place ≡ other → ⊥) p places apart))

abbrev split : List ℕ → List OwnedRow → List OwnedRow
split places rows = flat_map (λ p. owned_of (Some p) rows) places ++ owned_of None rows

split-all : (places : List ℕ) (rows : List OwnedRow) → AreDistinct places → All (λ (r : OwnedRow). IsOf places r.kqueue) rows → IsPermutation rows (split places rows)
split-all [] rows distinct all =
    subst (IsPermutation rows) (sym (filter-all (is_of None) rows (All-weaker (λ (r : OwnedRow). IsOf [] r.kqueue) (λ r. is_of None r ≡ true) (λ r is. of_none r.kqueue is) rows all)))
    (IsPermutation-refl rows)
split-all (place ∷ places) rows distinct all =
    let here = owned_of (Some place) rows in
    let rest = others place rows in
    let kept = All-filter (λ r. not (is_of (Some place) r)) (λ (r : OwnedRow). IsOf (place ∷ places) r.kqueue) rows all in
    let passed = filter_passes (λ r. not (is_of (Some place) r)) rows in
    let later = split-all places rest distinct.1 (λ i d within. of_rest place places _ (kept i d within) (passed i d within)) in
    IsPermutation-trans rows (here ++ rest) (split (place ∷ places) rows)
    (IsPermutation-filter_both (is_of (Some place)) (λ r. not (is_of (Some place) r)) (λ r. refl) rows)
    (subst (λ xs. IsPermutation (here ++ rest) xs)
    (ap₂ (λ xs ys. here ++ (xs ++ ys)) (flat-others place rows places distinct.0)
    (filter-weaker (is_of None) (λ r. not (is_of (Some place) r)) (λ r is. none_not place r.kqueue is) rows)
    ∙ sym (append_assoc here (flat_map (λ p. owned_of (Some p) rows) places) (owned_of None rows)))
    (IsPermutation-append_right here rest (split places rest) later))

map-flat : {X Y : Type 0} (f : X → Y) (g : ℕ → List X) (places : List ℕ) → map f (flat_map g places) ≡ flat_map (λ p. map f (g p)) places
map-flat f g [] = refl
map-flat f g (p ∷ places) = map-append f (g p) (flat_map g places) ∙ ap (λ rest. map f (g p) ++ rest) (map-flat f g places)

pub rows-split : (places : List ℕ) (rows : List OwnedRow) → AreDistinct places → All (λ (r : OwnedRow). IsOf places r.kqueue) rows
    → IsPermutation (flat_map (λ p. rows_of (Some p) rows) places ++ rows_of None rows) (all_rows rows)
rows-split places rows distinct all =
    let row : OwnedRow → Row = λ r. r.row in
    let flat = flat_map (λ p. owned_of (Some p) rows) places in
    IsPermutation-sym (all_rows rows) (flat_map (λ p. rows_of (Some p) rows) places ++ rows_of None rows)
    (subst (IsPermutation (all_rows rows))
    (map-append row flat (owned_of None rows) ∙ ap (λ xs. xs ++ rows_of None rows) (map-flat row (λ p. owned_of (Some p) rows) places))
    (IsPermutation-map row rows (split places rows) (split-all places rows distinct all)))
