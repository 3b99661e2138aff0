-- What comes to sources that stand each once: nothing, one more, and one part after the other.
use Rattle.std.proofs.Common.{◌≡◌, ◌∙◌, ◌||◌, Bool, true, false, cond, List, [], ◌∷◌, ◌++◌, refl, sym, ap}
use Rattle.std.specs.Cmp.{IsEquivalence}
use Rattle.std.proofs.lemmas.List.{append-nil}
use Rattle.std.proofs.lemmas.List.Folds.{list_any-append}
use Rattle.std.proofs.lemmas.Map.Steps.{list_any_congr}
use Rattle.indexmap.specs.IndexSet.{insert_key}
use Rattle.kq_model.proofs.KnoteLaws.{by_test}
use Rattle.kq_projection.specs.declared.history.item.Source.{Source}
use Rattle.kq_projection.specs.declared.history.sources.Sources.{Sources}
use Rattle.kq_projection.specs.Items.{has_source, source_eq}
use Rattle.kq_projection.specs.Sources.{Begins, Grows}

or_nothing : (b : Bool) → (b || false) ≡ b
or_nothing true = refl
or_nothing false = refl

or_true : (b : Bool) → (b || true) ≡ true
or_true true = refl
or_true false = refl

or_regrouped : (a b c : Bool) → ((a || b) || c) ≡ (a || (b || c))
or_regrouped true b c = refl
or_regrouped false b c = refl

pub grows-nothing : (s : Sources) → Grows [] s s
grows-nothing s = λ x. sym (or_nothing (has_source s.set.keys x))

pub grows-then : (xs ys : List Source) (a b c : Sources) → Grows xs a b → Grows ys b c → Grows (xs ++ ys) a c
grows-then xs ys a b c first second = λ x.
    second x
    ∙ ap (λ v. v || has_source ys x) (first x)
    ∙ or_regrouped (has_source a.set.keys x) (has_source xs x) (has_source ys x)
    ∙ ap (λ v. has_source a.set.keys x || v) (sym (list_any-append (source_eq x) xs ys))

there-still : (is there : Bool) → (is ≡ true → there ≡ true) → there ≡ (there || (is || false))
there-still true there so = so refl ∙ sym (ap (λ v. v || true) (so refl))
there-still false there so = sym (or_nothing there)

-- a source that is inserted is there, with all that were
pub inserted-has : (laws : IsEquivalence source_eq) (keys : List Source) (source x : Source)
    → has_source (insert_key source_eq keys source) x ≡ (has_source keys x || has_source (source ∷ []) x)
inserted-has laws keys source x =
    by_test (λ b. has_source keys source ≡ b → has_source (cond b keys (keys ++ source ∷ [])) x ≡ (has_source keys x || (source_eq x source || false)))
    (has_source keys source)
    (λ _ there. there-still (source_eq x source) (has_source keys x) (λ same. list_any_congr laws x source keys same ∙ there))
    (λ _ _. list_any-append (source_eq x) keys (source ∷ [])) refl

-- it stands behind the others, if it was not there
pub inserted-begins : (keys : List Source) (source : Source) → Begins keys (insert_key source_eq keys source)
inserted-begins keys source =
    by_test (λ b. Begins keys (cond b keys (keys ++ source ∷ []))) (has_source keys source)
    (λ _. ([], sym (append-nil keys))) (λ _. (source ∷ [], refl))
