-- Two filters of a list.
use Rattle.std.proofs.Common.{◌≡◌, Bool, cond, List, [], ◌∷◌, filter, refl, ap, ◌∙◌, sym}
use Rattle.kq_table.proofs.RowLaws.{by_test}

abbrev kept : {T : Type 0} → T → List T → Bool → List T
kept x rest b = cond b (x ∷ rest) rest

-- two tests may be made in either order
pub filter-swap : {T : Type 0} (p q : T → Bool) (rows : List T) → filter p (filter q rows) ≡ filter q (filter p rows)
filter-swap p q [] = refl
filter-swap p q (x ∷ rows) =
    by_test (λ b. q x ≡ b → filter p (kept x (filter q rows) b) ≡ filter q (kept x (filter p rows) (p x))) (q x)
    (λ _ is. ap (λ rest. kept x rest (p x)) (filter-swap p q rows)
    ∙ by_test (λ b. kept x (filter q (filter p rows)) b ≡ filter q (kept x (filter p rows) b)) (p x)
    (λ _. ap (kept x (filter q (filter p rows))) (sym is)) (λ _. refl))
    (λ _ is. filter-swap p q rows
    ∙ by_test (λ b. filter q (filter p rows) ≡ filter q (kept x (filter p rows) b)) (p x)
    (λ _. ap (kept x (filter q (filter p rows))) (sym is)) (λ _. refl)) refl
