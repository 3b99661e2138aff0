-- A number, a digit at a time.
use Rattle.std.proofs.Common.{◌≡◌, ℕ, ◌+◌, ◌*◌, ◌/◌, ◌%◌, ◌^◌, ◌<◌, List, [], ◌∷◌, ◌++◌, decimal, sym, ap, ap₂, ◌∙◌, arith, append_assoc}
use Rattle.std.proofs.lemmas.Fmt.{decimal_step, decimal_digit}

pub digits_begin : (text rest : List ℕ) (d : ℕ) → d < 10 → text ≡ (48 + d) ∷ rest → text ≡ decimal d ++ rest
digits_begin text rest d small cut = cut ∙ ap (λ s. s ++ rest) (sym (decimal_digit d small))

one_more : (n d : ℕ) → 0 < n → d < 10 → 10 * n + d < 2 ^ 64 → decimal (10 * n + d) ≡ decimal n ++ ((48 + d) ∷ [])
one_more n d some small fits =
    let front : (10 * n + d) / 10 ≡ n = omega arith in
    let last : (10 * n + d) % 10 ≡ d = omega arith in
    decimal_step (10 * n + d) (omega arith) fits ∙ ap₂ (λ m e. decimal m ++ ((48 + e) ∷ [])) front last

pub digits_go_on : (text rest after : List ℕ) (n d m : ℕ) → 0 < n → d < 10 → m < 2 ^ 64 → m ≡ 10 * n + d
    → text ≡ decimal n ++ rest → rest ≡ (48 + d) ∷ after → text ≡ decimal m ++ after
digits_go_on text rest after n d m some small fits is so_far cut =
    let enough : 10 * n + d < 2 ^ 64 = omega arith in
    so_far ∙ ap (λ r. decimal n ++ r) cut ∙ sym (append_assoc (decimal n) ((48 + d) ∷ []) after)
    ∙ ap (λ s. s ++ after) (sym (one_more n d some small enough) ∙ ap decimal (sym is))
