-- A tally keeps of a list all that the definitions ask for.
use Rattle.std.proofs.Common.{◌≡◌, ℕ, suc, ◌+◌, min, Bool, true, false, cond, not, ◌&&◌, ◌||◌, List, [], ◌∷◌, ◌++◌, filter, length, eqb, refl, sym, ap, ◌∙◌, arith}
use Rattle.std.proofs.lemmas.List.{length-append}
use Rattle.std.proofs.lemmas.List.Elements.{filter-append}
use Rattle.std.proofs.lemmas.List.Folds.{list_any-append}
use Rattle.std.proofs.lemmas.List.Sums.{fold-append}
use Rattle.std.proofs.lemmas.Bool.{true≢false, and_right, ne_eqb}
use Rattle.std.specs.Int.RustNames.{bit_or}
use Rattle.kq_model.specs.declared.filter.Filter.{Filter}
use Rattle.kq_model.specs.declared.filter.Filter.TheVariants.{Read, Write, Vnode, Proc, Signal}
use Rattle.kq_model.specs.declared.object.Hint.{Hint}
use Rattle.kq_model.specs.declared.object.Hint.TheVariants.{Readable, Writable, Note, Delivered}
use Rattle.kq_model.specs.Hearing.{Occurrence, Told, Expired, listed, notes_of, is_counted, counted_in, is_none_of, union, most_counted}
use Rattle.kq_model.specs.Tallying.{Tally, tallying, is_telling}
use Rattle.kq_model.specs.Hints.{takes}
use Rattle.kq_model.specs.Recast.{IsHearingMap, only_looks, has_other, tally_of}
use Rattle.kq_model.proofs.KnoteLaws.{by_test}

abbrev tally : ℕ → ℕ → Bool → Tally
tally count notes told = record { count = count; notes = notes; told = told }

-- as many, and one more where that is counted
abbrev pub count_with : Bool → ℕ → ℕ
count_with counts n = cond counts (n + 1) n

pub counted-more : (xs : List Occurrence) (x : Occurrence) → counted_in (xs ++ x ∷ []) ≡ count_with (is_counted x) (counted_in xs)
counted-more xs x =
    let of = filter is_counted xs in
    ap length (filter-append is_counted xs (x ∷ []))
    ∙ by_test (λ b. length (of ++ cond b (x ∷ []) []) ≡ count_with b (length of)) (is_counted x)
    (λ _. length-append of (x ∷ [])) (λ _. omega (arith, length-append {A = Occurrence} of []))

-- up to the most
most-more : (counts : Bool) (n : ℕ)
    → min (count_with counts n) most_counted ≡ cond counts (min (min n most_counted + 1) most_counted) (min n most_counted)
most-more true n = omega arith
most-more false n = refl

-- what is counted up to the most is within it
pub counted-once : (n : ℕ) → min (min n most_counted) most_counted ≡ min n most_counted
counted-once n = omega arith

union-more : (xs : List Occurrence) (x : Occurrence) → union (xs ++ x ∷ []) ≡ bit_or (union xs) (notes_of x)
union-more xs x = fold-append (λ bits y. bit_or bits (notes_of y)) 0 xs (x ∷ [])

-- of what knotes other than READ and WRITE hear, what is not counted is kept as heard
told-more : (looks : Bool) (xs : List Occurrence) (x : Occurrence) → not (is_counted x) && not looks ≡ is_telling x
    → has_other (xs ++ x ∷ []) && not looks ≡ is_telling x || (has_other xs && not looks)
told-more looks xs x kept =
    ap (λ b. b && not looks) (list_any-append (λ y. not (is_counted y)) xs (x ∷ []))
    ∙ either (has_other xs) (not (is_counted x)) (not looks)
    ∙ ap (λ b. b || (has_other xs && not looks)) kept
  where
    either : (a b c : Bool) → (a || (b || false)) && c ≡ (b && c) || (a && c)
    either true true true = refl
    either true true false = refl
    either true false c = refl
    either false true true = refl
    either false true false = refl
    either false false c = refl

-- the tally of a knote of this filter, where so many are counted
abbrev pub tally_by : (List Occurrence → ℕ) → Filter → List Occurrence → Tally
tally_by number filter xs = record (tally_of filter xs) { count = min (number xs) most_counted }

pub heard-more : (number : List Occurrence → ℕ) (filter : Filter) (x : Occurrence) (xs : List Occurrence)
    → number (xs ++ x ∷ []) ≡ count_with (is_counted x) (number xs) → not (is_counted x) && not (only_looks filter) ≡ is_telling x
    → tally_by number filter (xs ++ x ∷ []) ≡ tallying.heard x (tally_by number filter xs)
heard-more number filter x xs counted kept =
    let more = xs ++ x ∷ [] in
    let count = (tallying.heard x (tally_by number filter xs)).count in
    let told = has_other more && not (only_looks filter) in
    ap (λ n. tally n (union more) told) (ap (λ n. min n most_counted) counted ∙ most-more (is_counted x) (number xs))
    ∙ ap (λ n. tally count n told) (union-more xs x)
    ∙ ap (tally count (bit_or (union xs) (notes_of x))) (told-more (only_looks filter) xs x kept)

-- READ and WRITE hear Readable and Writable, of which nothing is kept, and no other filter hears these
pub kept-told : (filter : Filter) (hint : Hint) → takes filter hint ≡ true
    → not (is_counted (Told hint)) && not (only_looks filter) ≡ is_telling (Told hint)
unfolding takes
kept-told Read Readable taken = refl
kept-told Write Writable taken = refl
kept-told Vnode (Note bits) taken = refl
kept-told Proc (Note bits) taken = refl
kept-told Signal Delivered taken = refl
kept-told _ _ taken = absurd (true≢false (sym taken))

pub counts_none : (xs : List Occurrence) → eqb (min (counted_in xs) most_counted) 0 && not (has_other xs && true) ≡ is_none_of xs
counts_none [] = refl
counts_none (x ∷ xs) =
    let of = filter is_counted xs in
    by_test (λ b. eqb (min (length (cond b (x ∷ of) of)) most_counted) 0 && not ((not b || has_other xs) && true) ≡ false) (is_counted x)
    (λ _. ap (λ b. b && not (has_other xs && true)) (ne_eqb (min (suc (length of)) most_counted) 0 (λ e. omega arith)))
    (λ _. and_right (eqb (min (length of) most_counted) 0) false refl)

pub tally_of-map : IsHearingMap listed tallying tally_of
tally_of-map = record {
  empty = λ filter. refl;
  told = λ filter hint xs taken. heard-more counted_in filter (Told hint) xs (counted-more xs (Told hint)) (kept-told filter hint taken);
  expired = λ filter xs. heard-more counted_in filter Expired xs (counted-more xs Expired) refl;
  deliveries = λ xs. counted-once (counted_in xs);
  expirations = λ xs. counted-once (counted_in xs);
  notes = λ filter xs. refl;
  is_empty = counts_none;
}
