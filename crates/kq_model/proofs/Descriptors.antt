-- The table of descriptors: what holds of each goes on to hold, and it stays in rising order.
use Rattle.std.proofs.Common.{◌≡◌, ℕ, Bool, true, false, cond, not, ◌&&◌, ◌||◌, eqb, ltb, List, [], ◌∷◌, Some, None, refl, sym, arith}
use Rattle.std.proofs.lemmas.Bool.{cond_both}
use Rattle.std.proofs.lemmas.Bool.Decides.{nat_tests}
use Rattle.std.proofs.lemmas.List.Elements.{All-nil, All-cons, All-head, All-tail, All-filter}
use Rattle.std.proofs.lemmas.Option.{none-some}
use Rattle.std.specs.Prelude.{All}
use Rattle.kq_model.specs.Close.{Pair, has_pair}
use Rattle.kq_model.specs.Descriptors.{Descriptor, IsRising, is_before, named_among, with_descriptor, with_descriptors, without_closed}
use Rattle.kq_model.proofs.KnoteLaws.{by_test}

pub with_descriptor-all : (P : Descriptor → Type 0) (d : Descriptor) (es : List Descriptor) → P d → All P es → All P (with_descriptor d es)
unfolding with_descriptor
with_descriptor-all P d [] has all = All-cons P d [] has all
with_descriptor-all P d (e ∷ es) has all =
    cond_both (is_before d e) (d ∷ e ∷ es) (e ∷ with_descriptor d es) (All P) (λ _. All-cons P d (e ∷ es) has all)
    (λ _. All-cons P e (with_descriptor d es) (All-head P e es all) (with_descriptor-all P d es has (All-tail P e es all)))

pub with_descriptors-all : (P : Descriptor → Type 0) (ds es : List Descriptor) → All P ds → All P es → All P (with_descriptors ds es)
unfolding with_descriptors
with_descriptors-all P [] es more all = all
with_descriptors-all P (d ∷ ds) es more all =
    with_descriptors-all P ds (with_descriptor d es) (All-tail P d ds more) (with_descriptor-all P d es (All-head P d ds more) all)

-- ---- rising order

-- of two pairs of numbers: by the first, then by the second
before : ℕ → ℕ → ℕ → ℕ → Bool
before p n q m = ltb p q || (eqb p q && ltb n m)

before-trans : (p n q m r k : ℕ) → before p n q m ≡ true → before q m r k ≡ true → before p n r k ≡ true
unfolding before
before-trans p n q m r k = grind (arith, nat_tests)

before-other : (p n q m : ℕ) → before p n q m ≡ false → eqb q p && eqb m n ≡ false → before q m p n ≡ true
unfolding before
before-other p n q m = grind (arith, nat_tests)

is_before-trans : (a b c : Descriptor) → is_before a b ≡ true → is_before b c ≡ true → is_before a c ≡ true
unfolding is_before before
is_before-trans a b c = before-trans a.pid a.number b.pid b.number c.pid c.number

-- of two with different numbers, one comes before the other
is_before-other : (d e : Descriptor) → is_before d e ≡ false → eqb e.pid d.pid && eqb e.number d.number ≡ false → is_before e d ≡ true
unfolding is_before before
is_before-other d e = before-other d.pid d.number e.pid e.number

before_all : (d e : Descriptor) (es : List Descriptor) → is_before d e ≡ true → All (λ x. is_before e x ≡ true) es → All (λ x. is_before d x ≡ true) es
before_all d e [] first all = All-nil (λ x. is_before d x ≡ true)
before_all d e (x ∷ es) first all =
    All-cons (λ y. is_before d y ≡ true) x es (is_before-trans d e x first (All-head (λ y. is_before e y ≡ true) x es all))
    (before_all d e es first (All-tail (λ y. is_before e y ≡ true) x es all))

-- a number that is not there is neither at the head nor behind
pub absent-head : (pid number : ℕ) (e : Descriptor) (es : List Descriptor) → named_among pid number (e ∷ es) ≡ None → eqb e.pid pid && eqb e.number number ≡ false
unfolding named_among
absent-head pid number e es absent =
    by_test (λ b. cond b (Some e.named) (named_among pid number es) ≡ None → b ≡ false) (eqb e.pid pid && eqb e.number number)
    (λ _ found. absurd (none-some e.named (sym found))) (λ _ _. refl) absent

pub absent-tail : (pid number : ℕ) (e : Descriptor) (es : List Descriptor) → named_among pid number (e ∷ es) ≡ None → named_among pid number es ≡ None
unfolding named_among
absent-tail pid number e es absent =
    by_test (λ b. cond b (Some e.named) (named_among pid number es) ≡ None → named_among pid number es ≡ None) (eqb e.pid pid && eqb e.number number)
    (λ _ found. absurd (none-some e.named (sym found))) (λ _ later. later) absent

-- a new number goes where it belongs
pub with_descriptor-rising : (d : Descriptor) (es : List Descriptor) → named_among d.pid d.number es ≡ None → IsRising es → IsRising (with_descriptor d es)
unfolding with_descriptor
with_descriptor-rising d [] absent rising = (All-nil (λ x. is_before d x ≡ true), tt)
with_descriptor-rising d (e ∷ es) absent rising =
    by_test (λ b. is_before d e ≡ b → IsRising (cond b (d ∷ e ∷ es) (e ∷ with_descriptor d es))) (is_before d e)
    (λ _ first. (All-cons (λ x. is_before d x ≡ true) e es first (before_all d e es first rising.0), rising))
    (λ _ later. (
      with_descriptor-all (λ x. is_before e x ≡ true) d es (is_before-other d e later (absent-head d.pid d.number e es absent)) rising.0,
      with_descriptor-rising d es (absent-tail d.pid d.number e es absent) rising.1,
    )) refl

pub without_closed-rising : (closed : List Pair) (es : List Descriptor) → IsRising es → IsRising (without_closed closed es)
without_closed-rising closed [] rising = tt
without_closed-rising closed (e ∷ es) rising =
    cond_both (not (has_pair e.pid e.number closed)) _ _ IsRising
    (λ _. (All-filter (λ (d : Descriptor). not (has_pair d.pid d.number closed)) (λ x. is_before e x ≡ true) es rising.0, without_closed-rising closed es rising.1))
    (λ _. without_closed-rising closed es rising.1)
