-- In a counted world: what a number names is held, and no object is at the place of the next record or later.
use Rattle.std.proofs.Common.{◌≡◌, ◌∙◌, ℕ, ◌+◌, ◌<◌, ◌≤◌, ◌==◌, false, cond, ◌&&◌, eqb, eq-eqb, List, [], ◌∷◌, Some, refl, sym, ap, subst, arith}
use Rattle.std.proofs.lemmas.Bool.Decides.{nat_tests}
use Rattle.std.proofs.lemmas.List.Elements.{All-head, All-tail}
use Rattle.std.proofs.lemmas.Option.{none-some, same_Some}
use Rattle.std.specs.Prelude.{All}
use Rattle.kq_model.specs.declared.object.Named.{Named}
use Rattle.kq_model.specs.declared.object.Named.TheVariants.{Socket, PipeRead, PipeWrite, Open, Kqueue}
use Rattle.kq_model.specs.CountedWorld.{place_named, NamesBelow, IsCountedWorld}
use Rattle.kq_model.specs.Descriptors.{Descriptor, named_among}
use Rattle.kq_model.specs.Holders.{is_same, one_if, times, IsNamed}
use Rattle.kq_model.specs.Objects.{counted, IsFree}
use Rattle.kq_model.specs.ProcessPlans.{names_of}
use Rattle.kq_model.specs.World.{World, named_by}
use Rattle.kq_model.proofs.FreePlaces.{free-counted}
use Rattle.kq_model.proofs.KnoteLaws.{by_test}

-- ---- what is named

pub more_named : (n m : Named) (ms : List Named) → IsNamed n ms → IsNamed n (m ∷ ms)
unfolding times
more_named (Socket p) m ms named = omega arith
more_named (PipeRead p) m ms named = omega arith
more_named (PipeWrite p) m ms named = omega arith
more_named (Open p f) m ms named = omega arith
more_named (Kqueue p) m ms named = tt

once : (p : ℕ) → one_if (p == p) ≡ 1
unfolding one_if
once p = ap (λ b. cond b 1 0) (eq-eqb p p refl)

pub named_first : (n : Named) (ms : List Named) → IsNamed n (n ∷ ms)
unfolding times is_same
named_first (Socket p) ms = let one = once p in omega arith
named_first (PipeRead p) ms = let one = once p in omega arith
named_first (PipeWrite p) ms = let one = once p in omega arith
named_first (Open p f) ms = let one = once p in omega arith
named_first (Kqueue p) ms = tt

-- what a number of the table names
pub named-among : (pid number : ℕ) (n : Named) (es : List Descriptor) → named_among pid number es ≡ Some n → IsNamed n (names_of es)
unfolding named_among
named-among pid number n [] found = absurd (none-some n found)
named-among pid number n (e ∷ es) found =
    by_test (λ b. cond b (Some e.named) (named_among pid number es) ≡ Some n → IsNamed n (names_of (e ∷ es))) (eqb e.pid pid && eqb e.number number)
    (λ _ here. subst (λ m. IsNamed n (m ∷ names_of es)) (sym (same_Some e.named n here)) (named_first n (names_of es)))
    (λ _ later. more_named n e.named (names_of es) (named-among pid number n es later)) found

pub named-by : (pid number : ℕ) (n : Named) (w : World counted) → named_by pid number w ≡ Some n → IsNamed n (names_of w.table)
unfolding named_by
named-by pid number n w found = named-among pid number n w.table found

-- ---- what is not named yet

other_place : (p q next : ℕ) → next ≤ p → q < next → eqb p q ≡ false
other_place p q next later lower = grind (arith, nat_tests)

same-apart : (n m : Named) (next : ℕ) → next ≤ place_named n → place_named m < next → is_same n m ≡ false
unfolding is_same
same-apart (Socket p) (Socket q) next later lower = other_place p q next later lower
same-apart (PipeRead p) (PipeRead q) next later lower = other_place p q next later lower
same-apart (PipeWrite p) (PipeWrite q) next later lower = other_place p q next later lower
same-apart (Open p f) (Open q g) next later lower = other_place p q next later lower
same-apart n m next later lower = refl

times-later : (n : Named) (next : ℕ) (es : List Descriptor) → next ≤ place_named n → All (NamesBelow next) es → times n (names_of es) ≡ 0
unfolding times one_if
times-later n next [] later below = refl
times-later n next (e ∷ es) later below =
    ap (λ b. times n (names_of es) + cond b 1 0) (same-apart n e.named next later (All-head (NamesBelow next) e es below))
    ∙ ap (λ k. k + 0) (times-later n next es later (All-tail (NamesBelow next) e es below))

-- at the place of the next record, and of each one after it, nothing is yet
pub free-place : (next place : ℕ) (w : World counted) → next ≤ place → IsCountedWorld next w → IsFree place w.objects
free-place next place w later c =
    free-counted w.objects (names_of w.table) place 0 c.held c.counts
    (times-later (Socket place) next w.table later c.below) (times-later (PipeRead place) next w.table later c.below)
    (times-later (PipeWrite place) next w.table later c.below) (times-later (Open place 0) next w.table later c.below)

pub free-next : (place : ℕ) (w : World counted) → IsCountedWorld place w → IsFree place w.objects
free-next place w c = free-place place place w (itself place) c
  where
    itself : (k : ℕ) → k ≤ k
    itself k = omega arith
