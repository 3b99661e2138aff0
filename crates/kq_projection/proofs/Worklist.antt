-- Sources to which the children of their processes come, one source after the other.
use Rattle.std.proofs.Common.{◌≡◌, ◌∙◌, ◌≤◌, ◌&&◌, ◌||◌, ℕ, Bool, true, false, cond, List, [], ◌∷◌, ◌++◌, map, filter, length, slice_get, zero, suc, Some, None, refl, sym, ap, ap₂, arith}
use Rattle.std.specs.List.{All, Contains, flat_map}
use Rattle.std.proofs.lemmas.Bool.{and_from, and_parts, eq-eqb, eqb-true, false≢true, or_left, or_right}
use Rattle.std.proofs.lemmas.Option.{none-some, same_Some}
use Rattle.std.proofs.lemmas.List.{append_assoc}
use Rattle.std.proofs.lemmas.List.Folds.{list_any-append}
use Rattle.std.proofs.lemmas.List.Elements.{All-nil, All-cons, All-head, All-tail, All-weaker, All-contains}
use Rattle.kq_model.specs.declared.object.Hint.TheVariants.{Child}
use Rattle.kq_model.specs.declared.object.Target.TheVariants.{Process}
use Rattle.kq_model.specs.Targets.{target_eq}
use Rattle.kq_model.proofs.KnoteLaws.{by_test}
use Rattle.kq_projection.specs.declared.history.item.Item.{Item}
use Rattle.kq_projection.specs.declared.history.item.Source.{Source}
use Rattle.kq_projection.specs.declared.history.item.Source.TheVariants as source
use Rattle.kq_projection.specs.declared.history.item.What.{What}
use Rattle.kq_projection.specs.declared.history.item.What.TheVariants as what
use Rattle.kq_projection.specs.contracts.history.item.SourceEq.TheImpl.Laws.{laws-law}
use Rattle.kq_projection.specs.Children.{of_process, is_of_process, child_told, child_sources, children_at, children_of, IsForkIn, AreClosed}
use Rattle.kq_projection.specs.Items.{has_source, source_eq, source_of}
use Rattle.kq_projection.specs.MessageIndex.{comes_from, item_at, standing}
use Rattle.kq_projection.specs.Sources.{Begins}
use Rattle.kq_projection.proofs.Picked.{read_all}
use Rattle.kq_projection.proofs.SameSource.{eq_is}
use Rattle.kq_projection.proofs.Sourced.{same_source}

pub begins-then : (a b c : List Source) → Begins a b → Begins b c → Begins a c
begins-then a b c first second = (
  first.0 ++ second.0,
  second.1 ∙ ap (λ (xs : List Source). xs ++ second.0) first.1 ∙ append_assoc a first.0 second.0,
)

-- ---- what the items of a source tell is what the items at its places tell

told-mapped : (items : List Item) (numbers : List ℕ)
    → children_at items numbers ≡ flat_map (λ (i : Item). child_sources i.what) (map (item_at items) numbers)
told-mapped items [] = refl
told-mapped items (n ∷ numbers) = ap (λ (ss : List Source). child_sources (item_at items n).what ++ ss) (told-mapped items numbers)

pub children-told : (items : List Item) (s : Source) → children_at items (standing (comes_from s) 0 items) ≡ children_of items s
children-told items s =
    told-mapped items (standing (comes_from s) 0 items)
    ∙ ap (flat_map (λ (i : Item). child_sources i.what)) (read_all (comes_from s) items)

-- only the items of a process tell of children
none-told : (s : Source) → is_of_process s ≡ false → (w : What) → source_eq (source_of w) s ≡ true → child_sources w ≡ []
unfolding is_of_process child_told target_eq
none-told s other (what.Told (Process pid) (Child child)) same = absurd (apart s other (sym (eq_is (of_process pid) s) ∙ same))
  where
    apart : (x : Source) → is_of_process x ≡ false → same_source (of_process pid) x ≡ true → ⊥
    apart (source.Of (Process p)) out same = false≢true (sym out)
    apart (source.Of t) out same = false≢true same
    apart (source.Number owner number) out same = false≢true same
    apart source.Clock out same = false≢true same
    apart (source.Kqueue place) out same = false≢true same
none-told s other w same = refl

pub children-none : (s : Source) → is_of_process s ≡ false → (items : List Item) → children_of items s ≡ []
children-none s out [] = refl
children-none s out (i ∷ items) =
    by_test (λ b. comes_from s i ≡ b → flat_map (λ (x : Item). child_sources x.what) (cond b (i ∷ filter (comes_from s) items) (filter (comes_from s) items)) ≡ []) (comes_from s i)
    (λ _ is. ap₂ (λ (xs ys : List Source). xs ++ ys) (none-told s out i.what is) (children-none s out items))
    (λ _ _. children-none s out items) refl

-- ---- a fork of which the log tells brings the child, and no other source comes

one-more : (i : Item) (xs : List Item) (s x : Source)
    → has_source (children_of (i ∷ xs) s) x ≡ ((comes_from s i && has_source (child_sources i.what) x) || has_source (children_of xs s) x)
one-more i xs s x =
    by_test (λ b. has_source (flat_map (λ (j : Item). child_sources j.what) (cond b (i ∷ filter (comes_from s) xs) (filter (comes_from s) xs))) x
    ≡ ((b && has_source (child_sources i.what) x) || has_source (children_of xs s) x)) (comes_from s i)
    (λ _. list_any-append (source_eq x) (child_sources i.what) (children_of xs s)) (λ _. refl)

abbrev Brings : Source → Source → List Item → Item → Type 0
Brings s x xs i = comes_from s i ≡ true → has_source (child_sources i.what) x ≡ true → has_source (children_of xs s) x ≡ true

brings : (s x : Source) (xs : List Item) → All (Brings s x xs) xs
brings s x [] = All-nil (Brings s x [])
brings s x (i ∷ xs) =
    All-cons (Brings s x (i ∷ xs)) i xs
    (λ comes has. one-more i xs s x ∙ or_left (comes_from s i && has_source (child_sources i.what) x) (has_source (children_of xs s) x)
    (and_from (comes_from s i) (has_source (child_sources i.what) x) comes has))
    (All-weaker (Brings s x xs) (Brings s x (i ∷ xs))
    (λ j so comes has. one-more i xs s x ∙ or_right (comes_from s i && has_source (child_sources i.what) x) (has_source (children_of xs s) x) (so comes has))
    xs (brings s x xs))

itself : (pid : ℕ) → source_eq (of_process pid) (of_process pid) ≡ true
unfolding target_eq
itself pid = eq_is (of_process pid) (of_process pid) ∙ eq-eqb pid pid refl

pub fork-told : (items : List Item) (parent child : ℕ) → IsForkIn items parent child → has_source (children_of items (of_process parent)) (of_process child) ≡ true
unfolding child_told
fork-told items parent child told =
    All-contains (Brings (of_process parent) (of_process child) items) items (record { place = told.0; what = what.Told (Process parent) (Child child) })
    (brings (of_process parent) (of_process child) items) told.1
    (itself parent) (or_left (source_eq (of_process child) (of_process child)) false (itself child))

pub is-process : (pid : ℕ) (x : Source) → same_source (of_process pid) x ≡ true → x ≡ of_process pid
unfolding target_eq
is-process pid (source.Of (Process p)) same = ap of_process (eqb-true p pid same)
is-process pid (source.Of t) same = absurd (false≢true same)
is-process pid (source.Number owner number) same = absurd (false≢true same)
is-process pid source.Clock same = absurd (false≢true same)
is-process pid (source.Kqueue place) same = absurd (false≢true same)

was-process : (pid : ℕ) (x : Source) → same_source x (of_process pid) ≡ true → x ≡ of_process pid
unfolding target_eq
was-process pid (source.Of (Process p)) same = ap of_process (sym (eqb-true pid p same))
was-process pid (source.Of t) same = absurd (false≢true same)
was-process pid (source.Number owner number) same = absurd (false≢true same)
was-process pid source.Clock same = absurd (false≢true same)
was-process pid (source.Kqueue place) same = absurd (false≢true same)

pub no_more : (b : Bool) → b || false ≡ true → b ≡ true
no_more true is = refl
no_more false is = is

module _ (items : List Item) (among : Source → Bool) (closed : AreClosed items among) (s x : Source) (inside : among s ≡ true) where
  from-one : (place : ℕ) (w : What) → Contains items (record { place = place; what = w }) → source_eq (source_of w) s ≡ true
      → has_source (child_sources w) x ≡ true → among x ≡ true
  unfolding child_told
  from-one place (what.Told (Process parent) (Child child)) there comes has =
      ap among (was-process child x (sym (eq_is x (of_process child)) ∙ no_more (source_eq x (of_process child)) has))
      ∙ closed parent child (place, there) (ap among (sym (is-process parent s (sym (eq_is (of_process parent) s) ∙ comes))) ∙ inside)
  from-one place w there comes has = absurd (false≢true has)

  pub from-children : (xs : List Item) → All (λ (i : Item). Contains items i) xs → has_source (children_of xs s) x ≡ true → among x ≡ true
  from-children [] there has = absurd (false≢true has)
  from-children (i ∷ xs) there has =
      by_test (λ b. (comes_from s i && has_source (child_sources i.what) x) ≡ b → b || has_source (children_of xs s) x ≡ true → among x ≡ true)
      (comes_from s i && has_source (child_sources i.what) x)
      (λ _ both _.
      let parts = and_parts (comes_from s i) (has_source (child_sources i.what) x) both in
      from-one i.place i.what (All-head (λ (j : Item). Contains items j) i xs there) parts.0 parts.1)
      (λ _ _ later. from-children xs (All-tail (λ (j : Item). Contains items j) i xs there) later)
      refl (sym (one-more i xs s x) ∙ has)

-- what stands in a list is there
pub there-itself : (ss : List Source) (n : ℕ) (s : Source) → slice_get ss n ≡ Some s → has_source ss s ≡ true
there-itself [] n s at = absurd (none-some s at)
there-itself (x ∷ ss) zero s at = or_left (source_eq s x) (has_source ss s) (ap (source_eq s) (same_Some x s at) ∙ laws-law.refl s)
there-itself (x ∷ ss) (suc n) s at = or_right (source_eq s x) (has_source ss s) (there-itself ss n s at)

-- none stands there past the end alone
pub past : (ss : List Source) (n : ℕ) → slice_get ss n ≡ None → length ss ≤ n
past [] n none = omega arith
past (x ∷ ss) zero none = absurd (none-some x (sym none))
past (x ∷ ss) (suc n) none = omega (arith, past ss n none)
