-- Slots in rising order of their numbers, some of them empty: what the full ones are after a change.
use Rattle.std.proofs.Common.{◌≡◌, ◌∙◌, ℕ, ◌+◌, ◌<◌, ◌≤◌, ◌==◌, ◌++◌, not, Bool, true, false, cond, List, [], ◌∷◌, length, get_or, set, drop, filter, Option, Some, None, add-one, refl, sym, ap, subst, arith}
use Rattle.std.proofs.Math.Seq.{drop-cons}
use Rattle.std.specs.Option.{is_some}
use Rattle.kq_model.specs.declared.object.Named.{Named}
use Rattle.kq_model.specs.ProcessPlans.{is_kqueue}
use Rattle.std.specs.List.{insert}
use Rattle.kq_process.specs.Shelf.{lookup, put, without, AreRising, IsGap, IsPlace}
use Rattle.kq_process.specs.Slots.{entry_of, filled, flat, is_inherited, with_entry}
use Rattle.kq_process.proofs.Places.{AreAbove, above-lower, lookup-above, lookup-first, lookup-later, put-above, put-before, put-first, put-later, without-above, without-first, without-later}
use Rattle.kq_process.proofs.Puts.{Above, Below, Same, all-above, order}

module _ {X : Type 0} where
  with-above : (n m : ℕ) (o : Option X) (es : List (ℕ × X)) → n < m → AreAbove n es → AreAbove n (with_entry m o es)
  with-above n m None es lt above = above
  with-above n m (Some x) es lt above = (lt, above)

  pub filled-above : (n : ℕ) (es : List (ℕ × Option X)) → AreAbove n es → AreAbove n (filled es)
  filled-above n [] above = tt
  filled-above n (e ∷ es) above = with-above n e.0 e.1 (filled es) above.0 (filled-above n es above.1)

  with-rises : (m : ℕ) (o : Option X) (es : List (ℕ × X)) → AreAbove m es → AreRising es → AreRising (with_entry m o es)
  with-rises m None es above rising = rising
  with-rises m (Some x) es above rising = (above, rising)

  pub filled-rises : (es : List (ℕ × Option X)) → AreRising es → AreRising (filled es)
  filled-rises [] rising = tt
  filled-rises (e ∷ es) rising =
      with-rises e.0 e.1 (filled es) (filled-above e.0 es rising.0) (filled-rises es rising.1)

  -- all of the list are above a number that is not above the slot's
  above-same : (n m : ℕ) (es : List (ℕ × Option X)) → n ≤ m → AreAbove m es → AreAbove n (filled es)
  above-same n m es le above = filled-above n es (above-lower n m es le above)

  -- ---- what stands under a number

  lookup-with : (n m : ℕ) (o : Option X) (es : List (ℕ × Option X)) → AreAbove m es
      → lookup n (filled es) ≡ flat (lookup n es) → lookup n (with_entry m o (filled es)) ≡ flat (lookup n ((m, o) ∷ es))
  lookup-with n m None es above rest = elim (order m n) [
    | Below lt ↦ rest ∙ ap flat (sym (lookup-later n (m, None) es lt))
    | Same is ↦ let le : n ≤ m = omega arith in
        lookup-above n (filled es) (above-same n m es le above) ∙ sym (ap flat (lookup-first n (m, None) es is))
    | Above lt ↦ let le : n ≤ m = omega arith in
        lookup-above n (filled es) (above-same n m es le above)
        ∙ sym (ap flat (lookup-above n ((m, None) ∷ es) (all-above n (m, None) es lt above)))
  ]
  lookup-with n m (Some x) es above rest = elim (order m n) [
    | Below lt ↦ lookup-later n (m, x) (filled es) lt ∙ rest ∙ ap flat (sym (lookup-later n (m, Some x) es lt))
    | Same is ↦ lookup-first n (m, x) (filled es) is ∙ sym (ap flat (lookup-first n (m, Some x) es is))
    | Above lt ↦ lookup-above n ((m, x) ∷ filled es) (all-above n (m, x) (filled es) lt (filled-above m es above))
        ∙ sym (ap flat (lookup-above n ((m, Some x) ∷ es) (all-above n (m, Some x) es lt above)))
  ]

  pub lookup-filled : (n : ℕ) (es : List (ℕ × Option X)) → AreRising es → lookup n (filled es) ≡ flat (lookup n es)
  lookup-filled n [] rising = refl
  lookup-filled n (e ∷ es) rising = lookup-with n e.0 e.1 es rising.0 (lookup-filled n es rising.1)

  -- ---- a slot is filled

  put-with : (n : ℕ) (x : X) (m : ℕ) (o : Option X) (es : List (ℕ × Option X)) → AreAbove m es
      → filled (put n (Some x) es) ≡ put n x (filled es)
      → filled (put n (Some x) ((m, o) ∷ es)) ≡ put n x (with_entry m o (filled es))
  put-with n x m None es above rest = elim (order m n) [
    | Below lt ↦ ap filled (put-later n (Some x) (m, None) es lt) ∙ rest
    | Same is ↦ let le : n ≤ m = omega arith in
        ap filled (put-first n (Some x) (m, None) es is) ∙ sym (put-above n x (filled es) (above-same n m es le above))
    | Above lt ↦ let le : n ≤ m = omega arith in
        ap filled (put-before n (Some x) (m, None) es lt) ∙ sym (put-above n x (filled es) (above-same n m es le above))
  ]
  put-with n x m (Some y) es above rest = elim (order m n) [
    | Below lt ↦ ap filled (put-later n (Some x) (m, Some y) es lt) ∙ ap (λ t. (m, y) ∷ t) rest
        ∙ sym (put-later n x (m, y) (filled es) lt)
    | Same is ↦ ap filled (put-first n (Some x) (m, Some y) es is) ∙ sym (put-first n x (m, y) (filled es) is)
    | Above lt ↦ ap filled (put-before n (Some x) (m, Some y) es lt) ∙ sym (put-before n x (m, y) (filled es) lt)
  ]

  pub put-filled : (n : ℕ) (x : X) (es : List (ℕ × Option X)) → AreRising es
      → filled (put n (Some x) es) ≡ put n x (filled es)
  put-filled n x [] rising = refl
  put-filled n x (e ∷ es) rising = put-with n x e.0 e.1 es rising.0 (put-filled n x es rising.1)

  -- ---- a slot is emptied

  empty-with : (n m : ℕ) (o : Option X) (es : List (ℕ × Option X)) → AreAbove m es
      → filled (put n None es) ≡ without n (filled es)
      → filled (put n None ((m, o) ∷ es)) ≡ without n (with_entry m o (filled es))
  empty-with n m None es above rest = elim (order m n) [
    | Below lt ↦ ap filled (put-later n None (m, None) es lt) ∙ rest
    | Same is ↦ let le : n ≤ m = omega arith in
        ap filled (put-first n None (m, None) es is) ∙ sym (without-above n (filled es) (above-same n m es le above))
    | Above lt ↦ let le : n ≤ m = omega arith in
        ap filled (put-before n None (m, None) es lt) ∙ sym (without-above n (filled es) (above-same n m es le above))
  ]
  empty-with n m (Some y) es above rest = elim (order m n) [
    | Below lt ↦ ap filled (put-later n None (m, Some y) es lt) ∙ ap (λ t. (m, y) ∷ t) rest
        ∙ sym (without-later n (m, y) (filled es) lt)
    | Same is ↦ ap filled (put-first n None (m, Some y) es is)
        ∙ sym (without-first n (m, y) (filled es) is (filled-above m es above))
    | Above lt ↦ ap filled (put-before n None (m, Some y) es lt)
        ∙ sym (without-above n ((m, y) ∷ filled es) (all-above n (m, y) (filled es) lt (filled-above m es above)))
  ]

  pub put-none : (n : ℕ) (es : List (ℕ × Option X)) → AreRising es → filled (put n None es) ≡ without n (filled es)
  put-none n [] rising = refl
  put-none n (e ∷ es) rising = empty-with n e.0 e.1 es rising.0 (put-none n es rising.1)

  -- ---- empty slots are dropped

  drop-with : (m : ℕ) (o : Option X) (es : List (ℕ × Option X))
      → filled (cond (is_some o) ((m, o) ∷ es) es) ≡ with_entry m o (filled es)
  drop-with m None es = refl
  drop-with m (Some x) es = refl

  pub filled-full : (es : List (ℕ × Option X)) → filled (filter (λ e. is_some e.1) es) ≡ filled es
  filled-full [] = refl
  filled-full (e ∷ es) =
      drop-with e.0 e.1 (filter (λ e. is_some e.1) es) ∙ ap (λ fs. with_entry e.0 e.1 fs) (filled-full es)

  -- ---- slot by slot

  with-entry : (m : ℕ) (o : Option X) (es : List (ℕ × X)) → with_entry m o es ≡ entry_of m o ++ es
  with-entry m None es = refl
  with-entry m (Some x) es = refl

  pub filled-next : (es : List (ℕ × Option X)) (i : ℕ) (d : ℕ × Option X) → i < length es
      → filled (drop i es) ≡ entry_of (get_or es i d).0 (get_or es i d).1 ++ filled (drop (i + 1) es)
  filled-next es i d below =
      let cons : drop i es ≡ get_or es i d ∷ drop (i + 1) es = rw add-one (drop-cons es i d below) in
      ap filled cons ∙ with-entry (get_or es i d).0 (get_or es i d).1 (filled (drop (i + 1) es))

-- ---- which pairs go

kept-if : {X : Type 0} (b : Bool) (m : ℕ) (o : Option X) (es : List (ℕ × Option X))
    → filled (cond b ((m, o) ∷ es) es) ≡ cond b (with_entry m o (filled es)) (filled es)
kept-if true m o es = refl
kept-if false m o es = refl

either : {X : Type 0} (b : Bool) (x : X) → cond b x x ≡ x
either true x = refl
either false x = refl

without-with : {X : Type 0} (n m : ℕ) (o : Option X) (es : List (ℕ × Option X)) (fs : List (ℕ × X))
    → filled es ≡ without n fs → filled (cond (not (m == n)) ((m, o) ∷ es) es) ≡ without n (with_entry m o fs)
without-with n m None es fs rest = kept-if (not (m == n)) m None es ∙ either (not (m == n)) (filled es) ∙ rest
without-with n m (Some x) es fs rest =
    kept-if (not (m == n)) m (Some x) es ∙ ap (λ t. cond (not (m == n)) ((m, x) ∷ t) t) rest

filled-without : {X : Type 0} (n : ℕ) (es : List (ℕ × Option X)) → filled (without n es) ≡ without n (filled es)
filled-without n [] = refl
filled-without n (e ∷ es) = without-with n e.0 e.1 (without n es) (filled es) (filled-without n es)

-- ---- at a place or at a gap

module _ {X : Type 0} (n : ℕ) (es : List (ℕ × Option X)) (i : ℕ) (rising : AreRising es) where
  pub found-filled : IsPlace n es i → (e : ℕ × Option X) → e ≡ get_or es i e → e.1 ≡ lookup n (filled es)
  found-filled place e is = sym (lookup-filled n es rising ∙ ap flat (place.found e ∙ ap (λ (f : ℕ × Option X). Some f.1) (sym is)))

  pub set-filled : IsPlace n es i → (x : X) → filled (set es i (n, Some x)) ≡ put n x (filled es)
  set-filled place x = ap filled (place.sets (Some x)) ∙ put-filled n x es rising

  pub unset-filled : IsPlace n es i → filled (set es i (n, None)) ≡ without n (filled es)
  unset-filled place = ap filled (place.sets None) ∙ put-none n es rising

  pub set-rises : IsPlace n es i → (o : Option X) → AreRising (set es i (n, o))
  set-rises place o = subst AreRising (sym (place.sets o)) (place.put_rises o)

  pub absent-filled : IsGap n es i → None ≡ lookup n (filled es)
  absent-filled gap = sym (lookup-filled n es rising ∙ ap flat gap.absent)

  pub insert-filled : IsGap n es i → (x : X) → filled (insert es i (n, Some x)) ≡ put n x (filled es)
  insert-filled gap x = ap filled (gap.inserts (Some x)) ∙ put-filled n x es rising

  pub insert-rises : IsGap n es i → (o : Option X) → AreRising (insert es i (n, o))
  insert-rises gap o = subst AreRising (sym (gap.inserts o)) (gap.put_rises o)

  pub none-without : IsGap n es i → filled es ≡ without n (filled es)
  none-without gap = ap filled (sym gap.without_is) ∙ filled-without n es

-- ---- what a child has too

inherited-if : (b : Bool) (m : ℕ) (n : Named) (es : List (ℕ × Option Named))
    → filled (cond b ((m, Some n) ∷ es) es) ≡ cond b ((m, n) ∷ filled es) (filled es)
inherited-if true m n es = refl
inherited-if false m n es = refl

inherited-with : (m : ℕ) (o : Option Named) (es : List (ℕ × Option Named)) (fs : List (ℕ × Named))
    → filled es ≡ filter (λ e. not (is_kqueue e.1)) fs
    → filled (cond (is_inherited o) ((m, o) ∷ es) es) ≡ filter (λ e. not (is_kqueue e.1)) (with_entry m o fs)
inherited-with m None es fs rest = rest
inherited-with m (Some n) es fs rest =
    inherited-if (not (is_kqueue n)) m n es ∙ ap (λ t. cond (not (is_kqueue n)) ((m, n) ∷ t) t) rest

pub filled-inherited : (es : List (ℕ × Option Named))
    → filled (filter (λ e. is_inherited e.1) es) ≡ filter (λ e. not (is_kqueue e.1)) (filled es)
filled-inherited [] = refl
filled-inherited (e ∷ es) =
    inherited-with e.0 e.1 (filter (λ e. is_inherited e.1) es) (filled es) (filled-inherited es)
