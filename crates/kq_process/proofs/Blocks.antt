-- The table that a shelf of processes stands for is one block of descriptors after another, by rising pids:
-- what a change of one block does to it.
use Rattle.std.proofs.Common.{◌≡◌, ℕ, ◌<◌, ◌==◌, false, List, [], ◌∷◌, ◌++◌, Option, Some, None, refl, sym, ap, subst, ◌∙◌}
use Rattle.kq_model.specs.declared.object.Named.{Named}
use Rattle.kq_model.specs.Descriptors.{Descriptor, named_among}
use Rattle.kq_model.specs.ProcessPlans.{descriptors_of}
use Rattle.kq_process.specs.declared.process.Process.{Process}
use Rattle.kq_process.specs.Processes.{descriptor_in, descriptors_in, table_in}
use Rattle.kq_process.specs.Shelf.{lookup, put, AreRising}
use Rattle.kq_process.proofs.Places.{AreAbove, lookup-above, lookup-later, put-later, put-before, lookup-first, put-first, differ, differ-back, same-true}
use Rattle.kq_process.proofs.Puts.{Below, Same, Above, order, Yes, No, test}
use Rattle.kq_process.proofs.Pids.{above-all}

-- what passes by the blocks of lower pids
abbrev pub Passes : (List Descriptor → List Descriptor) → ℕ → Type 0
Passes f pid = (m : ℕ) (ds : List (ℕ × Named)) (t : List Descriptor) → m < pid
    → f (descriptors_in m ds ++ t) ≡ descriptors_in m ds ++ f t

module _ (f : List Descriptor → List Descriptor) (pid : ℕ) (x : Process) (passes : Passes f pid) where
  -- the block of a process that is there
  pub at-process : (p : Process)
      → ((es : List (ℕ × Process)) → AreAbove pid es → f (descriptors_in pid p.descriptors ++ table_in es)
      ≡ descriptors_in pid x.descriptors ++ table_in es)
      → (es : List (ℕ × Process)) → AreRising es → lookup pid es ≡ Some p → f (table_in es) ≡ table_in (put pid x es)
  at-process p changes [] rising found = absurd (cc)
  at-process p changes (e ∷ es) rising found = elim (order e.0 pid) [
    | Below lt ↦
        passes e.0 e.1.descriptors (table_in es) lt
        ∙ ap (λ t. descriptors_in e.0 e.1.descriptors ++ t)
        (at-process p changes es rising.1 (sym (lookup-later pid e es lt) ∙ found))
        ∙ sym (ap table_in (put-later pid x e es lt))
    | Same is ↦
        let first : lookup pid (e ∷ es) ≡ Some e.1 = lookup-first pid e es is in
        let thing : e.1 ≡ p = cc in
        ap (λ m. f (descriptors_in m e.1.descriptors ++ table_in es)) is
        ∙ ap (λ (q : Process). f (descriptors_in pid q.descriptors ++ table_in es)) thing
        ∙ changes es (subst (λ m. AreAbove m es) is rising.0)
        ∙ sym (ap table_in (put-first pid x e es is))
    | Above lt ↦ let none : lookup pid (e ∷ es) ≡ None = lookup-above pid (e ∷ es) (above-all pid e es lt rising.0) in
        absurd (cc)
  ]

  -- the block of a process that was not there
  pub at-gap : ((es : List (ℕ × Process)) → AreAbove pid es → f (table_in es)
      ≡ descriptors_in pid x.descriptors ++ table_in es)
      → (es : List (ℕ × Process)) → AreRising es → lookup pid es ≡ None → f (table_in es) ≡ table_in (put pid x es)
  at-gap changes [] rising absent = changes [] tt
  at-gap changes (e ∷ es) rising absent = elim (order e.0 pid) [
    | Below lt ↦
        passes e.0 e.1.descriptors (table_in es) lt
        ∙ ap (λ t. descriptors_in e.0 e.1.descriptors ++ t)
        (at-gap changes es rising.1 (sym (lookup-later pid e es lt) ∙ absent))
        ∙ sym (ap table_in (put-later pid x e es lt))
    | Same is ↦ let first : lookup pid (e ∷ es) ≡ Some e.1 = lookup-first pid e es is in absurd (cc)
    | Above lt ↦ changes (e ∷ es) (above-all pid e es lt rising.0) ∙ sym (ap table_in (put-before pid x e es lt))
  ]

-- ---- a block that stays

abbrev pub as_it_is : List Descriptor → List Descriptor
as_it_is t = t

pub kept-block : (pid : ℕ) (p x : Process) → x.descriptors ≡ p.descriptors → (es : List (ℕ × Process)) → AreRising es
    → lookup pid es ≡ Some p → table_in es ≡ table_in (put pid x es)
kept-block pid p x same_block = at-process as_it_is pid x (λ m ds t lt. refl) p
    (λ es above. ap (λ ds. descriptors_in pid ds ++ table_in es) (sym same_block))

pub empty-block : (pid : ℕ) (x : Process) → x.descriptors ≡ [] → (es : List (ℕ × Process)) → AreRising es
    → lookup pid es ≡ None → table_in es ≡ table_in (put pid x es)
empty-block pid x empty = at-gap as_it_is pid x (λ m ds t lt. refl)
    (λ es above. ap (λ ds. descriptors_in pid ds ++ table_in es) (sym empty))

-- ---- what is found

-- the descriptors of a process, none where there is no process
abbrev pub descriptors_at : Option Process → List (ℕ × Named)
descriptors_at None = []
descriptors_at (Some p) = p.descriptors

module _ (pid n : ℕ) where
  named-other : (m : ℕ) → (m == pid) ≡ false → (ds : List (ℕ × Named)) (t : List Descriptor)
      → named_among pid n (descriptors_in m ds ++ t) ≡ named_among pid n t
  unfolding named_among
  named-other m apart [] t = refl
  named-other m apart (d ∷ ds) t = rw apart (named-other m apart ds t)

  named-own : (t : List Descriptor) → named_among pid n t ≡ None → (ds : List (ℕ × Named))
      → named_among pid n (descriptors_in pid ds ++ t) ≡ lookup n ds
  unfolding named_among
  named-own t none [] = none
  named-own t none (d ∷ ds) = elim (test (d.0 == n)) [
    | Yes h ↦ rw (same-true pid pid refl, h) refl
    | No h ↦ rw (same-true pid pid refl, h) (named-own t none ds)
  ]

  named-above : (es : List (ℕ × Process)) → AreAbove pid es → named_among pid n (table_in es) ≡ None
  unfolding named_among
  named-above [] above = refl
  named-above (e ∷ es) above = named-other e.0 (differ-back pid e.0 above.0) e.1.descriptors (table_in es)
      ∙ named-above es above.1

  pub named-found : (es : List (ℕ × Process)) → AreRising es
      → named_among pid n (table_in es) ≡ lookup n (descriptors_at (lookup pid es))
  unfolding named_among
  named-found [] rising = refl
  named-found (e ∷ es) rising = elim (order e.0 pid) [
    | Below lt ↦
        named-other e.0 (differ e.0 pid lt) e.1.descriptors (table_in es)
        ∙ named-found es rising.1 ∙ sym (ap (λ o. lookup n (descriptors_at o)) (lookup-later pid e es lt))
    | Same is ↦
        ap (λ m. named_among pid n (descriptors_in m e.1.descriptors ++ table_in es)) is
        ∙ named-own (table_in es) (named-above es (subst (λ m. AreAbove m es) is rising.0)) e.1.descriptors
        ∙ sym (ap (λ o. lookup n (descriptors_at o)) (lookup-first pid e es is))
    | Above lt ↦
        named-above (e ∷ es) (above-all pid e es lt rising.0)
        ∙ sym (ap (λ o. lookup n (descriptors_at o)) (lookup-above pid (e ∷ es) (above-all pid e es lt rising.0)))
  ]

module _ (pid : ℕ) where
  of-other : (m : ℕ) → (m == pid) ≡ false → (ds : List (ℕ × Named)) (t : List Descriptor)
      → descriptors_of pid (descriptors_in m ds ++ t) ≡ descriptors_of pid t
  of-other m apart [] t = refl
  of-other m apart (d ∷ ds) t = rw apart (of-other m apart ds t)

  of-own : (t : List Descriptor) → descriptors_of pid t ≡ [] → (ds : List (ℕ × Named))
      → descriptors_of pid (descriptors_in pid ds ++ t) ≡ descriptors_in pid ds
  of-own t none [] = none
  of-own t none (d ∷ ds) = rw (same-true pid pid refl) (ap (λ t. descriptor_in pid d ∷ t) (of-own t none ds))

  of-above : (es : List (ℕ × Process)) → AreAbove pid es → descriptors_of pid (table_in es) ≡ []
  of-above [] above = refl
  of-above (e ∷ es) above = of-other e.0 (differ-back pid e.0 above.0) e.1.descriptors (table_in es)
      ∙ of-above es above.1

  pub of-found : (es : List (ℕ × Process)) → AreRising es
      → descriptors_of pid (table_in es) ≡ descriptors_in pid (descriptors_at (lookup pid es))
  of-found [] rising = refl
  of-found (e ∷ es) rising = elim (order e.0 pid) [
    | Below lt ↦
        of-other e.0 (differ e.0 pid lt) e.1.descriptors (table_in es)
        ∙ of-found es rising.1 ∙ sym (ap (λ o. descriptors_in pid (descriptors_at o)) (lookup-later pid e es lt))
    | Same is ↦
        ap (λ m. descriptors_of pid (descriptors_in m e.1.descriptors ++ table_in es)) is
        ∙ of-own (table_in es) (of-above es (subst (λ m. AreAbove m es) is rising.0)) e.1.descriptors
        ∙ sym (ap (λ o. descriptors_in pid (descriptors_at o)) (lookup-first pid e es is))
    | Above lt ↦
        of-above (e ∷ es) (above-all pid e es lt rising.0)
        ∙ sym (ap (λ o. descriptors_in pid (descriptors_at o))
        (lookup-above pid (e ∷ es) (above-all pid e es lt rising.0)))
  ]
