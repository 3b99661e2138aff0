-- What opening does to the table: one descriptor of a process, or a child's copies.
use Rattle.std.proofs.Common.{◌≡◌, ℕ, ◌<◌, ◌≤◌, nat_lt, true, false, not, List, [], ◌∷◌, ◌++◌, map, filter, Option, Some, None, refl, sym, ap, arith, ◌∙◌}
use Rattle.kq_model.specs.declared.object.Named.{Named}
use Rattle.kq_model.specs.Descriptors.{Descriptor, is_before, with_descriptor, with_descriptors, without_closed}
use Rattle.kq_model.specs.DescriptorPlans.{closes}
use Rattle.kq_model.specs.ProcessPlans.{is_kqueue, inheritable}
use Rattle.kq_process.specs.declared.process.Process.{Process}
use Rattle.kq_process.specs.Processes.{descriptor_in, descriptors_in, table_in}
use Rattle.kq_process.specs.Shelf.{lookup, put, without, AreRising}
use Rattle.kq_process.proofs.Places.{AreAbove, lookup-later, put-later, put-before, lookup-first, differ-back, less-true, less-false, same-true, put-rises}
use Rattle.kq_process.proofs.Puts.{Below, Same, Above, order, Yes, No, test, lookup-put, put-put, lookup-without, put-without}
use Rattle.kq_process.proofs.Blocks.{Passes, at-process, at-gap}
use Rattle.kq_process.proofs.Closing.{closed-one, nothing-closed}

-- ---- which descriptor comes first

after-lower : (pid m : ℕ) (d e : ℕ × Named) → m < pid → is_before (descriptor_in pid d) (descriptor_in m e) ≡ false
unfolding is_before
after-lower pid m d e lt = let le : m ≤ pid = omega arith in rw (less-false pid m le, differ-back m pid lt) refl

before-higher : (pid m : ℕ) (d e : ℕ × Named) → pid < m → is_before (descriptor_in pid d) (descriptor_in m e) ≡ true
unfolding is_before
before-higher pid m d e lt = rw (less-true pid m lt) refl

by-number : (pid : ℕ) (d e : ℕ × Named) → is_before (descriptor_in pid d) (descriptor_in pid e) ≡ nat_lt d.0 e.0
unfolding is_before
by-number pid d e = let le : pid ≤ pid = omega arith in rw (less-false pid pid le, same-true pid pid refl) refl

step-before : (d e : Descriptor) (t : List Descriptor) → is_before d e ≡ true → with_descriptor d (e ∷ t) ≡ d ∷ e ∷ t
unfolding with_descriptor
step-before d e t h = rw h refl

step-after : (d e : Descriptor) (t : List Descriptor) → is_before d e ≡ false
    → with_descriptor d (e ∷ t) ≡ e ∷ with_descriptor d t
unfolding with_descriptor
step-after d e t h = rw h refl

-- ---- one descriptor

insert-passes : (pid : ℕ) (d : ℕ × Named) → Passes (with_descriptor (descriptor_in pid d)) pid
insert-passes pid d m [] t lt = refl
insert-passes pid d m (e ∷ ds) t lt =
    step-after (descriptor_in pid d) (descriptor_in m e) (descriptors_in m ds ++ t) (after-lower pid m d e lt)
    ∙ ap (λ t. descriptor_in m e ∷ t) (insert-passes pid d m ds t lt)

-- it goes before all of a table
abbrev GoesFirst : ℕ → ℕ × Named → List Descriptor → Type 0
GoesFirst pid d t = with_descriptor (descriptor_in pid d) t ≡ descriptor_in pid d ∷ t

insert-own : (pid n : ℕ) (v : Named) (t : List Descriptor) → GoesFirst pid (n, v) t → (ds : List (ℕ × Named))
    → lookup n ds ≡ None
    → with_descriptor (descriptor_in pid (n, v)) (descriptors_in pid ds ++ t) ≡ descriptors_in pid (put n v ds) ++ t
insert-own pid n v t first [] absent = first
insert-own pid n v t first (e ∷ ds) absent = elim (order e.0 n) [
  | Below lt ↦
      let le : e.0 ≤ n = omega arith in
      step-after (descriptor_in pid (n, v)) (descriptor_in pid e) (descriptors_in pid ds ++ t)
      (by-number pid (n, v) e ∙ less-false n e.0 le)
      ∙ ap (λ t. descriptor_in pid e ∷ t) (insert-own pid n v t first ds (sym (lookup-later n e ds lt) ∙ absent))
      ∙ sym (ap (λ es. descriptors_in pid es ++ t) (put-later n v e ds lt))
  | Same is ↦ let found : lookup n (e ∷ ds) ≡ Some e.1 = lookup-first n e ds is in absurd (cc)
  | Above lt ↦
      step-before (descriptor_in pid (n, v)) (descriptor_in pid e) (descriptors_in pid ds ++ t)
      (by-number pid (n, v) e ∙ less-true n e.0 lt)
      ∙ sym (ap (λ es. descriptors_in pid es ++ t) (put-before n v e ds lt))
]

first-block : (pid m : ℕ) (d : ℕ × Named) (t : List Descriptor) → pid < m → GoesFirst pid d t
    → (ds : List (ℕ × Named)) → GoesFirst pid d (descriptors_in m ds ++ t)
first-block pid m d t lt first [] = first
first-block pid m d t lt first (e ∷ ds) = step-before (descriptor_in pid d) (descriptor_in m e)
    (descriptors_in m ds ++ t) (before-higher pid m d e lt)

first-above : (pid : ℕ) (d : ℕ × Named) (es : List (ℕ × Process)) → AreAbove pid es → GoesFirst pid d (table_in es)
unfolding with_descriptor
first-above pid d [] above = refl
first-above pid d (e ∷ es) above = first-block pid e.0 d (table_in es) above.0
    (first-above pid d es above.1) e.1.descriptors

pub opened-one : (pid n : ℕ) (v : Named) (p x : Process) → lookup n p.descriptors ≡ None
    → x.descriptors ≡ put n v p.descriptors
    → (es : List (ℕ × Process)) → AreRising es → lookup pid es ≡ Some p
    → with_descriptor (descriptor_in pid (n, v)) (table_in es) ≡ table_in (put pid x es)
opened-one pid n v p x absent more = at-process (with_descriptor (descriptor_in pid (n, v))) pid x
    (insert-passes pid (n, v)) p
    (λ es above. insert-own pid n v (table_in es) (first-above pid (n, v) es above) p.descriptors absent
    ∙ ap (λ ds. descriptors_in pid ds ++ table_in es) (sym more))

-- the number is closed, where it is open, and then names this
pub named-anew : (pid n : ℕ) (v : Named) (p x : Process) → AreRising p.descriptors
    → x.descriptors ≡ put n v p.descriptors
    → (es : List (ℕ × Process)) → AreRising es → lookup pid es ≡ Some p
    → (o : Option Named) → lookup n p.descriptors ≡ o
    → with_descriptor (descriptor_in pid (n, v)) (without_closed (closes pid n o) (table_in es))
    ≡ table_in (put pid x es)
unfolding closes
named-anew pid n v p x numbers more es rising found None absent =
    ap (with_descriptor (descriptor_in pid (n, v))) (nothing-closed (table_in es))
    ∙ opened-one pid n v p x absent more es rising found
named-anew pid n v p x numbers more es rising found (Some old) open_before =
    let less : Process = record p { descriptors = without n p.descriptors } in
    ap (with_descriptor (descriptor_in pid (n, v))) (closed-one pid n p less refl es rising found)
    ∙ opened-one pid n v less x (lookup-without n p.descriptors numbers)
    (more ∙ sym (put-without n v p.descriptors numbers))
    (put pid less es) (put-rises pid less es rising) (lookup-put pid less es)
    ∙ ap table_in (put-put pid x less es)

-- ---- a child's copies

copies-pass : (child : ℕ) (copies : List (ℕ × Named)) → Passes (with_descriptors (descriptors_in child copies)) child
unfolding with_descriptors
copies-pass child [] m ds t lt = refl
copies-pass child (d ∷ copies) m ds t lt =
    ap (with_descriptors (descriptors_in child copies)) (insert-passes child d m ds t lt)
    ∙ copies-pass child copies m ds (with_descriptor (descriptor_in child d) t) lt

-- those after a descriptor leave it first
copies-after : (child : ℕ) (e : ℕ × Named) (copies : List (ℕ × Named)) → AreAbove e.0 copies → (t : List Descriptor)
    → with_descriptors (descriptors_in child copies) (descriptor_in child e ∷ t)
    ≡ descriptor_in child e ∷ with_descriptors (descriptors_in child copies) t
unfolding with_descriptors
copies-after child e [] above t = refl
copies-after child e (d ∷ copies) above t =
    let le : e.0 ≤ d.0 = omega (arith, above.0) in
    ap (with_descriptors (descriptors_in child copies))
    (step-after (descriptor_in child d) (descriptor_in child e) t (by-number child d e ∙ less-false d.0 e.0 le))
    ∙ copies-after child e copies above.1 (with_descriptor (descriptor_in child d) t)

copies-first : (child : ℕ) (copies : List (ℕ × Named)) → AreRising copies → (t : List Descriptor)
    → ((d : ℕ × Named) → GoesFirst child d t)
    → with_descriptors (descriptors_in child copies) t ≡ descriptors_in child copies ++ t
unfolding with_descriptors
copies-first child [] rising t first = refl
copies-first child (d ∷ copies) rising t first =
    ap (with_descriptors (descriptors_in child copies)) (first d)
    ∙ copies-after child d copies rising.0 t
    ∙ ap (λ t. descriptor_in child d ∷ t) (copies-first child copies rising.1 t first)

pub opened-copies : (child : ℕ) (x : Process) → AreRising x.descriptors
    → (es : List (ℕ × Process)) → AreRising es → lookup child es ≡ None
    → with_descriptors (descriptors_in child x.descriptors) (table_in es) ≡ table_in (put child x es)
opened-copies child x numbers = at-gap (with_descriptors (descriptors_in child x.descriptors)) child x
    (copies-pass child x.descriptors)
    (λ es above. copies-first child x.descriptors numbers (table_in es) (λ d. first-above child d es above))

-- the copies are the parent's descriptors, but for kqueues
abbrev pub copies_of : List (ℕ × Named) → List (ℕ × Named)
copies_of ds = filter (λ (d : ℕ × Named). not (is_kqueue d.1)) ds

pub inherited-copies : (pid child : ℕ) (ds : List (ℕ × Named))
    → map (λ (d : Descriptor). record d { pid = child }) (inheritable (descriptors_in pid ds))
    ≡ descriptors_in child (copies_of ds)
inherited-copies pid child [] = refl
inherited-copies pid child (d ∷ ds) = elim (test (is_kqueue d.1)) [
  | Yes h ↦ rw h (inherited-copies pid child ds)
  | No h ↦ rw h (ap (λ t. descriptor_in child d ∷ t) (inherited-copies pid child ds))
]
