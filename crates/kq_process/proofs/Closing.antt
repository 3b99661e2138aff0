-- What closing does to the table: one descriptor of a process, or all of them.
use Rattle.std.proofs.Common.{◌≡◌, ℕ, ◌==◌, true, false, List, [], ◌∷◌, ◌++◌, Option, Some, None, refl, sym, ap, arith, ◌∙◌}
use Rattle.std.specs.List.{AllByRecursion}
use Rattle.std.specs.Option.{is_some}
use Rattle.std.proofs.lemmas.Bool.Decides.{nat_tests}
use Rattle.kq_model.specs.declared.object.Named.{Named}
use Rattle.kq_model.specs.Close.{Pair, has_pair}
use Rattle.kq_model.specs.Descriptors.{Descriptor, with_descriptor, without_closed}
use Rattle.kq_model.specs.DescriptorPlans.{closes}
use Rattle.kq_model.specs.ProcessPlans.{pairs_of}
use Rattle.kq_process.specs.declared.process.Process.{Process}
use Rattle.kq_process.specs.Processes.{descriptor_in, descriptors_in, table_in}
use Rattle.kq_process.specs.Shelf.{lookup, put, without, AreRising}
use Rattle.kq_process.proofs.Places.{AreAbove, lookup-first, differ-back, same, same-true}
use Rattle.kq_process.proofs.Puts.{Yes, No, test}
use Rattle.kq_process.proofs.Blocks.{at-process}

differ-other-way : (m n : ℕ) → (m == n) ≡ false → (n == m) ≡ false
differ-other-way m n h = grind (arith, nat_tests)

-- nothing that is closed is of the other process
abbrev SparesOther : ℕ → List Pair → Type 0
SparesOther pid closed = (m k : ℕ) → (pid == m) ≡ false → has_pair m k closed ≡ false

module _ (pid : ℕ) (closed : List Pair) (spares : SparesOther pid closed) where
  spared : (m : ℕ) → (pid == m) ≡ false → (ds : List (ℕ × Named)) (t : List Descriptor)
      → without_closed closed (descriptors_in m ds ++ t) ≡ descriptors_in m ds ++ without_closed closed t
  spared m apart [] t = refl
  spared m apart (d ∷ ds) t = rw (spares m d.0 apart) (ap (λ t. descriptor_in m d ∷ t) (spared m apart ds t))

  spared-above : (es : List (ℕ × Process)) → AreAbove pid es → without_closed closed (table_in es) ≡ table_in es
  spared-above [] above = refl
  spared-above (e ∷ es) above =
      spared e.0 (differ-other-way e.0 pid (differ-back pid e.0 above.0)) e.1.descriptors (table_in es)
      ∙ ap (λ t. descriptors_in e.0 e.1.descriptors ++ t) (spared-above es above.1)

  pub spared-absent : (es : List (ℕ × Process)) → lookup pid es ≡ None
      → without_closed closed (table_in es) ≡ table_in es
  spared-absent [] absent = refl
  spared-absent (e ∷ es) absent = elim (test (e.0 == pid)) [
    | Yes h ↦ let first : lookup pid (e ∷ es) ≡ Some e.1 = lookup-first pid e es (same e.0 pid h) in absurd (cc)
    | No h ↦
        spared e.0 (differ-other-way e.0 pid h) e.1.descriptors (table_in es)
        ∙ ap (λ t. descriptors_in e.0 e.1.descriptors ++ t) (spared-absent es (rw h at absent))
  ]

  -- what is closed of the process's own block
  pub closed-block : (p x : Process)
      → ((t : List Descriptor) → without_closed closed (descriptors_in pid p.descriptors ++ t)
      ≡ descriptors_in pid x.descriptors ++ without_closed closed t)
      → (es : List (ℕ × Process)) → AreRising es → lookup pid es ≡ Some p
      → without_closed closed (table_in es) ≡ table_in (put pid x es)
  closed-block p x own = at-process (without_closed closed) pid x
      (λ m ds t lt. spared m (differ-back m pid lt) ds t) p
      (λ es above. own (table_in es) ∙ ap (λ t. descriptors_in pid x.descriptors ++ t) (spared-above es above))

-- ---- one descriptor

abbrev pub one : ℕ → ℕ → List Pair
one pid n = record { pid = pid; number = n } ∷ []

pub one-spares : (pid n m k : ℕ) → (pid == m) ≡ false → has_pair m k (one pid n) ≡ false
one-spares pid n m k apart = rw apart refl

one-own : (pid n : ℕ) (ds : List (ℕ × Named)) (t : List Descriptor)
    → without_closed (one pid n) (descriptors_in pid ds ++ t)
    ≡ descriptors_in pid (without n ds) ++ without_closed (one pid n) t
one-own pid n [] t = refl
one-own pid n (d ∷ ds) t = elim (test (d.0 == n)) [
  | Yes h ↦ rw (same-true pid pid refl, h, same-true n d.0 (sym (same d.0 n h))) (one-own pid n ds t)
  | No h ↦ rw (same-true pid pid refl, h, differ-other-way d.0 n h)
      (ap (λ t. descriptor_in pid d ∷ t) (one-own pid n ds t))
]

pub closed-one : (pid n : ℕ) (p x : Process) → x.descriptors ≡ without n p.descriptors → (es : List (ℕ × Process))
    → AreRising es → lookup pid es ≡ Some p → without_closed (one pid n) (table_in es) ≡ table_in (put pid x es)
closed-one pid n p x rest = closed-block pid (one pid n) (one-spares pid n) p x
    (λ t. one-own pid n p.descriptors t ∙ ap (λ ds. descriptors_in pid ds ++ without_closed (one pid n) t) (sym rest))

pub closed-absent : (pid n : ℕ) (es : List (ℕ × Process)) → lookup pid es ≡ None
    → without_closed (one pid n) (table_in es) ≡ table_in es
closed-absent pid n = spared-absent pid (one pid n) (one-spares pid n)

pub nothing-closed : (table : List Descriptor) → without_closed [] table ≡ table
nothing-closed [] = refl
nothing-closed (d ∷ table) = ap (λ t. d ∷ t) (nothing-closed table)

-- a number that was not open is just opened
pub opened-anew : (pid n : ℕ) (v : Named) (t t' : List Descriptor) (before : Option Named) → before ≡ None
    → t' ≡ with_descriptor (descriptor_in pid (n, v)) (without_closed (closes pid n before) t)
    → t' ≡ with_descriptor (descriptor_in pid (n, v)) t
unfolding closes
opened-anew pid n v t t' None absent is = is ∙ ap (with_descriptor (descriptor_in pid (n, v))) (nothing-closed t)
opened-anew pid n v t t' (Some b) absent is = absurd (cc)

-- ---- all of a process

abbrev all_of : ℕ → List (ℕ × Named) → List Pair
all_of pid ds = pairs_of (descriptors_in pid ds)

all-spares : (pid : ℕ) (ds : List (ℕ × Named)) (m k : ℕ) → (pid == m) ≡ false → has_pair m k (all_of pid ds) ≡ false
all-spares pid [] m k apart = refl
all-spares pid (d ∷ ds) m k apart = rw apart (all-spares pid ds m k apart)

all-has : (pid : ℕ) (ds : List (ℕ × Named)) (k : ℕ) → has_pair pid k (all_of pid ds) ≡ is_some (lookup k ds)
all-has pid [] k = refl
all-has pid (d ∷ ds) k = elim (test (d.0 == k)) [
  | Yes h ↦ rw (same-true pid pid refl, h) refl
  | No h ↦ rw (same-true pid pid refl, h) (all-has pid ds k)
]

abbrev AreThere : List (ℕ × Named) → List (ℕ × Named) → Type 0
AreThere all ds = AllByRecursion (λ d. is_some (lookup d.0 all) ≡ true) ds

there-more : (e : ℕ × Named) (all ds : List (ℕ × Named)) → AreThere all ds → AreThere (e ∷ all) ds
there-more e all [] there = tt
there-more e all (d ∷ ds) there =
    (elim (test (e.0 == d.0)) [ Yes h ↦ rw h refl | No h ↦ rw h there.0 ], there-more e all ds there.1)

all-there : (ds : List (ℕ × Named)) → AreThere ds ds
all-there [] = tt
all-there (d ∷ ds) = (rw (same-true d.0 d.0 refl) refl, there-more d ds ds (all-there ds))

all-own : (pid : ℕ) (all ds : List (ℕ × Named)) (t : List Descriptor) → AreThere all ds
    → without_closed (all_of pid all) (descriptors_in pid ds ++ t) ≡ without_closed (all_of pid all) t
all-own pid all [] t there = refl
all-own pid all (d ∷ ds) t there = rw (all-has pid all d.0, there.0) (all-own pid all ds t there.1)

pub closed-all : (pid : ℕ) (p x : Process) → x.descriptors ≡ [] → (es : List (ℕ × Process)) → AreRising es
    → lookup pid es ≡ Some p
    → without_closed (pairs_of (descriptors_in pid p.descriptors)) (table_in es) ≡ table_in (put pid x es)
closed-all pid p x empty = closed-block pid (all_of pid p.descriptors) (all-spares pid p.descriptors) p x
    (λ t. all-own pid p.descriptors p.descriptors t (all-there p.descriptors)
    ∙ ap (λ ds. descriptors_in pid ds ++ without_closed (all_of pid p.descriptors) t) (sym empty))
