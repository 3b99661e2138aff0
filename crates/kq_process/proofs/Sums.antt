-- What is counted over a table: with one descriptor more, with one less, and without a whole process.
use Rattle.std.proofs.Common.{◌≡◌, ℕ, ◌+◌, List, [], ◌∷◌, Option, Some, None, refl, sym, ap, subst, arith, ◌∙◌}
use Rattle.std.specs.List.{sum_by}
use Rattle.std.proofs.lemmas.List.Sums.{sum_by-cons, sum_by-append}
use Rattle.kq_model.specs.declared.object.Named.{Named}
use Rattle.kq_model.specs.Descriptors.{Descriptor, without_closed}
use Rattle.kq_model.specs.ProcessPlans.{descriptors_of, pairs_of}
use Rattle.kq_process.specs.declared.process.Process.{Process}
use Rattle.kq_process.specs.Processes.{descriptor_in, descriptors_in, table_in, descriptor_there, AreOnce}
use Rattle.kq_process.specs.Shelf.{lookup, put, without, AreRising}
use Rattle.kq_process.proofs.Places.{lookup-above, lookup-later, without-later, put-later, lookup-first, put-first, without-first}
use Rattle.kq_process.proofs.Puts.{Below, Same, Above, order, all-above}
use Rattle.kq_process.proofs.Pids.{above-all}
use Rattle.kq_process.proofs.Blocks.{descriptors_at, of-found}
use Rattle.kq_process.proofs.Closing.{one, closed-one, nothing-closed}
use Rattle.kq_process.proofs.Told.{exit_table, exit_closed}

module _ (count : Descriptor → ℕ) (pid : ℕ) where
  abbrev block : List (ℕ × Named) → ℕ
  block ds = sum_by count (descriptors_in pid ds)

  block-cons : (d : ℕ × Named) (ds : List (ℕ × Named)) → block (d ∷ ds) ≡ count (descriptor_in pid d) + block ds
  block-cons d ds = sum_by-cons count (descriptor_in pid d) (descriptors_in pid ds)

  -- without the one descriptor of a number
  sum-without : (n : ℕ) (v : Named) (ds : List (ℕ × Named)) → AreRising ds → lookup n ds ≡ Some v
      → block ds ≡ block (without n ds) + count (descriptor_in pid (n, v))
  sum-without n v [] rising found = absurd (cc)
  sum-without n v (d ∷ ds) rising found = elim (order d.0 n) [
    | Below lt ↦
        let less : block ds ≡ block (without n ds) + count (descriptor_in pid (n, v)) =
        sum-without n v ds rising.1 (sym (lookup-later n d ds lt) ∙ found) in
        let all : block (d ∷ ds) ≡ count (descriptor_in pid d) + block ds = block-cons d ds in
        let left : block (without n (d ∷ ds)) ≡ count (descriptor_in pid d) + block (without n ds) =
        ap block (without-later n d ds lt) ∙ block-cons d (without n ds) in
        omega arith
    | Same is ↦
        let first : lookup n (d ∷ ds) ≡ Some d.1 = lookup-first n d ds is in
        let thing : d.1 ≡ v = cc in
        let all : block (d ∷ ds) ≡ count (descriptor_in pid d) + block ds = block-cons d ds in
        let left : block (without n (d ∷ ds)) ≡ block ds = ap block (without-first n d ds is rising.0) in
        let here : count (descriptor_in pid d) ≡ count (descriptor_in pid (n, v)) =
        ap (λ m. count (descriptor_in pid (m, d.1))) is ∙ ap (λ w. count (descriptor_in pid (n, w))) thing in
        omega arith
    | Above lt ↦ let none : lookup n (d ∷ ds) ≡ None = lookup-above n (d ∷ ds) (all-above n d ds lt rising.0) in
        absurd (cc)
  ]

  abbrev all : List (ℕ × Process) → ℕ
  all es = sum_by count (table_in es)

  all-cons : (e : ℕ × Process) (es : List (ℕ × Process))
      → all (e ∷ es) ≡ sum_by count (descriptors_in e.0 e.1.descriptors) + all es
  all-cons e es = sum_by-append count (descriptors_in e.0 e.1.descriptors) (table_in es)

  -- with another block of the process
  sum-put : (p x : Process) (es : List (ℕ × Process)) → AreRising es → lookup pid es ≡ Some p
      → all es + block x.descriptors ≡ all (put pid x es) + block p.descriptors
  sum-put p x [] rising found = absurd (cc)
  sum-put p x (e ∷ es) rising found = elim (order e.0 pid) [
    | Below lt ↦
        let rest : all es + block x.descriptors ≡ all (put pid x es) + block p.descriptors =
        sum-put p x es rising.1 (sym (lookup-later pid e es lt) ∙ found) in
        let before : all (e ∷ es) ≡ sum_by count (descriptors_in e.0 e.1.descriptors) + all es = all-cons e es in
        let after : all (put pid x (e ∷ es)) ≡ sum_by count (descriptors_in e.0 e.1.descriptors) + all (put pid x es) =
        ap all (put-later pid x e es lt) ∙ all-cons e (put pid x es) in
        omega arith
    | Same is ↦
        let first : lookup pid (e ∷ es) ≡ Some e.1 = lookup-first pid e es is in
        let thing : e.1 ≡ p = cc in
        let before : all (e ∷ es) ≡ sum_by count (descriptors_in e.0 e.1.descriptors) + all es = all-cons e es in
        let own : sum_by count (descriptors_in e.0 e.1.descriptors) ≡ block p.descriptors =
        ap (λ m. sum_by count (descriptors_in m e.1.descriptors)) is
        ∙ ap (λ (q : Process). block q.descriptors) thing in
        let after : all (put pid x (e ∷ es)) ≡ block x.descriptors + all es =
        ap all (put-first pid x e es is) ∙ all-cons (pid, x) es in
        omega arith
    | Above lt ↦ let none : lookup pid (e ∷ es) ≡ None = lookup-above pid (e ∷ es) (above-all pid e es lt rising.0) in
        absurd (cc)
  ]

-- ---- what stands in the table just once

-- of no descriptors nothing is asked
pub once-none : (table : List Descriptor) → AreOnce [] table
once-none table count =
    let same : sum_by count (without_closed [] table) ≡ sum_by count table = ap (sum_by count) (nothing-closed table) in
    let none : sum_by count [] ≡ 0 = refl in
    omega arith

module _ (pid : ℕ) (es : List (ℕ × Process)) (rising : AreRising es) where
  once-one : (p : Process) → Some p ≡ lookup pid es → AreRising p.descriptors → (n : ℕ) (v : Named)
      → Some v ≡ lookup n p.descriptors → AreOnce (descriptor_there pid n (Some v)) (table_in es)
  once-one p found numbers n v there count =
      let less : Process = record p { descriptors = without n p.descriptors } in
      let gone : sum_by count (without_closed (one pid n) (table_in es)) ≡ sum_by count (table_in (put pid less es)) =
      ap (sum_by count) (closed-one pid n p less refl es rising (sym found)) in
      let stays = sum-put count pid p less es rising (sym found) in
      let own = sum-without count pid n v p.descriptors numbers (sym there) in
      let alone : sum_by count (descriptor_in pid (n, v) ∷ []) ≡ count (descriptor_in pid (n, v)) + 0 =
      sum_by-cons count (descriptor_in pid (n, v)) [] in
      omega arith

  pub once-number : (p : Process) → Some p ≡ lookup pid es → AreRising p.descriptors → (n : ℕ) (o : Option Named)
      → o ≡ lookup n p.descriptors → AreOnce (descriptor_there pid n o) (table_in es)
  once-number p found numbers n None absent = once-none (table_in es)
  once-number p found numbers n (Some v) there = once-one p found numbers n v there

  pub once-process : (p : Process) → Some p ≡ lookup pid es → AreOnce (descriptors_of pid (table_in es)) (table_in es)
  once-process p found count =
      let less : Process = record p { descriptors = [] } in
      let gone : sum_by count (table_in (put pid less es))
      ≡ sum_by count (without_closed (pairs_of (descriptors_of pid (table_in es))) (table_in es)) =
      ap (sum_by count) (exit_table pid es rising p less found refl) in
      let stays = sum-put count pid p less es rising (sym found) in
      let none : sum_by count (descriptors_in pid []) ≡ 0 = refl in
      let own : sum_by count (descriptors_in pid p.descriptors) ≡ sum_by count (descriptors_of pid (table_in es)) =
      ap (sum_by count) (exit_closed pid es rising p found) in
      omega arith

  pub none-of : None ≡ lookup pid es → [] ≡ descriptors_of pid (table_in es)
  none-of absent = sym (of-found pid es rising ∙ ap (λ o. descriptors_in pid (descriptors_at o)) (sym absent))

  pub once-nobody : None ≡ lookup pid es → AreOnce (descriptors_of pid (table_in es)) (table_in es)
  once-nobody absent = subst (λ ds. AreOnce ds (table_in es)) (none-of absent) (once-none (table_in es))
