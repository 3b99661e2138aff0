-- One outcome for each kqueue, by number, is the rows of all of them.
use Rattle.std.proofs.Common.{◌≡◌, ℕ, suc, List, [], ◌∷◌, length, map, slice_get, slice_index, Some, refl, sym, ap₂, subst, arith}
use Rattle.kq_model.specs.declared.rows.Rows.{Rows}
use Rattle.kq_projection.specs.Traced.{Traced, places_of}
use Rattle.kq_jobs.specs.Outcomes.{AreOutcomes}
use Rattle.kq_projection.specs.Replayed.{AreReplayed, IsReplayed, rows_in_fold}
use Rattle.kq_projection.proofs.Rejoined.{all-replayed}

by-number : (f : ℕ → Rows) (ps : List ℕ) (rs : List Rows) → length rs ≡ length ps
    → ((i : ℕ) (r : Rows) → slice_get rs i ≡ Some r → r ≡ f (slice_index ps i)) → rs ≡ map f ps
by-number f [] [] count each = refl
by-number f [] (r ∷ rs) count each = absurd (omega (arith, count))
by-number f (p ∷ ps) [] count each = absurd (omega (arith, count))
by-number f (p ∷ ps) (r ∷ rs) count each =
    ap₂ (λ x xs. x ∷ xs) (each 0 r refl) (by-number f ps rs (omega (arith, count)) (λ i x found. each (suc i) x found))

pub collected : (t : Traced) (rs : List Rows)
    → AreOutcomes (λ n rows. IsReplayed t (slice_index (places_of t) n) rows) (length (places_of t)) rs → AreReplayed t rs
collected t rs are =
    subst (AreReplayed t) (sym (by-number (rows_in_fold t) (places_of t) rs are.count (λ i r found. (are.each i r found).same)))
    (all-replayed t)
