-- The rows of all kqueues, with those of impossible records, are all rows of the trace, and all of these rise.
use Rattle.std.proofs.Common.{◌≡◌, ℕ, List, [], ◌∷◌, ◌++◌, map, refl, ap₂, subst}
use Rattle.std.proofs.lemmas.List.Elements.{All-nil, All-cons, All-head, All-tail}
use Rattle.std.specs.List.{All, flat_map}
use Rattle.std.specs.List.Sorted.{IsPermutation}
use Rattle.kq_model.specs.declared.row.Row.{Row}
use Rattle.kq_model.specs.declared.rows.Rows.{Rows}
use Rattle.kq_model.specs.Births.{Birth}
use Rattle.kq_model.specs.Hearing.{listed}
use Rattle.kq_model.specs.Objects as objects
use Rattle.kq_model.specs.OwnedRows.{Rise}
use Rattle.kq_model.specs.Projection.{replayed}
use Rattle.kq_model.specs.System.{rows, rows_by}
use Rattle.kq_model.proofs.Projection.{merged, projected, rising}
use Rattle.kq_projection.specs.Traced.{Traced, births_of, places_of, plain_rows_of}
use Rattle.kq_projection.specs.Replayed.{AreReplayed, rows_in_fold}
use Rattle.kq_projection.proofs.PrivateRows.{fold-part-rises}

module _ (t : Traced) where
  abbrev alone : Birth → List Row
  alone b = replayed objects.listed t.version listed t.events b

  abbrev AreAlone : List Birth → Type 0
  AreAlone bs = All (λ (b : Birth). alone b ≡ (rows_in_fold t b.place).rows) bs

  abbrev those_of : List Birth → List Rows
  those_of bs = map (rows_in_fold t) (map (λ (b : Birth). b.place) bs)

  flat-rows : (bs : List Birth) → AreAlone bs → flat_map alone bs ≡ flat_map (λ (one : Rows). one.rows) (those_of bs)
  flat-rows [] all = refl
  flat-rows (b ∷ bs) all =
      ap₂ (λ xs ys. xs ++ ys) (All-head (λ (x : Birth). alone x ≡ (rows_in_fold t x.place).rows) b bs all)
      (flat-rows bs (All-tail (λ (x : Birth). alone x ≡ (rows_in_fold t x.place).rows) b bs all))

  each-rises : (ps : List ℕ) → All (λ (one : Rows). Rise one.rows) (map (rows_in_fold t) ps)
  each-rises [] = All-nil (λ (one : Rows). Rise one.rows)
  each-rises (p ∷ ps) =
      All-cons (λ (one : Rows). Rise one.rows) (rows_in_fold t p) (map (rows_in_fold t) ps) (fold-part-rises t p) (each-rises ps)

  alone-in-fold : AreAlone (births_of t)
  alone-in-fold = projected listed objects.listed t.version t.events

  all-rows : rows_by listed objects.listed t.version t.events ≡ rows t.version t.events
  unfolding rows
  all-rows = refl

  pub all-replayed : AreReplayed t (map (rows_in_fold t) (places_of t))
  all-replayed =
      let whole = merged listed objects.listed t.version t.events in
      record {
        each = refl;
        rise = each-rises (places_of t);
        plain = (rising listed objects.listed t.version t.events).1;
        whole =
            subst (IsPermutation (flat_map (λ (one : Rows). one.rows) (those_of (births_of t)) ++ plain_rows_of t)) all-rows
            (subst (λ rs. IsPermutation (rs ++ plain_rows_of t) (rows_by listed objects.listed t.version t.events)) (flat-rows (births_of t) alone-in-fold) whole.0);
        ordered = subst Rise all-rows whole.1;
      }
