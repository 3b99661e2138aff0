-- Projection: each kqueue of a trace, replayed alone from its private list and the history at its places, gives
-- exactly its rows of the fold of the whole system; and these with the rows of impossible records are all rows,
-- each once.
use Rattle.std.proofs.Common.{◌≡◌, ℕ, List, [], ◌∷◌, ◌++◌, Some, None, refl, sym, ap₂, subst, ◌∙◌}
use Rattle.std.proofs.lemmas.List.Elements.{All-nil, All-head, All-tail, All-weaker}
use Rattle.std.proofs.lemmas.List.Folds.{flat_map-map}
use Rattle.std.specs.List.{All, flat_map}
use Rattle.std.specs.List.Sorted.{IsPermutation}
use Rattle.kq_model.specs.declared.event.Event.{Event}
use Rattle.kq_model.specs.declared.row.Row.{Row}
use Rattle.kq_model.specs.Births.{Birth, births_from}
use Rattle.kq_model.specs.Hearing.{Hearing}
use Rattle.kq_model.specs.Kqueue.{empty_kqueue}
use Rattle.kq_model.specs.LiveCalls.{CallLive}
use Rattle.kq_model.specs.Moment.{Moment}
use Rattle.kq_model.specs.Moments.{moments_from, views_at}
use Rattle.kq_model.specs.Objects.{Keeping}
use Rattle.kq_model.specs.OwnedRows.{OwnedRow, owned_rows, rows_of, all_rows, plain_from, Rise}
use Rattle.kq_model.specs.PrivateList.{private_list}
use Rattle.kq_model.specs.Projection.{plans, kqueues, plain_rows, replayed, folded, AreProjected, AreMerged, AreRising}
use Rattle.kq_model.specs.Replayed.{rows_alone, rows_over}
use Rattle.kq_model.specs.References.{forks_at}
use Rattle.kq_model.specs.System.{System, empty_system, rows_by}
use Rattle.kq_model.specs.World.{empty_world, Planned}
use Rattle.kq_model.proofs.BornFirst.{born-first}
use Rattle.kq_model.proofs.Descended.{AreBornFirst}
use Rattle.kq_model.proofs.Distinct.{places_of, births-rising, one-owner, each-of}
use Rattle.kq_model.proofs.FoldAlone.{fold-alone}
use Rattle.kq_model.proofs.FoldRows.{part-rises, fold-rises, fold-rows, fold-plain, fold-of}
use Rattle.kq_model.proofs.HistoryViews.{IsAt, moments-at}
use Rattle.kq_model.proofs.LiveKqueues.{empty-live}
use Rattle.kq_model.proofs.MergedRows.{rows-split}
use Rattle.kq_model.proofs.PlannedCalls.{calls-live}
use Rattle.kq_model.proofs.PrivateReplay.{alone-all}

flat-alike : {X Y : Type 0} (f g : X → List Y) (xs : List X) → All (λ x. f x ≡ g x) xs → flat_map f xs ≡ flat_map g xs
flat-alike f g [] alike = refl
flat-alike f g (x ∷ xs) alike =
    ap₂ (λ ys zs. ys ++ zs) (All-head (λ x. f x ≡ g x) x xs alike) (flat-alike f g xs (All-tail (λ x. f x ≡ g x) x xs alike))

-- ---- for the plans of any trace whose calls are on live kqueues

module _ {S A B C D : Type 0} (h : Hearing S) (k : Keeping A B C D) (version : ℕ) (qs : List Planned)
    (forked : AreBornFirst (forks_at (moments_from version 1 (empty_world k) qs))) where
  abbrev start : System h k
  start = empty_system {h = h} {k = k} version

  abbrev owned : List OwnedRow
  owned = owned_rows 1 start qs

  abbrev all_moments : List Moment
  all_moments = moments_from version 1 (empty_world k) qs

  abbrev births : List Birth
  births = births_from 1 qs

  abbrev alone : Birth → List Row
  alone b = rows_alone version b.place b.owner (views_at 1 (empty_world k) qs) (empty_kqueue {h = h}) (private_list b.place b.owner all_moments)

  alone-over : (b : Birth) → alone b ≡ rows_over b.place b.owner (empty_kqueue {h = h}) all_moments
  alone-over b =
      alone-all h b.place b.owner version (views_at 1 (empty_world k) qs) all_moments
      (All-weaker (IsAt version 1 (empty_world k) qs) (λ (m : Moment). (m.version ≡ version) × (m.views ≡ views_at 1 (empty_world k) qs m.place)) (λ m is. (is.1, is.2)) all_moments
      (moments-at version 1 (empty_world k) qs)) forked

  alone-fold : CallLive 1 start qs → (b : Birth) → All (λ (x : Birth). x.place ≡ b.place → x.owner ≡ b.owner) births → alone b ≡ rows_of (Some b.place) owned
  alone-fold calls b one =
      alone-over b
      ∙ sym (fold-alone h b.place b.owner 1 start qs (empty_kqueue {h = h}) calls (All-nil _) (All-nil _) (λ _. refl) one)

  pub plans-projected : CallLive 1 start qs → All (λ b. alone b ≡ rows_of (Some b.place) owned) births
  plans-projected calls =
      All-weaker (λ (b : Birth). All (λ (x : Birth). x.place ≡ b.place → x.owner ≡ b.owner) births) (λ b. alone b ≡ rows_of (Some b.place) owned)
      (λ b one. alone-fold calls b one) births (one-owner births (births-rising 1 qs).1)

  pub plans-merged : CallLive 1 start qs → IsPermutation (flat_map alone births ++ plain_from 1 qs) (all_rows owned)
  plans-merged calls =
      subst (λ rows. IsPermutation rows (all_rows owned))
      (ap₂ (λ xs ys. xs ++ ys)
      (flat_map-map (λ p. rows_of (Some p) owned) (λ (b : Birth). b.place) births
      ∙ sym (flat-alike alone (λ (b : Birth). rows_of (Some b.place) owned) births (plans-projected calls)))
      (fold-plain 1 start qs))
      (rows-split (places_of births) owned (births-rising 1 qs).1
      (fold-of (places_of births) 1 start qs calls (All-nil _) (each-of births)))

-- ---- for every trace

module _ {S A B C D : Type 0} (h : Hearing S) (k : Keeping A B C D) (version : ℕ) (es : List Event) where
  calls : CallLive 1 (empty_system {h = h} {k = k} version) (plans k version es)
  calls = calls-live 1 (empty_system {h = h} {k = k} version) es (empty-live h k version)

  -- each kqueue alone
  pub projected : AreProjected k version h es
  projected = plans-projected h k version (plans k version es) (born-first k version es) calls

  all-rows : rows_by h k version es ≡ all_rows (folded k version h es)
  unfolding rows_by
  all-rows = fold-rows 1 (empty_system {h = h} {k = k} version) es

  -- all of them, with the plain rows
  pub merged : AreMerged k version h es
  merged = (
    subst (IsPermutation (flat_map (replayed k version h es) (kqueues k version es) ++ plain_rows k version es)) (sym all-rows)
        (plans-merged h k version (plans k version es) (born-first k version es) calls),
    subst Rise (sym all-rows) (fold-rises 1 (empty_system {h = h} {k = k} version) (plans k version es)).1,
  )

  whole-rises : Rise (all_rows (folded k version h es))
  whole-rises = (fold-rises 1 (empty_system {h = h} {k = k} version) (plans k version es)).1

  -- as a merge by place wants them
  pub rising : AreRising k version h es
  rising = (
    All-weaker (λ (b : Birth). replayed k version h es b ≡ rows_of (Some b.place) (folded k version h es)) (λ b. Rise (replayed k version h es b))
        (λ b same. subst Rise (sym same) (part-rises (Some b.place) (folded k version h es) whole-rises)) (kqueues k version es) projected,
    subst Rise (fold-plain 1 (empty_system {h = h} {k = k} version) (plans k version es)) (part-rises None (folded k version h es) whole-rises),
  )
