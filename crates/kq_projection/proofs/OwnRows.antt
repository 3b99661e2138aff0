-- A kqueue that goes on over its private list gives exactly its rows of the fold of the whole system.
use Rattle.std.proofs.Common.{◌≡◌, ℕ, List, [], Some, sym, ap, ◌∙◌}
use Rattle.std.proofs.lemmas.List.Elements.{All-contains}
use Rattle.std.specs.List.{Contains, flat_map}
use Rattle.kq_model.specs.declared.row.Row.{Row}
use Rattle.kq_model.specs.Births.{Birth}
use Rattle.kq_model.specs.Tallying.{tallying}
use Rattle.kq_model.specs.Items.{items_of}
use Rattle.kq_model.specs.Kqueue.{empty_kqueue}
use Rattle.kq_model.specs.Objects.{listed}
use Rattle.kq_model.specs.OwnedRows.{rows_of}
use Rattle.kq_model.specs.PrivateList.{Concern, private_by}
use Rattle.kq_model.specs.Projection.{folded, replayed}
use Rattle.kq_model.specs.References.{Names, forks_at, names_in, references}
use Rattle.kq_model.specs.Replayed.{rows_alone}
use Rattle.kq_model.specs.Tallied.{Kqueue}
use Rattle.kq_model.proofs.Projection.{projected}
use Rattle.kq_projection.specs.Concerned.{private_items}
use Rattle.kq_projection.specs.Items.{bare_items}
use Rattle.kq_projection.specs.Traced.{Traced, births_of, moments_of, seen_at}
use Rattle.kq_projection.specs.LoneKqueue.{after_items, unborn}
use Rattle.kq_projection.specs.Replayed.{rows_in_fold}
use Rattle.kq_projection.proofs.AtOnePlace.{hear-none}
use Rattle.kq_projection.proofs.ItemByItem.{item-by-item}
use Rattle.kq_projection.proofs.ListedFold.{folded-tallied}
use Rattle.kq_projection.proofs.OwnConcerns.{all-own}

module _ (t : Traced) where
  abbrev rows_from : ℕ → ℕ → List Concern → List Row
  rows_from place owner cs = rows_alone {h = tallying} t.version place owner (seen_at t) (empty_kqueue {h = tallying}) cs

  alone-replayed : (place owner : ℕ) (ns : Names)
      → (after_items (bare_items (flat_map items_of (private_by place owner ns (moments_of t)))) (unborn t owner)).rows
      ≡ rows_from place owner (private_by place owner ns (moments_of t))
  alone-replayed place owner ns =
      item-by-item t place owner (private_by place owner ns (moments_of t)) 0 [] (empty_kqueue {h = tallying}) [] (all-own t place owner ns)
      ∙ ap (λ (k : Kqueue). rows_alone {h = tallying} t.version place owner (seen_at t) k (private_by place owner ns (moments_of t)))
      (hear-none t 0 (empty_kqueue {h = tallying}))

  pub own-rows : (b : Birth) → Contains (births_of t) b
      → (after_items (private_items b.place b.owner (moments_of t)) (unborn t b.owner)).rows ≡ (rows_in_fold t b.place).rows
  own-rows b born =
      alone-replayed b.place b.owner (names_in (forks_at (moments_of t)) (references b.place b.owner (moments_of t)))
      ∙ All-contains (λ (x : Birth). replayed listed t.version tallying t.events x ≡ rows_of (Some x.place) (folded listed t.version tallying t.events)) (births_of t) b
      (projected tallying listed t.version t.events) born
      ∙ ap (rows_of (Some b.place)) (sym (folded-tallied t.version t.events))
