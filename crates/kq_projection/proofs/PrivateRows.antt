-- A private list as the code has it: its items are recorded, and what goes on over them gives the kqueue's rows.
use Rattle.std.proofs.Common.{◌≡◌, ℕ, List, Some, sym, ap, subst, ◌∙◌}
use Rattle.std.specs.List.{All}
use Rattle.kq_model.specs.declared.row.Row.{Row}
use Rattle.kq_model.specs.declared.rows.Rows.{Rows}
use Rattle.kq_model.specs.Hearing.{listed}
use Rattle.kq_model.specs.Objects as objects
use Rattle.kq_model.specs.OwnedRows.{Rise}
use Rattle.kq_model.specs.Projection.{folded, plans}
use Rattle.kq_model.specs.References.{forks_at, names_in, references}
use Rattle.kq_model.specs.System.{empty_system}
use Rattle.kq_model.proofs.FoldRows.{fold-rises, part-rises}
use Rattle.kq_projection.specs.declared.history.item.Item.{Item}
use Rattle.kq_projection.specs.Concerned.{private_items}
use Rattle.kq_projection.specs.Private.{IsPrivate}
use Rattle.kq_projection.specs.Traced.{Traced, moments_of}
use Rattle.kq_projection.proofs.PrivateOf.{owner-born}
use Rattle.kq_projection.specs.LoneKqueue.{after_items, unborn}
use Rattle.kq_projection.specs.Recorded.{IsRecorded}
use Rattle.kq_projection.specs.Replayed.{IsReplayed, rows_in_fold}
use Rattle.kq_projection.proofs.OwnRows.{own-rows}
use Rattle.kq_projection.proofs.Recorded.{items-recorded}

-- the rows of any one kqueue in the fold stand by rising place
pub fold-part-rises : (t : Traced) (kqueue : ℕ) → Rise (rows_in_fold t kqueue).rows
fold-part-rises t kqueue =
    part-rises (Some kqueue) (folded objects.listed t.version listed t.events)
    (fold-rises 1 (empty_system {h = listed} {k = objects.listed} t.version) (plans objects.listed t.version t.events)).1

module _ (t : Traced) (kqueue owner : ℕ) (items : List Item) (own : IsPrivate t kqueue owner items) where
  pub private-recorded : All (IsRecorded t) items
  private-recorded =
      subst (All (IsRecorded t)) (sym own.items_are)
      (items-recorded t kqueue owner (names_in (forks_at (moments_of t)) (references kqueue owner (moments_of t))))

  private-rows : (after_items items (unborn t owner)).rows ≡ (rows_in_fold t kqueue).rows
  private-rows =
      let born = owner-born t kqueue owner items own in
      ap (λ is. (after_items is (unborn t owner)).rows) own.items_are
      ∙ subst (λ o. (after_items (private_items kqueue o (moments_of t)) (unborn t o)).rows ≡ (rows_in_fold t kqueue).rows) born.3
      (subst (λ p. (after_items (private_items p born.0.owner (moments_of t)) (unborn t born.0.owner)).rows ≡ (rows_in_fold t p).rows) born.2
      (own-rows t born.0 born.1))

  pub private-replayed : (rows : List Row) → rows ≡ (after_items items (unborn t owner)).rows
      → IsReplayed t kqueue (record { kqueue = kqueue; rows = rows })
  private-replayed rows are =
      let same = are ∙ private-rows in
      record {
        same = ap (λ rs. let one : Rows = record { kqueue = kqueue; rows = rs } in one) same;
        rise = subst Rise (sym same) (fold-part-rises t kqueue);
      }
