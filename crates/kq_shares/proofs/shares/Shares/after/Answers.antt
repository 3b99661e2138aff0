use Rattle.std.proofs.Common.{◌∙◌, ◌+◌, ◌++◌, [], List, map, length, ap, sym, subst}
use Rattle.kq_model.specs.declared.row.Row.{Row}
use Rattle.kq_model.specs.OwnedRows.{Rise}
use Rattle.kq_model.specs.System.{rows_after, system_after}
use Rattle.std.specs.List.Sorted.{IsPermutation}
use Rattle.kq_system.specs.Sharing.{ShareState}
use Rattle.kq_shares.specs.Going.{events_in}
use Rattle.kq_shares.specs.Whole.{AreSharesOf}
use Rattle.kq_shares.proofs.WholeLemmas.{gone-rows, gone-shares, have-places, lists-of, value, values-of}
use Rattle.kq_shares.proofs.shares.Shares.after.Goals as goal

pub go_all-requires : goal.go_all-requires
go_all-requires g c =
    let (applied, s, are, few) = c.requires in
    have-places 0 are.dealing applied (length (events_in c.args.pieces.now)) s c.args.self.shares.items are.are few

pub returns-clause-shares : goal.returns-clause-shares
returns-clause-shares g c applied s are =
    let es = events_in c.args.pieces.now in
    let gs = c.in_ok-all.all.gone.items in
    subst (λ (xs : List ShareState). AreSharesOf (applied + length es) (system_after (applied + 1) s es) xs)
    (sym (ap (map value) c.in_ok-parted.ensures.shares ∙ values-of gs))
    (gone-shares applied s es (map value c.args.self.shares.items) gs are c.in_ok-all.ensures.gone)

pub returns-clause-rows : goal.returns-clause-rows
returns-clause-rows g c applied s are =
    let es = events_in c.args.pieces.now in
    let gs = c.in_ok-all.all.gone.items in
    let (same, rise) = gone-rows applied s es (map value c.args.self.shares.items) gs are c.in_ok-all.ensures.gone in (
      subst (λ (all : List Row). IsPermutation all (rows_after (applied + 1) s es))
          (sym (lists-of c.in_ok-parted.field-0.lists.items gs c.in_ok-parted.ensures.rows)) same,
      rise,
    )
