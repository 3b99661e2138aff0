-- The first piece makes them, and so do all.
use Rattle.std.proofs.Common.{Vec, Global, ◌≡◌, ◌∙◌, ◌≤◌, ℕ, List, Some, length, ap, rules, subst}
use Rattle.std.proofs.lemmas.Result.{IfOk-weaker}
use Rattle.std.specs.Prelude.{slice_get}
use Rattle.kq_model.specs.declared.event.Event.{Event}
use Rattle.kq_model.specs.Objects.{counted}
use Rattle.kq_model.specs.World.{empty_world}
use Rattle.kq_shares.specs.Births.{births_after}
use Rattle.kq_run.proofs.SharedLemmas.{two-first}
use Rattle.kq_run.proofs.sharing.first_births.Goals as goal

pub returns-in-Some : goal.returns-in-Some
returns-in-Some c =
    let first : slice_get c.args.pieces.now 0 ≡ Some c.in-Some.piece.now = search rules in
    IfOk-weaker c.births_in.result _ _ (λ births is version two.
    two-first version c.args.pieces.now c.in-Some.piece.now first
    (subst (λ (xs : List ℕ). 2 ≤ length xs) (is ∙ ap (births_after 1 (empty_world counted)) c.as_slice.ensures.value) two))
    c.births_in.ensures
