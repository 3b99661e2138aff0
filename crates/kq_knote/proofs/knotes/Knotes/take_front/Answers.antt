use Rattle.std.proofs.Common.{◌≡◌, ◌∷◌, [], Some, subst}
use Rattle.std.specs.Option.{MatchOption}
use Rattle.kq_model.specs.Knote.{find_knote}
use Rattle.kq_model.specs.Tallied.{Knote}
use Rattle.kq_table.specs.declared.placed.Placed.{Placed}
use Rattle.kq_knote.specs.Reserved.{Reserved}
use Rattle.kq_knote.proofs.RowLaws.{taken-knote}
use Rattle.kq_knote.proofs.knotes.Knotes.take_front.Goals as goal

pub returns-clause-queue : goal.returns-clause-queue
returns-clause-queue c =
    let after = c.take_front.new.self.queue in
    subst (λ (v : Reserved). MatchOption c.take_front.result ((v.queue ≡ []) × (after ≡ []))
    (λ (p : Placed Knote). (v.queue ≡ p.row.key ∷ after) × (find_knote p.row.key v.knotes ≡ Some p.row))) c.self.view_is
    (taken-knote c.take_front.result c.self.inside.rows.queue after c.self.inside.rows.rows c.take_front.ensures.queue)
