use Rattle.std.proofs.Common.{◌≡◌, [], Some, slice_get, subst}
use Rattle.std.specs.Option.{option_copied, MatchOption}
use Rattle.kq_model.specs.Knote.{find_knote}
use Rattle.kq_model.specs.Tallied.{Knote}
use Rattle.kq_knote.specs.Reserved.{Reserved}
use Rattle.kq_knote.proofs.RowLaws.{front-knote}
use Rattle.kq_knote.proofs.knotes.Knotes.look_front.Goals as goal

pub returns : goal.returns
returns c =
    subst (λ (v : Reserved). MatchOption (option_copied c.look_front.result) (v.queue ≡ [])
    (λ (knote : Knote). (slice_get v.queue 0 ≡ Some knote.key) × (find_knote knote.key v.knotes ≡ Some knote))) c.self.view_is
    (front-knote (option_copied c.look_front.result) c.self.inside.rows.queue c.self.inside.rows.rows c.look_front.ensures)
