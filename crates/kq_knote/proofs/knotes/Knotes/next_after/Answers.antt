use Rattle.std.proofs.Common.{ap, ◌∙◌}
use Rattle.kq_model.specs.Knote.{key_eq}
use Rattle.kq_model.specs.Tallied.{Knote}
use Rattle.kq_table.specs.Rows.{row_after}
use Rattle.kq_knote.specs.Reserved.{Reserved}
use Rattle.kq_knote.proofs.RowLaws.{row_after-knotes}
use Rattle.kq_knote.proofs.knotes.Knotes.next_after.Goals as goal

pub returns : goal.returns
returns c =
    c.next_after.ensures ∙ row_after-knotes c.args.key c.self.inside.rows.rows
    ∙ ap (λ (v : Reserved). row_after key_eq (λ (k : Knote). k.key) c.args.key v.knotes) c.self.view_is
