use Rattle.kq_table.proofs.NodeLaws.{SameButBirths-refl}
use Rattle.kq_table.proofs.birth.next_birth.Goals.{then-births-eq18446744073709551615, else-births-eq18446744073709551615}
use Rattle.kq_table.proofs.birth.next_birth.Goals as goal

pub returns-clause-same : goal.returns-clause-same
returns-clause-same g c =
    elim c.if-births-eq18446744073709551615.branch [
      | then-births-eq18446744073709551615 w ↦ rw w.nodes-is w.number_anew.ensures.same
      | else-births-eq18446744073709551615 w ↦ rw w.nodes-is (SameButBirths-refl c.args.nodes.now)
    ]
