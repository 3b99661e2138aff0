use Rattle.kq_table.proofs.RoomLaws.{kept-none}
use Rattle.kq_table.proofs.table.Table.new.Goals as goal

pub invariant_of-result : goal.invariant_of-result
invariant_of-result g c =
    kept-none g.T.Key.PartialEq.eq g.T.Target.PartialEq.eq g.T.Keyed.key_of g.T.Keyed.target_of c.new.result c.new-2.result c.new-3.result c.new.ensures.empty c.new-2.ensures.empty c.new-3.ensures.empty
    c.none.result c.none-2.result c.none.ensures c.none-2.ensures
