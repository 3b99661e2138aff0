use Rattle.std.proofs.Common.{◌≡◌, ◌≤◌, take, vec_len, vec_capacity}
use Rattle.kq_table.specs.Births.{AreBirthsOf}
use Rattle.kq_table.specs.Threads.{births_in, rows_in}
use Rattle.kq_table.proofs.order.births_of.Given as goal

abbrev pub invariant-loop-key : goal.invariant-loop-key
invariant-loop-key g l = record {
  births : AreBirthsOf g.T.Key.PartialEq.eq g.T.Keyed.key_of (rows_in l.nodes) (births_in l.nodes) (take l.key-index l.keys) l.places.items;
  len : vec_len l.places ≤ l.key-index;
  capacity : vec_capacity l.places ≡ vec_capacity l.initial.places;
}
