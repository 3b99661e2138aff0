use Rattle.std.proofs.Common.{◌≡◌, ◌≤◌, take, vec_len, vec_capacity}
use Rattle.kq_table.specs.Births.{keys_born}
use Rattle.kq_table.specs.Threads.{rows_in}
use Rattle.kq_table.proofs.order.take_keys.Given as goal

abbrev pub invariant-loop-place : goal.invariant-loop-place
invariant-loop-place g l = record {
  keys : l.keys.items ≡ keys_born g.T.Keyed.key_of (rows_in l.nodes) (take l.place-index l.places);
  len : vec_len l.keys ≤ l.place-index;
  capacity : vec_capacity l.keys ≡ vec_capacity l.initial.keys;
}
