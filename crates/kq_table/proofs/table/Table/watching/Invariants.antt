use Rattle.std.proofs.Common.{◌≡◌, ◌-◌, vec_len}
use Rattle.std.specs.Vec.{vec_capacity}
use Rattle.std.specs.HashMap.{get as found}
use Rattle.kq_table.specs.declared.node.Thread.TheVariants.{Watch}
use Rattle.kq_table.specs.Kept.{ends_of}
use Rattle.kq_table.specs.Threads.{links_in, rows_in}
use Rattle.kq_table.proofs.AlongLaws.{IsAlong}
use Rattle.kq_table.proofs.table.Table.watching.Given as goal

abbrev pub invariant-loop-next : goal.invariant-loop-next
invariant-loop-next g l = record {
  along : IsAlong g.T.Keyed.key_of (rows_in l.self-inside.nodes) (links_in Watch l.self-inside.nodes) (ends_of (found g.T.Target.PartialEq.eq l.self-inside.targets l.fn.target))
      l.initial.found.items l.found.items l.next;
  capacity : vec_capacity l.found ≡ vec_capacity l.initial.found;
}

abbrev pub decreases-loop-next : goal.decreases-loop-next
decreases-loop-next g l = vec_capacity l.initial.found - vec_len l.found
