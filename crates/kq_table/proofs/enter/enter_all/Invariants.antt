use Rattle.std.proofs.Common.{◌+◌, ◌≤◌}
use Rattle.std.specs.HashMap.{spare}
use Rattle.kq_table.specs.declared.node.Thread.TheVariants.{Order, Watch}
use Rattle.kq_table.specs.Kept.{names_room}
use Rattle.kq_table.specs.Threads.{links_in, rows_in, SameBut}
use Rattle.kq_table.proofs.AnewLaws.{IsEntering}
use Rattle.kq_table.proofs.enter.enter_all.Given as goal

abbrev pub invariant-loop-step : goal.invariant-loop-step
invariant-loop-step g l = record {
  entering : IsEntering g.T.Key.PartialEq.eq g.T.Target.PartialEq.eq g.T.Keyed.key_of g.T.Keyed.target_of (links_in Order l.initial.nodes) (rows_in l.initial.nodes) l.fn.first
      (links_in Watch l.nodes) l.index l.targets l.next l._step;
  same : SameBut Watch l.initial.nodes l.nodes;
  keys_room : names_room l.initial.index ≤ names_room l.index;
  keys_spare : spare l.initial.index ≤ spare l.index + l._step;
  targets_room : names_room l.initial.targets ≤ names_room l.targets;
  targets_spare : spare l.initial.targets ≤ spare l.targets + l._step;
}
