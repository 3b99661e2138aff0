use Rattle.std.proofs.Common.{◌≤◌, ◌+◌, drop, length}
use Rattle.kq_model.specs.Following.{all_forks}
use Rattle.kq_kevent.proofs.follow.children_in.Given as goal

abbrev pub invariant-loop-told : goal.invariant-loop-told
invariant-loop-told l = record {
  within : l.children ≤ l.told-index;
  most : length (all_forks l.hints) ≤ l.children + length (all_forks (drop l.told-index l.hints));
}
