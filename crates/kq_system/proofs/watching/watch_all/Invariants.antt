use Rattle.std.proofs.Common.{◌≡◌, true, take}
use Rattle.std.specs.Prelude.{All}
use Rattle.kq_model.specs.contracts.object.TargetPartialEq.TheImpl as target_equal
use Rattle.kq_model.specs.declared.change.Change.{Change}
use Rattle.kq_model.specs.Bits.{add, asks}
use Rattle.kq_model.specs.Targets.{target_of}
use Rattle.kq_system.specs.Places.{Grows}
use Rattle.kq_system.specs.Showing.{IsListed}
use Rattle.kq_system.proofs.watching.watch_all.Given as goal

abbrev pub invariant-loop-change : goal.invariant-loop-change
invariant-loop-change g l = record {
  grows : Grows target_equal.eq-value.it l.fn.watching.table l.watching.table;
  listed : All (λ (c : Change). asks c.flags add ≡ true → IsListed l.place l.watching.table c.filter c.ident
      (target_of (g.V.Views.sees l.views) l.owner c.filter c.ident)) (take l.change-index l.changes);
}
