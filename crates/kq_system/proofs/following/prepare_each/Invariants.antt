use Rattle.std.proofs.Common.{take}
use Rattle.kq_model.specs.contracts.object.TargetPartialEq.TheImpl as target_equal
use Rattle.kq_system.specs.Forking.{ArePrepared, AreRoomier}
use Rattle.kq_system.specs.Places.{Grows}
use Rattle.kq_system.proofs.following.prepare_each.Given as goal

abbrev pub invariant-loop-place : goal.invariant-loop-place
invariant-loop-place l = record {
  grows : Grows target_equal.eq-value.it l.fn.watching.table l.watching.table;
  roomier : AreRoomier l.fn.live.entries l.live.entries;
  prepared : ArePrepared l.pid l.child l.watching.table (take l.place-index l.places) l.live.entries;
}
