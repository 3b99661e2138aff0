use Rattle.std.proofs.Common.{◌≡◌, take, slice_get}
use Rattle.kq_model.specs.contracts.object.TargetPartialEq.TheImpl as target_equal
use Rattle.kq_model.specs.Subjects.{HaveSubjects}
use Rattle.kq_system.specs.Places.{Grows}
use Rattle.kq_system.specs.Showing.{IsListed}
use Rattle.kq_system.proofs.renewing.watch_knotes.Given as goal

abbrev pub invariant-loop-step : goal.invariant-loop-step
invariant-loop-step l = record {
  next : l.next ≡ slice_get l.knotes.knotes l._step;
  grows : Grows target_equal.eq-value.it l.fn.watching.table l.watching.table;
  listed : HaveSubjects (IsListed l.place l.watching.table) (take l._step l.knotes.knotes);
}
