use Rattle.std.proofs.Common.{◌≡◌, drop}
use Rattle.kq_model.specs.Objects.{all_done}
use Rattle.kq_objects.specs.Objects.{objects_of, IsReady}
use Rattle.kq_objects.proofs.objects.Objects.note_all.Given as goal

abbrev pub invariant-loop-doing : goal.invariant-loop-doing
invariant-loop-doing l = record {
  rest : all_done (drop l.doing-index l.doings) (objects_of l.self) ≡ all_done l.doings (objects_of l.initial.self);
  ready : IsReady (drop l.doing-index l.doings) l.self;
}
