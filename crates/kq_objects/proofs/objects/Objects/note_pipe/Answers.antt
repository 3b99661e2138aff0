use Rattle.std.proofs.Common.{sym, subst}
use Rattle.kq_model.specs.ObjectPlan.{ObjectPlan}
use Rattle.kq_objects.specs.Fits.{IsPipeNote}
use Rattle.kq_objects.specs.ByPlace.{object_at}
use Rattle.kq_objects.specs.Objects.{IsReady}
use Rattle.kq_objects.proofs.Ready.{ready-pipe}
use Rattle.kq_objects.proofs.objects.Objects.note_pipe.Goals as goal

pub returns-clause-ready : goal.returns-clause-ready
returns-clause-ready c =
    let note : IsPipeNote c.in_ok-told.told (object_at c.args.self.now.pipes c.args.place) = c.requires _ c.in_ok-told.was in
    let Ready : ObjectPlan → Type 0 = λ p. IsReady p.doings c.args.self.now in
    subst Ready (sym c.of_one.ensures) (ready-pipe c.args.self.now c.args.place c.in_ok-told.told note)
