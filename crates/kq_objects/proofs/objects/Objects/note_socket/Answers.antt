use Rattle.std.proofs.Common.{sym, subst}
use Rattle.kq_model.specs.ObjectPlan.{ObjectPlan}
use Rattle.kq_objects.specs.Fits.{IsNote}
use Rattle.kq_objects.specs.ByPlace.{object_at}
use Rattle.kq_objects.specs.Objects.{objects_of, AreSocketNotes, IsReady}
use Rattle.kq_objects.proofs.Ready.{ready-socket}
use Rattle.kq_objects.proofs.objects.Objects.note_socket.Goals as goal

pub returns-clause-ready : goal.returns-clause-ready
returns-clause-ready c =
    let note : IsNote c.in_ok-told.told (object_at c.args.self.now.sockets c.args.place) = c.requires _ c.in_ok-told.was in
    let Ready : ObjectPlan → Type 0 = λ p. IsReady p.doings c.args.self.now in
    subst Ready (sym c.of_one.ensures) (ready-socket c.args.self.now c.args.place c.in_ok-told.told note)

pub returns-clause-notes : goal.returns-clause-notes
returns-clause-notes c =
    let note : IsNote c.in_ok-told.told (object_at c.args.self.now.sockets c.args.place) = c.requires _ c.in_ok-told.was in
    let Notes : ObjectPlan → Type 0 = λ p. AreSocketNotes p.doings (objects_of c.args.self.now) in
    subst Notes (sym c.of_one.ensures) note
