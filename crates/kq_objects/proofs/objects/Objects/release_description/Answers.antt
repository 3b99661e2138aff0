use Rattle.std.proofs.Common.{◌∙◌, sym}
use Rattle.kq_objects.specs.Objects.{objects_of}
use Rattle.kq_objects.proofs.Releasing.{release-last}
use Rattle.kq_objects.proofs.objects.Objects.release_description.Goals as goal

pub returns-then-may_write-clause-done : goal.returns-then-may_write-clause-done
returns-then-may_write-clause-done c = λ number.
    release-last (objects_of c.args.self.now) c.args.place c.file-number.result number c.in_ok-description.field-0.now
    (objects_of c.note.new.self) (objects_of c.leave.new.self)
    c.in_ok-description.ensures (sym c.is_last.ensures ∙ c.if-not-is_last.false) c.file-number.ensures c.note.ensures.done c.leave.ensures

pub returns-else-may_write-clause-done : goal.returns-else-may_write-clause-done
returns-else-may_write-clause-done c = λ number.
    release-last (objects_of c.args.self.now) c.args.place c.file-number.result number c.in_ok-description.field-0.now
    (objects_of c.note.new.self) (objects_of c.leave.new.self)
    c.in_ok-description.ensures (sym c.is_last.ensures ∙ c.if-not-is_last.false) c.file-number.ensures c.note.ensures.done c.leave.ensures
