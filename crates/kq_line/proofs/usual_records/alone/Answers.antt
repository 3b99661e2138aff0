use Rattle.std.proofs.Common.{refl, ap, ◌∙◌, Some}
use Rattle.kq_model.specs.Reading.{event_of}
use Rattle.kq_line.proofs.RecordKinds.{known}
use Rattle.kq_line.proofs.UsualRecords.{exec_is, proc_is}
use Rattle.kq_line.proofs.usual_records.alone.Goals as goal

pub returns-in-Proc : goal.returns-in-Proc
returns-in-Proc c = λ line op named up.
    ap event_of (c.in_ok-ends.ensures line _ up) ∙ known _ op _ _ refl (named ∙ ap Some c.in-Proc.is) (proc_is op c.args.pid c.ranges.pid.fits)

pub returns-in-Exec : goal.returns-in-Exec
returns-in-Exec c = λ line op named up.
    ap event_of (c.in_ok-ends.ensures line _ up) ∙ known _ op _ _ refl (named ∙ ap Some c.in-Exec.is) (exec_is op c.args.pid c.ranges.pid.fits)
