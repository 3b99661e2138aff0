use Rattle.std.proofs.Common.{refl, ap, ◌∙◌}
use Rattle.kq_model.specs.Reading.{event_of}
use Rattle.kq_line.proofs.RecordKinds.{known}
use Rattle.kq_line.proofs.UsualRecords.{fork_is}
use Rattle.kq_line.proofs.usual_records.fork.Goals as goal

pub returns : goal.returns
returns c = λ line op named up.
    let child_up = c.in_ok-child.ensures.value line _ up in
    ap event_of (c.in_ok-ends.ensures line _ child_up) ∙ known _ op _ _ refl named (fork_is op c.args.pid c.in_ok-child.child c.ranges.pid.fits c.in_ok-child.ensures.fits)
