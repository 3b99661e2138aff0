use Rattle.std.proofs.Common.{refl, ap, ◌∙◌}
use Rattle.kq_model.specs.Reading.{event_of}
use Rattle.kq_line.proofs.RecordKinds.{known}
use Rattle.kq_line.proofs.UsualRecords.{dup_is}
use Rattle.kq_line.proofs.usual_records.dup.Goals as goal

pub returns : goal.returns
returns c = λ line op named up.
    let fd_up = c.in_ok-fd.ensures.value line _ up in
    let to_up = c.in_ok-to.ensures.value line _ fd_up in
    ap event_of (c.in_ok-ends.ensures line _ to_up) ∙ known _ op _ _ refl named (dup_is op c.args.pid c.in_ok-fd.fd c.in_ok-to.to c.ranges.pid.fits c.in_ok-fd.ensures.fits c.in_ok-to.ensures.fits)
