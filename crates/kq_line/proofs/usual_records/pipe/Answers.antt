use Rattle.std.proofs.Common.{refl, ap, ◌∙◌}
use Rattle.kq_model.specs.Reading.{event_of}
use Rattle.kq_line.proofs.RecordKinds.{known}
use Rattle.kq_line.proofs.UsualRecords.{pipe_is}
use Rattle.kq_line.proofs.usual_records.pipe.Goals as goal

pub returns : goal.returns
returns c = λ line op named up.
    let rfd_up = c.in_ok-rfd.ensures.value line _ up in
    let wfd_up = c.in_ok-wfd.ensures.value line _ rfd_up in
    let cap_up = c.in_ok-cap.ensures.value line _ wfd_up in
    ap event_of (c.in_ok-ends.ensures line _ cap_up) ∙ known _ op _ _ refl named (pipe_is op c.args.pid c.in_ok-rfd.rfd c.in_ok-wfd.wfd c.in_ok-cap.cap c.ranges.pid.fits c.in_ok-rfd.ensures.fits c.in_ok-wfd.ensures.fits c.in_ok-cap.ensures.fits)
