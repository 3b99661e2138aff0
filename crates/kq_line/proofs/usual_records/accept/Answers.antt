use Rattle.std.proofs.Common.{refl, ap, ◌∙◌}
use Rattle.kq_model.specs.Reading.{event_of}
use Rattle.kq_line.proofs.RecordKinds.{known}
use Rattle.kq_line.proofs.UsualRecords.{accept_is}
use Rattle.kq_line.proofs.usual_records.accept.Goals as goal

pub returns : goal.returns
returns c = λ line op named up.
    let fd_up = c.in_ok-fd.ensures.value line _ up in
    let to_up = c.in_ok-to.ensures.value line _ fd_up in
    let rcv_up = c.in_ok-rcv.ensures.value line _ to_up in
    let snd_up = c.in_ok-snd.ensures.value line _ rcv_up in
    ap event_of (c.in_ok-ends.ensures line _ snd_up) ∙ known _ op _ _ refl named (accept_is op c.args.pid c.in_ok-fd.fd c.in_ok-to.to c.in_ok-rcv.rcv c.in_ok-snd.snd c.ranges.pid.fits c.in_ok-fd.ensures.fits c.in_ok-to.ensures.fits c.in_ok-rcv.ensures.fits c.in_ok-snd.ensures.fits)
