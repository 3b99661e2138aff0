use Rattle.std.proofs.Common.{refl, ap, ◌∙◌, Some}
use Rattle.kq_model.specs.Reading.{event_of}
use Rattle.kq_line.proofs.RecordKinds.{known}
use Rattle.kq_line.proofs.UsualRecords.{arrive_is, close_is, connect_is, kqueue_is}
use Rattle.kq_line.proofs.usual_records.of_place.Goals as goal

pub returns-in-Close : goal.returns-in-Close
returns-in-Close c = λ line op named up.
    let fd_up = c.in_ok-fd.ensures.value line _ up in
    ap event_of (c.in_ok-ends.ensures line _ fd_up) ∙ known _ op _ _ refl (named ∙ ap Some c.in-Close.is) (close_is op c.args.pid c.in_ok-fd.fd c.ranges.pid.fits c.in_ok-fd.ensures.fits)

pub returns-in-Arrive : goal.returns-in-Arrive
returns-in-Arrive c = λ line op named up.
    let fd_up = c.in_ok-fd.ensures.value line _ up in
    ap event_of (c.in_ok-ends.ensures line _ fd_up) ∙ known _ op _ _ refl (named ∙ ap Some c.in-Arrive.is) (arrive_is op c.args.pid c.in_ok-fd.fd c.ranges.pid.fits c.in_ok-fd.ensures.fits)

pub returns-in-Connect : goal.returns-in-Connect
returns-in-Connect c = λ line op named up.
    let fd_up = c.in_ok-fd.ensures.value line _ up in
    ap event_of (c.in_ok-ends.ensures line _ fd_up) ∙ known _ op _ _ refl (named ∙ ap Some c.in-Connect.is) (connect_is op c.args.pid c.in_ok-fd.fd c.ranges.pid.fits c.in_ok-fd.ensures.fits)

pub returns-in-Kqueue : goal.returns-in-Kqueue
returns-in-Kqueue c = λ line op named up.
    let fd_up = c.in_ok-fd.ensures.value line _ up in
    ap event_of (c.in_ok-ends.ensures line _ fd_up) ∙ known _ op _ _ refl (named ∙ ap Some c.in-Kqueue.is) (kqueue_is op c.args.pid c.in_ok-fd.fd c.ranges.pid.fits c.in_ok-fd.ensures.fits)
