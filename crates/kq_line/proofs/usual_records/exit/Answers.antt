use Rattle.std.proofs.Common.{refl, ap, ◌∙◌}
use Rattle.kq_model.specs.Reading.{event_of}
use Rattle.kq_line.proofs.RecordKinds.{known}
use Rattle.kq_line.proofs.UsualRecords.{exit_is}
use Rattle.kq_line.proofs.usual_records.exit.Goals as goal

pub returns : goal.returns
returns c = λ line op named up.
    let status_up = c.in_ok-status.ensures.value line _ up in
    ap event_of (c.in_ok-ends.ensures line _ status_up) ∙ known _ op _ _ refl named (exit_is op c.args.pid c.in_ok-status.status c.ranges.pid.fits c.in_ok-status.ensures.fits)
