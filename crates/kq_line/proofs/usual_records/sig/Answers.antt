use Rattle.std.proofs.Common.{refl, ap, ◌∙◌}
use Rattle.kq_model.specs.Reading.{event_of}
use Rattle.kq_line.proofs.RecordKinds.{known}
use Rattle.kq_line.proofs.UsualRecords.{sig_is}
use Rattle.kq_line.proofs.usual_records.sig.Goals as goal

pub returns : goal.returns
returns c = λ line op named up.
    let sig_up = c.in_ok-sig.ensures.value line _ up in
    ap event_of (c.in_ok-ends.ensures line _ sig_up) ∙ known _ op _ _ refl named (sig_is op c.args.pid c.in_ok-sig.sig c.ranges.pid.fits c.in_ok-sig.ensures.fits)
