use Rattle.std.proofs.Common.{refl, ap, ◌∙◌}
use Rattle.kq_model.specs.Reading.{event_of}
use Rattle.kq_line.proofs.RecordKinds.{known}
use Rattle.kq_line.proofs.UsualRecords.{open_is}
use Rattle.kq_line.proofs.usual_records.open.Goals as goal

pub returns : goal.returns
returns c = λ line op named up.
    let fd_up = c.in_ok-fd.ensures.value line _ up in
    let file_up = c.in_ok-file.ensures.value line _ fd_up in
    let mode_up = c.in_ok-name.ensures line _ file_up in
    ap event_of (c.in_ok-ends.ensures line _ mode_up) ∙ known _ op _ _ refl named (open_is op c.args.pid c.in_ok-fd.fd c.in_ok-file.file c.in_ok-name.name.now c.in_ok-mode.mode c.ranges.pid.fits c.in_ok-fd.ensures.fits c.in_ok-file.ensures.fits c.in_ok-mode.ensures)
