use Rattle.std.proofs.Common.{refl, ap, ◌∙◌}
use Rattle.kq_model.specs.Reading.{event_of}
use Rattle.kq_line.proofs.RecordKinds.{known}
use Rattle.kq_line.proofs.UsualRecords.{note_is}
use Rattle.kq_line.proofs.usual_records.note.Goals as goal

pub returns : goal.returns
returns c = λ line op named up.
    let file_up = c.in_ok-file.ensures.value line _ up in
    let note_up = c.in_ok-name.ensures line _ file_up in
    ap event_of (c.in_ok-ends.ensures line _ note_up) ∙ known _ op _ _ refl named (note_is op c.in_ok-file.file c.in_ok-name.name.now c.in_ok-note.note c.in_ok-file.ensures.fits c.in_ok-note.ensures)
