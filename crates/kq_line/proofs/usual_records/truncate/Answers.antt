use Rattle.std.proofs.Common.{Ok, w64, refl, sym, ap, ◌∙◌, rules}
use Rattle.std.proofs.lemmas.Int.{to_z-of_z}
use Rattle.kq_model.specs.declared.event.Event.TheVariants as event
use Rattle.kq_model.specs.Reading.{event_of}
use Rattle.kq_line.proofs.RecordKinds.{known}
use Rattle.kq_line.proofs.UsualRecords.{truncate_is}
use Rattle.kq_line.proofs.usual_records.truncate.Goals as goal

pub returns : goal.returns
returns c = λ line op named up.
    let file_up = c.in_ok-file.ensures.value line _ up in
    let size_up = c.in_ok-size.ensures.value line _ file_up in
    ap event_of (c.in_ok-ends.ensures line _ size_up) ∙ known _ op _ _ refl named (truncate_is op c.in_ok-file.file c.in_ok-size.size c.in_ok-file.ensures.fits c.in_ok-size.ensures.fits)
    ∙ ap (λ z. Ok (event.Truncate c.in_ok-file.file z)) (sym (to_z-of_z w64 c.in_ok-size.size (search rules)))
