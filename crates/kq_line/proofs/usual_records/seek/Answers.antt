use Rattle.std.proofs.Common.{Ok, w64, refl, sym, ap, ◌∙◌, rules}
use Rattle.std.proofs.lemmas.Int.{to_z-of_z}
use Rattle.kq_model.specs.declared.event.Event.TheVariants as event
use Rattle.kq_model.specs.Reading.{event_of}
use Rattle.kq_line.proofs.RecordKinds.{known}
use Rattle.kq_line.proofs.UsualRecords.{seek_is}
use Rattle.kq_line.proofs.usual_records.seek.Goals as goal

pub returns : goal.returns
returns c = λ line op named up.
    let fd_up = c.in_ok-fd.ensures.value line _ up in
    let offset_up = c.in_ok-offset.ensures.value line _ fd_up in
    ap event_of (c.in_ok-ends.ensures line _ offset_up) ∙ known _ op _ _ refl named (seek_is op c.args.pid c.in_ok-fd.fd c.in_ok-offset.offset c.ranges.pid.fits c.in_ok-fd.ensures.fits c.in_ok-offset.ensures.fits)
    ∙ ap (λ z. Ok (event.Seek c.args.pid c.in_ok-fd.fd z)) (sym (to_z-of_z w64 c.in_ok-offset.offset (search rules)))
