use Rattle.std.proofs.Common.{Ok, w64, refl, sym, ap, ◌∙◌, rules}
use Rattle.std.proofs.lemmas.Int.{to_z-of_z}
use Rattle.kq_model.specs.declared.event.Event.TheVariants as event
use Rattle.kq_model.specs.Reading.{event_of}
use Rattle.kq_line.proofs.RecordKinds.{known}
use Rattle.kq_line.proofs.UsualRecords.{clock_is}
use Rattle.kq_line.proofs.usual_records.clock.Goals as goal

pub returns : goal.returns
returns c = λ line op named up.
    let ns_up = c.in_ok-ns.ensures.value line _ up in
    ap event_of (c.in_ok-ends.ensures line _ ns_up) ∙ known _ op _ _ refl named (clock_is op c.in_ok-ns.ns c.in_ok-ns.ensures.fits)
    ∙ ap (λ z. Ok (event.Clock z)) (sym (to_z-of_z w64 c.in_ok-ns.ns (search rules)))
