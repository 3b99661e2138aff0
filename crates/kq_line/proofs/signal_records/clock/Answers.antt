use Rattle.std.proofs.Common.{Some, w64, refl, rules, sym, ap, ◌∙◌}
use Rattle.std.proofs.lemmas.Int.{to_z-of_z}
use Rattle.kq_model.specs.declared.event.Event.TheVariants as event
use Rattle.kq_model.specs.Members.{required, width}
use Rattle.kq_model.specs.RecordText.{event_as, is_of, is_record, moment_at}
use Rattle.kq_line.proofs.signal_records.clock.Goals as goal

pub returns : goal.returns
unfolding is_record is_of width event_as moment_at
returns c = λ ms shows.
    let ns = c.in_ok-ns.ensures ms shows in
    let count = sym (c.width.ensures ms shows) ∙ c.if-width-ne2.false in
    record { typed = rw (ns.whole, count) refl; value = rw (ns.value) (ap (λ z. Some (event.Clock z)) (sym (to_z-of_z w64 c.in_ok-ns.ns (search rules)))) }
