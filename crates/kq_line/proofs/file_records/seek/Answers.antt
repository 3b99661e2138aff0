use Rattle.std.proofs.Common.{Some, w64, refl, rules, sym, ap, ◌∙◌}
use Rattle.std.proofs.lemmas.Int.{to_z-of_z}
use Rattle.kq_model.specs.declared.event.Event.TheVariants as event
use Rattle.kq_model.specs.Members.{required, width}
use Rattle.kq_model.specs.RecordText.{event_as, i64_at, is_of, is_record, u32_at}
use Rattle.kq_line.proofs.file_records.seek.Goals as goal

pub returns : goal.returns
unfolding is_record is_of width event_as i64_at u32_at
returns c = λ ms shows.
    let pid = c.in_ok-pid.ensures ms shows in
    let fd = c.in_ok-fd.ensures ms shows in
    let offset = c.in_ok-offset.ensures ms shows in
    let count = sym (c.width.ensures ms shows) ∙ c.if-width-ne4.false in
    record { typed = rw (pid.whole, fd.whole, offset.whole, count) refl; value = rw (pid.value, fd.value, offset.value) (ap (λ z. Some (event.Seek c.in_ok-pid.pid c.in_ok-fd.fd z)) (sym (to_z-of_z w64 c.in_ok-offset.offset (search rules)))) }
