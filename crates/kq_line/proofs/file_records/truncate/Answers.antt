use Rattle.std.proofs.Common.{Some, w64, refl, rules, sym, ap, ◌∙◌}
use Rattle.std.proofs.lemmas.Int.{to_z-of_z}
use Rattle.kq_model.specs.declared.event.Event.TheVariants as event
use Rattle.kq_model.specs.Members.{required, width}
use Rattle.kq_model.specs.RecordText.{event_as, i64_at, is_of, is_record, u32_at}
use Rattle.kq_line.proofs.file_records.truncate.Goals as goal

pub returns : goal.returns
unfolding is_record is_of width event_as i64_at u32_at
returns c = λ ms shows.
    let file = c.in_ok-file.ensures ms shows in
    let size = c.in_ok-size.ensures ms shows in
    let count = sym (c.width.ensures ms shows) ∙ c.if-width-ne3.false in
    record { typed = rw (file.whole, size.whole, count) refl; value = rw (file.value, size.value) (ap (λ z. Some (event.Truncate c.in_ok-file.file z)) (sym (to_z-of_z w64 c.in_ok-size.size (search rules)))) }
