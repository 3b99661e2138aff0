use Rattle.std.proofs.Common.{refl, sym, ◌∙◌}
use Rattle.kq_model.specs.Members.{required, width}
use Rattle.kq_model.specs.RecordText.{event_as, is_of, is_record, note_at, u32_at}
use Rattle.kq_line.proofs.file_records.note.Goals as goal

pub returns : goal.returns
unfolding is_record is_of width event_as note_at u32_at
returns c = λ ms shows.
    let file = c.in_ok-file.ensures ms shows in
    let note = c.in_ok-note.ensures ms shows in
    let count = sym (c.width.ensures ms shows) ∙ c.if-width-ne3.false in
    record { typed = rw (file.whole, note.there, count) refl; value = rw (file.value, note.value) refl }
