use Rattle.std.proofs.Common.{refl, sym, ◌∙◌}
use Rattle.kq_model.specs.Members.{required, width}
use Rattle.kq_model.specs.RecordText.{event_as, is_of, is_record, mode_at, u32_at}
use Rattle.kq_line.proofs.file_records.open.Goals as goal

pub returns : goal.returns
unfolding is_record is_of width event_as mode_at u32_at
returns c = λ ms shows.
    let pid = c.in_ok-pid.ensures ms shows in
    let fd = c.in_ok-fd.ensures ms shows in
    let file = c.in_ok-file.ensures ms shows in
    let mode = c.in_ok-mode.ensures ms shows in
    let count = sym (c.width.ensures ms shows) ∙ c.if-width-ne5.false in
    record { typed = rw (pid.whole, fd.whole, file.whole, mode.there, count) refl; value = rw (pid.value, fd.value, file.value, mode.value) refl }
