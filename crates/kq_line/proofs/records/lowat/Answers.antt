use Rattle.std.proofs.Common.{refl, sym, ◌∙◌}
use Rattle.kq_model.specs.Members.{width}
use Rattle.kq_model.specs.RecordText.{event_as, is_of, is_record, side_at, u32_at}
use Rattle.kq_line.proofs.records.lowat.Goals as goal

pub returns : goal.returns
unfolding is_record is_of width event_as u32_at side_at
returns c = λ ms shows.
    let pid = c.in_ok-pid.ensures ms shows in
    let fd = c.in_ok-fd.ensures ms shows in
    let side = c.in_ok-side.ensures ms shows in
    let n = c.in_ok-n.ensures ms shows in
    let count = sym (c.width.ensures ms shows) ∙ c.if-width-ne5.false in
    record {
      typed = rw (pid.whole, fd.whole, side.there, n.whole, count) refl;
      value = rw (pid.value, fd.value, side.value, n.value) refl;
    }
