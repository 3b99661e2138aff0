use Rattle.std.proofs.Common.{refl, sym, ◌∙◌}
use Rattle.kq_model.specs.Members.{width}
use Rattle.kq_model.specs.RecordText.{event_as, is_of, is_record, u32_at}
use Rattle.kq_line.proofs.records.socket.Goals as goal

pub returns : goal.returns
unfolding is_record is_of width event_as u32_at
returns c = λ ms shows.
    let pid = c.in_ok-pid.ensures ms shows in
    let fd = c.in_ok-fd.ensures ms shows in
    let rcv = c.in_ok-rcv.ensures ms shows in
    let snd = c.in_ok-snd.ensures ms shows in
    let count = sym (c.width.ensures ms shows) ∙ c.if-width-ne5.false in
    record {
      typed = rw (pid.whole, fd.whole, rcv.whole, snd.whole, count) refl;
      value = rw (pid.value, fd.value, rcv.value, snd.value) refl;
    }
