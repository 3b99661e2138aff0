use Rattle.std.proofs.Common.{refl, sym, ◌∙◌}
use Rattle.kq_model.specs.Members.{required, width}
use Rattle.kq_model.specs.RecordText.{event_as, is_of, is_record, truth_at, u32_at}
use Rattle.kq_line.proofs.signal_records.sigset.Goals as goal

pub returns : goal.returns
unfolding is_record is_of width event_as truth_at u32_at
returns c = λ ms shows.
    let pid = c.in_ok-pid.ensures ms shows in
    let sig = c.in_ok-sig.ensures ms shows in
    let ignore = c.in_ok-ignore.ensures ms shows in
    let count = sym (c.width.ensures ms shows) ∙ c.if-width-ne4.false in
    record { typed = rw (pid.whole, sig.whole, ignore.there, count) refl; value = rw (pid.value, sig.value, ignore.value) refl }
