use Rattle.std.proofs.Common.{refl, Some, ap, sym, ◌∙◌}
use Rattle.kq_model.specs.declared.event.Event.TheVariants as event
use Rattle.kq_model.specs.Members.{width}
use Rattle.kq_model.specs.RecordText.{changes_at, event_as, is_of, is_record, u32_at}
use Rattle.kq_line.proofs.records.kevent.Goals as goal

pub returns : goal.returns
unfolding is_record is_of width event_as u32_at changes_at
returns c = λ ms shows.
    let pid = c.in_ok-pid.ensures ms shows in
    let fd = c.in_ok-fd.ensures ms shows in
    let changes = c.in_ok-changes.ensures ms shows in
    let room = c.in_ok-room.ensures ms shows in
    let count = sym (c.width.ensures ms shows) ∙ c.if-width-ne5.false in
    record {
      typed = rw (pid.whole, fd.whole, changes.listed, room.whole, count) refl;
      value = rw (pid.value, fd.value, changes.value, room.value) refl
          ∙ ap (λ changes. Some (event.Kevent c.in_ok-pid.pid c.in_ok-fd.fd changes c.in_ok-room.room)) (sym c.from_vec.ensures);
    }
