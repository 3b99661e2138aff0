-- The members are those of a kevent call.
use Rattle.std.proofs.Common.{codes, refl, ap, ◌∙◌}
use Rattle.kq_model.specs.Reading.{event_of}
use Rattle.kq_line.proofs.Lists.{changes_value}
use Rattle.kq_line.proofs.MemberSteps.{line_value}
use Rattle.kq_line.proofs.RecordKinds.{known}
use Rattle.kq_line.proofs.UsualRecords.{kevent_is}
use Rattle.kq_line.proofs.usual.kevent.Goals as goal

pub returns-in-Ok : goal.returns-in-Ok
returns-in-Ok c = λ line op named up.
    let value = c.in_ok-behind_next_key.field-0.now in
    let tail = c.in_ok-rest.rest.now in
    let changes = c.change_list.new.changes.items in
    let list = changes_value value c.in_ok-items.items.now tail changes c.in_ok-items.ensures.cut c.in_ok-rest.ensures.value in
    let fd = c.in_ok-fd.ensures.value line _ up in
    let listed = line_value line c.in_ok-fd.rest.now value tail (codes "changes") _ list.0 refl fd c.in_ok-behind_next_key.ensures.key list.1 in
    let room = c.in_ok-room.ensures.value line _ listed in
    ap event_of (c.in_ok-ends.ensures line _ room)
    ∙ known _ op _ _ refl named
    (kevent_is op c.args.pid c.in_ok-fd.fd c.in_ok-room.room list.0 changes _ c.ranges.pid.fits c.in_ok-fd.ensures.fits c.in_ok-room.ensures.fits list.2 list.3
    (c.from_vec.ensures ∙ c.in-Ok.ensures.items ∙ c.as_slice.ensures.value))
