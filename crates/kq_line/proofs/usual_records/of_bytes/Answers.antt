use Rattle.std.proofs.Common.{refl, ap, ◌∙◌, Some}
use Rattle.kq_model.specs.Reading.{event_of}
use Rattle.kq_line.proofs.RecordKinds.{known}
use Rattle.kq_line.proofs.UsualRecords.{read_is, rx_is, tx_is, write_is}
use Rattle.kq_line.proofs.usual_records.of_bytes.Goals as goal

pub returns-in-Rx : goal.returns-in-Rx
returns-in-Rx c = λ line op named up.
    let fd_up = c.in_ok-fd.ensures.value line _ up in
    let n_up = c.in_ok-n.ensures.value line _ fd_up in
    ap event_of (c.in_ok-ends.ensures line _ n_up) ∙ known _ op _ _ refl (named ∙ ap Some c.in-Rx.is) (rx_is op c.args.pid c.in_ok-fd.fd c.in_ok-n.n c.ranges.pid.fits c.in_ok-fd.ensures.fits c.in_ok-n.ensures.fits)

pub returns-in-Tx : goal.returns-in-Tx
returns-in-Tx c = λ line op named up.
    let fd_up = c.in_ok-fd.ensures.value line _ up in
    let n_up = c.in_ok-n.ensures.value line _ fd_up in
    ap event_of (c.in_ok-ends.ensures line _ n_up) ∙ known _ op _ _ refl (named ∙ ap Some c.in-Tx.is) (tx_is op c.args.pid c.in_ok-fd.fd c.in_ok-n.n c.ranges.pid.fits c.in_ok-fd.ensures.fits c.in_ok-n.ensures.fits)

pub returns-in-Read : goal.returns-in-Read
returns-in-Read c = λ line op named up.
    let fd_up = c.in_ok-fd.ensures.value line _ up in
    let n_up = c.in_ok-n.ensures.value line _ fd_up in
    ap event_of (c.in_ok-ends.ensures line _ n_up) ∙ known _ op _ _ refl (named ∙ ap Some c.in-Read.is) (read_is op c.args.pid c.in_ok-fd.fd c.in_ok-n.n c.ranges.pid.fits c.in_ok-fd.ensures.fits c.in_ok-n.ensures.fits)

pub returns-in-Write : goal.returns-in-Write
returns-in-Write c = λ line op named up.
    let fd_up = c.in_ok-fd.ensures.value line _ up in
    let n_up = c.in_ok-n.ensures.value line _ fd_up in
    ap event_of (c.in_ok-ends.ensures line _ n_up) ∙ known _ op _ _ refl (named ∙ ap Some c.in-Write.is) (write_is op c.args.pid c.in_ok-fd.fd c.in_ok-n.n c.ranges.pid.fits c.in_ok-fd.ensures.fits c.in_ok-n.ensures.fits)
