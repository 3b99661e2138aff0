use Rattle.std.proofs.Common.{rules, ap, sym, ◌∙◌}
use Rattle.kq_lock.specs.Seats.{LockName}
use Rattle.kq_lock.proofs.Ending.{ends}
use Rattle.kq_lock.proofs.Seating.{closes}
use Rattle.kq_lock.proofs.lock.TurnLock.close.Goals as goal

pub returns-in-Some-clause-ok : goal.returns-in-Some-clause-ok
returns-in-Some-clause-ok g c =
    let opening = c.self.inside.table.shared.key.opening.value in
    let last = c.self.inside.table.shared.key.last in
    let view = c.seat.inside.token.me.0 in
    let kept = c.in-Some.field-0 in
    let whole = ends g.M.Machine.leads opening last c.seat.inside.token.id view _ _ kept
    c.word.result c.word-2.result c.close_with-closed.ensures.values.2 c.seat.invariant.0
    c.word.ensures c.word-2.ensures (search rules) (search rules) in
    closes g.M.Machine.leads opening last c.args.self c.args.seat view c.seat.inside.token.table_id
    kept whole (sym (ap (λ (l : LockName g.row.M.Denot). l.opening) c.self.view_is))
    (sym (ap (λ (l : LockName g.row.M.Denot). l.last) c.self.view_is)
    ∙ sym c.self.invariant.2) c.seat.view_is
