use Rattle.std.proofs.Common.{rules, ℕ, subst, ◌∙◌}
use Rattle.kq_serve.specs.Shares.{shares, AreServed}
use Rattle.kq_serve.proofs.Sharing.{total_all}
use Rattle.kq_serve.proofs.Merges.{serves}
use Rattle.kq_serve.proofs.service.serve.Goals as goal

pub returns-clause-served : goal.returns-clause-served
returns-clause-served g c =
    let owner = g.M.Served.owner in
    let n = c.args.threads in
    let steps = c.args.steps.now in
    let parts = shares owner n n steps in
    let total = total_all owner n steps (search rules) in
    let count = c.in_ok-lock.ensures.count in
    let served = subst (λ (k : ℕ). AreServed c.in_ok-lock.seats.items (shares owner n k steps)
    c.in_ok-seat.seat.seen) count c.in_ok-seat.ensures.all in
    serves g.M.Machine.leads c.in_ok-lock.lock c.in_ok-lock.seats.items parts c.in_ok-seat.seat
    c.args.machine c.in_ok-ended.ended.0 c.in_ok-ended.ended.1.items c.in_ok-lock.ensures.apart
    served c.in_ok-ended.ensures.ok c.in_ok-lock.ensures.lock.0
    (c.in_ok-lock.ensures.lock.1 ∙ (search rules))
