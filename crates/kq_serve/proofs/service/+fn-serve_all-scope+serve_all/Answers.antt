use Rattle.std.proofs.Common.{rules, ◌≡◌, ◌∙◌, ℕ, ◌+◌, ap, sym, subst, arith, vec_len}
use Rattle.std.proofs.lemmas.Result.{IfOk-weaker}
use Rattle.kq_lock.specs.Seats.{Seated}
use Rattle.kq_lock.specs.Calls.{calls_by}
use Rattle.kq_serve.specs.Shares.{share, shares, steps_of, AreServed}
use Rattle.kq_serve.proofs.Serving.{served_on, served_theirs, served_thread}
use Rattle.kq_serve.proofs.service.+fn-serve_all-scope+serve_all.Goals as goal

pub scope-returns : goal.scope-returns
scope-returns g t c =
    let owner = g.M.Served.owner in
    let here = c.captures in
    let all = c.join.new.seat.seen in
    let before = subst (λ (k : ℕ). AreServed here.seats.items
    (shares owner here.threads k here.steps.now) c.in_ok-seat.seat.seen)
    (sym c.requires.thread.1) c.in_ok-seat.ensures.all in record {
      lock = ap (λ (z : Seated g.row.M.Denot g.row.M-Step.Denot g.row.M-Answer.Denot). z.lock)
          c.join.ensures.same ∙ c.in_ok-seat.ensures.lock;
      served = (
        served_on here.seats.items (shares owner here.threads here.thread here.steps.now)
            c.in_ok-seat.seat.seen all c.join.ensures.begins before,
        served_theirs here.last c.in_ok-theirs.field-0
            (share owner here.threads here.thread here.steps.now) all
            (search rules)
            c.join.ensures.theirs,
      );
      err = tt;
    }

pub returns-clause-all : goal.returns-clause-all
returns-clause-all g t c =
    let owner = g.M.Served.owner in
    let others = c.pop.new.self in
    let n = c.args.threads in
    let steps = c.args.steps.now in
    let len : vec_len others + 1 ≡ vec_len c.args.seats = c.in-Some.ensures.cases in
    let now : c.len.result ≡ vec_len others = c.len.ensures in
    IfOk-weaker c.scoped.result
    (λ (s : Seated g.row.M.Denot g.row.M-Step.Denot g.row.M-Answer.Denot).
    AreServed others.items (shares owner n c.len.result steps) s.seen
    × (steps_of (calls_by c.in-Some.last.number s.seen) ≡ share owner n c.len.result steps))
    (λ (s : Seated g.row.M.Denot g.row.M-Step.Denot g.row.M-Answer.Denot).
    AreServed c.args.seats.items (shares owner n (vec_len c.args.seats) steps) s.seen)
    (λ s p. served_thread owner n c.len.result (vec_len c.args.seats) steps others.items
    c.args.seats.items c.in-Some.last s.seen p.0 p.1 c.in-Some.ensures.items (omega arith))
    (first_of (search rules, assumption (c.scoped.ensures)))
