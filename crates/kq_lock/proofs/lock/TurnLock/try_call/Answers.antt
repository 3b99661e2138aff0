use Rattle.std.proofs.Common.{rules, ◌≡◌, ◌∙◌, sym, ap}
use Rattle.kq_lock.specs.Seats.{Seated, LockName}
use Rattle.kq_lock.proofs.Allowed.{may_look_at_turn, may_look_at_ticket, may_seize}
use Rattle.kq_lock.proofs.Held.{bounded_stage, is_ready}
use Rattle.kq_lock.proofs.lock.TurnLock.try_call.Goals as goal

pub load-serving-requires : goal.load-serving-requires
load-serving-requires g c = (
  search rules,
  search rules,
  may_look_at_turn _ _ _ _ _ _
      (search rules),
)

pub load-ticket-requires : goal.load-ticket-requires
load-ticket-requires g c = (
  search rules,
  search rules,
  may_look_at_ticket _ _ _ _ _ _
      (search rules) (bounded_stage c.seat.inside.token.me c.load-serving.new.seat.me
      c.load-serving.result c.load-serving.ensures.2 ∙ c.seat.invariant.0),
)

pub compare_exchange-found-requires : goal.compare_exchange-found-requires
compare_exchange-found-requires g c =
    let start = c.seat.inside.token.me in
    let limit : start.0.last ≡ c.self.inside.last =
    ap (λ (s : Seated g.row.M.Denot g.row.M-Step.Denot g.row.M-Answer.Denot).
    s.lock.last) c.seat.view_is ∙ (ap (λ (l : LockName g.row.M.Denot). l.last) c.requires
    ∙ sym (ap (λ (l : LockName g.row.M.Denot). l.last) c.self.view_is)) in
    let ready = is_ready start c.load-serving.new.seat.me c.load-ticket.new.seat.me
    c.load-serving.result c.load-ticket.result c.self.inside.last c.load-serving.ensures.2
    c.load-ticket.ensures.2 c.if-ticket-self.false limit (search rules)
    c.seat.invariant.0 in (
      search rules,
      search rules,
      may_seize _ _ _ _ _ _
          (search rules) c.load-ticket.result ready.stage ready.under ready.bound,
    )
