use Rattle.std.proofs.Common.{rules, ◌≢◌, ◌<◌, ◌∙◌, ap, arith}
use Rattle.kq_lock.specs.Turns.{Mine}
use Rattle.kq_lock.proofs.Allowed.{may_look_at_ticket, may_draw}
use Rattle.kq_lock.proofs.turn.draw.Goals as goal

pub load-ticket-requires : goal.load-ticket-requires
load-ticket-requires g c = (
  search rules,
  search rules,
  may_look_at_ticket _ _ _ _ _ _
      (search rules) (search rules),
)

pub compare_exchange-found-requires : goal.compare_exchange-found-requires
compare_exchange-found-requires g c =
    let limit = ap (λ (m : Mine g.row.M.Denot g.row.M-Step.Denot g.row.M-Answer.Denot).
    m.0.last) c.loop.invariant.1 in
    let miss : c.load-ticket.result ≢ c.loop.token.me.0.last = λ e. c.if-ticket-last.false (e
    ∙ (limit ∙ c.requires.idle.1)) in
    let below = c.load-ticket.ensures.2.0 in
    let same = c.load-ticket.ensures.2.3 miss in
    let stage = ap (λ (m : Mine g.row.M.Denot g.row.M-Step.Denot g.row.M-Answer.Denot). m.0.stage)
    (same ∙ c.loop.invariant.1) in
    let last = ap (λ (m : Mine g.row.M.Denot g.row.M-Step.Denot g.row.M-Answer.Denot).
    m.0.last) same in
    let under : c.load-ticket.result < c.load-ticket.new.seat.me.0.last = omega arith in (
      search rules,
      search rules,
      may_draw _ _ _ _ _ _ (search rules) _ (stage
          ∙ c.requires.idle.0) under,
    )

pub loop-preserved : goal.loop-preserved
loop-preserved g c =
    let limit = ap (λ (m : Mine g.row.M.Denot g.row.M-Step.Denot g.row.M-Answer.Denot).
    m.0.last) c.loop.invariant.1 in
    let miss : c.load-ticket.result ≢ c.loop.token.me.0.last = λ e. c.if-ticket-last.false (e
    ∙ (limit ∙ c.requires.idle.1)) in (
      search rules,
      c.compare_exchange-found.ensures.2.1 c.if-found-ticket.false
          ∙ (c.load-ticket.ensures.2.3 miss ∙ c.loop.invariant.1),
    )
