use Rattle.std.proofs.Common.{rules, ◌∙◌}
use Rattle.kq_lock.proofs.Allowed.{may_enter}
use Rattle.kq_lock.proofs.Held.{same_view_on, bounded_view, bounded_stage, bounded_slots}
use Rattle.kq_lock.proofs.turn.await_turn.Goals as goal

pub load-serving-requires : goal.load-serving-requires
load-serving-requires g c = (
  search rules,
  search rules,
  may_enter _ _ _ _ _ _
      (search rules) c.args.ticket c.loop.invariant.2,
)

pub returns-then-serving-ticket-clause-seat : goal.returns-then-serving-ticket-clause-seat
returns-then-serving-ticket-clause-seat g c =
    let told = c.load-serving.ensures.2 c.args.ticket c.loop.invariant.2 in (
      search rules,
      same_view_on c.args.token.now.me.0 c.loop.token.me.0 c.load-serving.new.seat.me.0
          c.loop.invariant.1 (told.0 c.if-serving-ticket.true).0,
    )

pub loop-preserved : goal.loop-preserved
loop-preserved g c =
    let told = c.load-serving.ensures.2 c.args.ticket c.loop.invariant.2 in
    let same = told.1 c.if-serving-ticket.false in (
      search rules,
      same_view_on c.args.token.now.me.0 c.loop.token.me.0 c.load-serving.new.seat.me.0 c.loop.invariant.1
          (bounded_view c.loop.token.me c.load-serving.new.seat.me c.load-serving.result same),
      bounded_stage c.loop.token.me c.load-serving.new.seat.me c.load-serving.result same ∙ c.loop.invariant.2,
      bounded_slots c.loop.token.me c.load-serving.new.seat.me c.load-serving.result same ∙ c.loop.invariant.3,
    )
