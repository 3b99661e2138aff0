use Rattle.std.proofs.Common.{sym, ap, ◌∙◌}
use Rattle.kq_model.specs.Knote.{is_timer}
use Rattle.kq_model.specs.Tallied.{Knote}
use Rattle.kq_model.specs.Ticks.{expires}
use Rattle.kq_model.specs.NextTicks.{next_tick}
use Rattle.kq_timer.specs.declared.timer.Timer.{Timer}
use Rattle.kq_knote.proofs.TimerLaws.{timer-next, other-next}
use Rattle.kq_knote.proofs.knote.Knote.first_after.Goals as goal

pub returns-then-is_timer : goal.returns-then-is_timer
returns-then-is_timer c =
    c.next_after.ensures
    ∙ ap (λ (t : Timer). next_tick (expires t.once (record { start = t.start; period = t.period })) c.args.from) c.timer.ensures
    ∙ timer-next c.args.self.now c.args.from
    (ap (λ (k : Knote). is_timer k.key.filter) (sym c.self.view_is) ∙ sym c.is_timer.ensures ∙ c.if-is_timer.true)

pub returns-else-is_timer : goal.returns-else-is_timer
returns-else-is_timer c =
    other-next c.args.self.now c.args.from c.requires
    (ap (λ (k : Knote). is_timer k.key.filter) (sym c.self.view_is) ∙ sym c.is_timer.ensures ∙ c.if-is_timer.false)
