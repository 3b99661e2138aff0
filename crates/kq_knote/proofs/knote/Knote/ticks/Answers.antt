use Rattle.std.proofs.Common.{sym, ap, ◌∙◌}
use Rattle.kq_model.specs.Knote.{is_timer}
use Rattle.kq_model.specs.Tallied.{Knote}
use Rattle.kq_model.specs.Ticks.{expires}
use Rattle.kq_model.specs.NextTicks.{ticks_between}
use Rattle.kq_timer.specs.declared.timer.Timer.{Timer}
use Rattle.kq_knote.proofs.TimerLaws.{timer-ticks, other-ticks}
use Rattle.kq_knote.proofs.knote.Knote.ticks.Goals as goal

pub returns-then-is_timer : goal.returns-then-is_timer
returns-then-is_timer c =
    c.ticks.ensures
    ∙ ap (λ (t : Timer). ticks_between (expires t.once (record { start = t.start; period = t.period })) c.args.from c.args.to) c.timer.ensures
    ∙ timer-ticks c.args.self.now c.args.from c.args.to
    (ap (λ (k : Knote). is_timer k.key.filter) (sym c.self.view_is) ∙ sym c.is_timer.ensures ∙ c.if-is_timer.true)

pub returns-else-is_timer : goal.returns-else-is_timer
returns-else-is_timer c =
    other-ticks c.args.self.now c.args.from c.args.to
    (ap (λ (k : Knote). is_timer k.key.filter) (sym c.self.view_is) ∙ sym c.is_timer.ensures ∙ c.if-is_timer.false)
