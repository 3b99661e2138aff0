use Rattle.std.proofs.Common.{refl, ap, ◌∙◌, arith}
use Rattle.kq_model.specs.Clock.{timers}
use Rattle.kq_model.specs.Tallying.{tallying}
use Rattle.kq_model.specs.WalkedAtOnce.{rung_times}
use Rattle.kq_knote.proofs.TimerLaws.{rings, rung-none}
use Rattle.kq_knote.proofs.knote.Knote.ring.Goals as goal

pub returns-then-times-eq0 : goal.returns-then-times-eq0
returns-then-times-eq0 c =
    rung-none c.ticks-times.result c.args.self.now (omega (arith, c.if-times-eq0.true))
    ∙ ap (λ n. rung_times (timers {h = tallying}) n c.args.self.now) c.ticks-times.ensures

pub returns : goal.returns
returns c =
    rings _ c.args.self.now _ c.expire.new.self c.ticks-times.result _ c.self.view_is c.expire.ensures refl c.ticks-times.ensures
    (omega (arith, c.if-times-eq0.false))
