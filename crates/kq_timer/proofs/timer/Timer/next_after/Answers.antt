-- The next expiration of a timer that expires once, and of one that goes on.
use Rattle.std.proofs.Common.{◌≡◌, ◌+◌, ◌-◌, ◌%◌, ◌<◌, ℕ, true, false, sym, ap, ◌∙◌, arith}
use Rattle.kq_model.specs.Ticks.{Ticking, expires, last_moment}
use Rattle.kq_model.specs.NextTicks.{next_tick}
use Rattle.kq_model.proofs.Ticks.{moment_after}
use Rattle.kq_timer.proofs.TimerLaws.{no-period, has-period, once-single, still-single, single-next, periodic-next, periodic-never, moment_after-found, too_far}
use Rattle.kq_timer.proofs.timer.Timer.next_after.Goals as goal
use Rattle.kq_timer.proofs.timer.Timer.next_after.Goals.{then-self-via-then-self, then-self-via-else-self+then-is_single_moment}

abbrev ticking_of : ℕ → ℕ → Ticking
ticking_of start period = record { start = start; period = period }

pub returns-then-self : goal.returns-then-self
returns-then-self c =
    let t = ticking_of c.args.self.start c.args.self.period in
    elim c.then-self.branch [
      | then-self-via-then-self w ↦
          c.single.ensures ∙ sym (single-next (expires true t) (t.start + t.period) (once-single t) c.args.from c.requires)
          ∙ ap (λ once. next_tick (expires once t) c.args.from) (sym w.if-self.true)
      | then-self-via-else-self+then-is_single_moment w ↦
          c.single.ensures ∙ sym (single-next (expires false t) (t.start + t.period) (still-single t (no-period t.period (sym w.is_single_moment.ensures ∙ w.if-is_single_moment.true))) c.args.from c.requires)
          ∙ ap (λ once. next_tick (expires once t) c.args.from) (sym w.if-self.false)
    ]

pub returns-in-Some : goal.returns-in-Some
returns-in-Some c =
    let t = ticking_of c.args.self.start c.args.self.period in
    let positive : 0 < t.period = has-period t.period (sym c.is_single_moment.ensures ∙ c.if-is_single_moment.false) in
    let found = moment_after-found t c.args.from positive c.max-later.result c.max-later.ensures in
    let at : c.in-Some.moment ≡ moment_after t c.args.from = omega (arith, found, c.in-Some.ensures.1) in
    at ∙ sym (periodic-next t c.args.from positive (omega (arith, at, c.if-moment-le-LAST_MOMENT.true)))
    ∙ ap (λ once. next_tick (expires once t) c.args.from) (sym c.if-self.false)

pub returns-in_default : goal.returns-in_default
returns-in_default c =
    let t = ticking_of c.args.self.start c.args.self.period in
    let positive : 0 < t.period = has-period t.period (sym c.is_single_moment.ensures ∙ c.if-is_single_moment.false) in
    let found = moment_after-found t c.args.from positive c.max-later.result c.max-later.ensures in
    let late : last_moment < moment_after t c.args.from = omega (arith, found, c.in-Some.ensures.1, c.if-moment-le-LAST_MOMENT.false) in
    sym (periodic-never t c.args.from positive c.requires late)
    ∙ ap (λ once. next_tick (expires once t) c.args.from) (sym c.if-self.false)

pub returns-in_default-2 : goal.returns-in_default-2
returns-in_default-2 c =
    let t = ticking_of c.args.self.start c.args.self.period in
    let positive : 0 < t.period = has-period t.period (sym c.is_single_moment.ensures ∙ c.if-is_single_moment.false) in
    let found = moment_after-found t c.args.from positive c.max-later.result c.max-later.ensures in
    let over = too_far (c.max-later.result - (c.max-later.result - t.start) % t.period + t.period) c.in_default.ensures in
    let late : last_moment < moment_after t c.args.from = omega (arith, found, over) in
    sym (periodic-never t c.args.from positive c.requires late)
    ∙ ap (λ once. next_tick (expires once t) c.args.from) (sym c.if-self.false)
