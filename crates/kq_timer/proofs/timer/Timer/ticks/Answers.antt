-- How often a timer expires that does so once, and one that goes on.
use Rattle.std.proofs.Common.{◌≡◌, ◌+◌, ◌-◌, ◌/◌, ◌<◌, ℕ, true, false, leb, cond, sym, ap, ap₂, ◌∙◌, rules}
use Rattle.kq_model.specs.Ticks.{Ticking, expires}
use Rattle.kq_model.specs.NextTicks.{ticks_between}
use Rattle.kq_timer.proofs.TimerLaws.{no-period, has-period, once-single, still-single, single-ticks, periodic-ticks}
use Rattle.kq_timer.proofs.timer.Timer.ticks.Goals as goal
use Rattle.kq_timer.proofs.timer.Timer.ticks.Goals.{then-self-via-then-self, then-self-via-else-self+then-is_single_moment}

abbrev ticking_of : ℕ → ℕ → Ticking
ticking_of start period = record { start = start; period = period }

pub returns-then-self : goal.returns-then-self
returns-then-self c =
    let t = ticking_of c.args.self.start c.args.self.period in
    let raw : c.from.result ≡ cond {A = ℕ} (leb c.single.result c.args.to) 1 0 = search rules in
    let once = raw ∙ ap (λ n. cond {A = ℕ} (leb n c.args.to) 1 0) c.single.ensures in
    elim c.then-self.branch [
      | then-self-via-then-self w ↦
          once ∙ single-ticks (expires true t) (t.start + t.period) (once-single t) c.args.from c.args.to c.requires.ordered c.requires.within
          ∙ ap (λ b. ticks_between (expires b t) c.args.from c.args.to) (sym w.if-self.true)
      | then-self-via-else-self+then-is_single_moment w ↦
          once ∙ single-ticks (expires false t) (t.start + t.period) (still-single t (no-period t.period (sym w.is_single_moment.ensures ∙ w.if-is_single_moment.true))) c.args.from c.args.to c.requires.ordered c.requires.within
          ∙ ap (λ b. ticks_between (expires b t) c.args.from c.args.to) (sym w.if-self.false)
    ]

pub returns : goal.returns
returns c =
    let t = ticking_of c.args.self.start c.args.self.period in
    let positive : 0 < t.period = has-period t.period (sym c.is_single_moment.ensures ∙ c.if-is_single_moment.false) in
    ap₂ (λ a b. a / t.period - b / t.period) c.saturating_sub.ensures c.saturating_sub-2.ensures
    ∙ periodic-ticks t c.args.from c.args.to positive c.requires.ordered
    ∙ ap (λ b. ticks_between (expires b t) c.args.from c.args.to) (sym c.if-self.false)
