use Rattle.std.proofs.Common.{◌≡◌, ℕ, ◌≤◌, Bool, sym, ap, subst}
use Rattle.kq_alarm.specs.Armed.{HasAlarm}
use Rattle.kq_model.specs.declared.key.Key.{Key}
use Rattle.kq_model.specs.Ticks.{last_moment}
use Rattle.kq_model.specs.NextTicks.{next_tick}
use Rattle.kq_knote.specs.Expiring.{next_of}
use Rattle.kq_knote.proofs.arming.put_changed.Goals as goal

pub returns-then-rings_with-clause-here : goal.returns-then-rings_with-clause-here
returns-then-rings_with-clause-here c = λ _ has.
    let before = c.args.before.now in
    let knote = c.args.knote.now in
    let same : next_of c.args.since before ≡ next_of c.args.since knote =
    ap (λ (e : ℕ → Bool). next_tick e c.args.since) (sym (c.rings_with.ensures c.if-rings_with.true (sym c.requires.one_key))) in
    subst (λ (key : Key). next_of c.args.since knote ≤ last_moment → HasAlarm c.args.alarms.now.entries (next_of c.args.since knote) key.ident) c.requires.one_key
    (subst (λ n. n ≤ last_moment → HasAlarm c.args.alarms.now.entries n before.key.ident) same has)

pub returns-then-rings_with-clause-quiet : goal.returns-then-rings_with-clause-quiet
returns-then-rings_with-clause-quiet c = λ quiet.
    subst (λ (e : ℕ → Bool). c.args.soonest.now ≤ next_tick e c.args.since) (sym (c.rings_with.ensures c.if-rings_with.true (sym c.requires.one_key))) quiet
