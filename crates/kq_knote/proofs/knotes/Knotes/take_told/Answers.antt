use Rattle.std.proofs.Common.{◌<◌, ◌≤◌, ◌+◌, List, subst, arith}
use Rattle.std.proofs.lemmas.List.Elements.{All-weaker}
use Rattle.kq_alarm.specs.Armed.{Entry}
use Rattle.kq_model.specs.declared.key.Key.{Key}
use Rattle.kq_knote.specs.Expiring.{AreAlarmed, AreArmed}
use Rattle.kq_knote.proofs.AlarmLaws.{waiting-start, alarmed-quiet}
use Rattle.kq_knote.proofs.DueLaws.{alarmed-again}
use Rattle.kq_knote.proofs.knotes.Knotes.take_told.Goals as goal

pub gather_due-requires-clause-waiting : goal.gather_due-requires-clause-waiting
gather_due-requires-clause-waiting c =
    let entries = c.self.inside.alarms.entries in
    waiting-start c.self.inside.since c.args.from (c.args.from + 1) entries c.self.inside.rows.rows c.if-from-self.false (omega (arith, c.requires.ordered, c.requires.within))
    (All-weaker (λ (e : Entry). c.next_due-earliest.result ≤ e.0.moment) (λ (e : Entry). c.args.from < e.0.moment)
    (λ e h. omega (arith, h, c.if-earliest-from.false)) entries c.next_due-earliest.ensures.least)
    (c.self.invariant.armed c.if-not-self.false)

pub invariant_of-self-2 : goal.invariant_of-self-2
invariant_of-self-2 c =
    let ks = c.self.inside.rows.rows in
    let entries = c.arm_due.new.alarms.entries in
    let armed : AreAlarmed c.args.to entries ks =
    alarmed-again c.args.from (omega (arith, c.requires.ordered, c.requires.within)) ks c.args.to c.gather_due.new.due.items c.gather_due.new.alarms.entries entries
    c.self.invariant.own_keys c.requires.ordered c.requires.within (c.gather_due.ensures.due c.if-not-gather_due.false) (c.gather_due.ensures.waiting c.if-not-gather_due.false)
    c.arm_due.ensures.kept
    (subst (λ (keys : List Key). AreArmed c.args.to keys entries ks) c.deref.ensures.value (c.arm_due.ensures.armed c.if-not-arm_due.false)) in
    record {
      own_keys = c.self.invariant.own_keys;
      begun = c.requires.within;
      quiet = alarmed-quiet c.args.to c.next_due-self-inside.result entries ks c.next_due-self-inside.ensures.bounded c.next_due-self-inside.ensures.least armed;
      armed = λ _. armed;
    }
