use Rattle.std.proofs.Common.{◌≡◌, ◌+◌, length, sym, ap, ◌∙◌, subst, arith}
use Rattle.kq_model.specs.Knote.{find_knote, without_key, without_knote}
use Rattle.kq_model.specs.Kqueue.{HaveOwnKeys}
use Rattle.kq_model.specs.Tallied.{Knote}
use Rattle.kq_model.proofs.KnoteLaws.{HaveOwnKeys-without}
use Rattle.kq_model.proofs.Tallied.{found-tallied, without-tallied}
use Rattle.kq_knote.specs.Expiring.{AreAlarmed}
use Rattle.kq_knote.specs.Quiet.{AreQuiet}
use Rattle.kq_knote.specs.Reserved.{Reserved}
use Rattle.kq_knote.proofs.AlarmLaws.{alarmed-without}
use Rattle.kq_knote.proofs.CountLaws.{limit-without_knote}
use Rattle.kq_knote.proofs.QuietLaws.{quiet-without}
use Rattle.kq_knote.proofs.RowLaws.{find_row-knotes, without_row-knotes, without_waiting-keys}
use Rattle.kq_knote.proofs.knotes.Knotes.remove_at.Goals as goal

pub invariant_of-self : goal.invariant_of-self
invariant_of-self c =
    let ks = c.self.inside.rows.rows in
    let rows : c.remove_at.new.self.rows ≡ without_knote c.args.key ks = c.remove_at.ensures.rows ∙ without_row-knotes c.args.key ks in
    record {
      own_keys = subst HaveOwnKeys (sym rows) (HaveOwnKeys-without c.args.key ks c.self.invariant.own_keys);
      begun = c.self.invariant.begun;
      quiet = subst (AreQuiet c.self.inside.since c.self.inside.soonest) (sym rows)
          (quiet-without c.self.inside.since c.self.inside.soonest c.args.key ks c.self.invariant.quiet);
      armed = λ whole. subst (AreAlarmed c.self.inside.since c.self.inside.alarms.entries) (sym rows)
          (alarmed-without c.self.inside.since c.self.inside.alarms.entries c.args.key ks (c.self.invariant.armed whole));
    }

pub returns-clause-removed : goal.returns-clause-removed
returns-clause-removed c =
    c.remove_at.ensures.removed ∙ find_row-knotes c.args.key c.self.inside.rows.rows
    ∙ ap (λ (v : Reserved). find_knote c.args.key v.knotes) c.self.view_is

pub returns-clause-knotes : goal.returns-clause-knotes
returns-clause-knotes c =
    c.remove_at.ensures.rows ∙ without_row-knotes c.args.key c.self.inside.rows.rows
    ∙ ap (λ (v : Reserved). without_knote c.args.key v.knotes) c.self.view_is

pub returns-clause-queue : goal.returns-clause-queue
returns-clause-queue c =
    c.remove_at.ensures.queue ∙ without_waiting-keys c.args.key c.self.inside.rows.queue
    ∙ ap (λ (v : Reserved). without_key c.args.key v.queue) c.self.view_is

pub returns-clause-limit : goal.returns-clause-limit
returns-clause-limit c =
    let ks = c.self.inside.rows.rows in
    let rows : c.remove_at.new.self.rows ≡ without_knote c.args.key ks = c.remove_at.ensures.rows ∙ without_row-knotes c.args.key ks in
    let kept = limit-without_knote c.args.key ks c.remove_at.result c.self.inside.rows.room c.remove_at.new.self.room
    c.self.invariant.own_keys (c.remove_at.ensures.removed ∙ find_row-knotes c.args.key ks) c.remove_at.ensures.room in
    omega (arith, kept, ap (length {A = Knote}) rows, ap (λ (v : Reserved). length v.knotes + v.room) c.self.view_is)

pub returns-clause-model : goal.returns-clause-model
returns-clause-model c = λ ms same. (
  returns-clause-removed c ∙ found-tallied c.args.self.now.knotes ms same c.args.key,
  returns-clause-knotes c ∙ without-tallied c.args.self.now.knotes ms same c.args.key,
)
