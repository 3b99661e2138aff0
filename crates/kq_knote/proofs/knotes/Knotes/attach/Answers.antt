use Rattle.std.proofs.Common.{◌≡◌, ◌≤◌, ◌++◌, ◌∷◌, [], None, sym, ap, ◌∙◌, subst}
use Rattle.kq_alarm.specs.Armed.{HasAlarm}
use Rattle.kq_model.specs.Knote.{find_knote}
use Rattle.kq_model.specs.Kqueue.{HaveOwnKeys}
use Rattle.kq_model.specs.Tallied.{Knote}
use Rattle.kq_model.specs.Ticks.{last_moment}
use Rattle.kq_model.proofs.KnoteLaws.{HaveOwnKeys-append}
use Rattle.kq_model.proofs.Tallied.{attached-tallied}
use Rattle.kq_knote.specs.Reserved.{Reserved}
use Rattle.kq_knote.proofs.AlarmLaws.{alarmed-attached}
use Rattle.kq_knote.proofs.QuietLaws.{quiet-attached}
use Rattle.kq_knote.proofs.RowLaws.{find_row-knotes}
use Rattle.kq_knote.proofs.knotes.Knotes.attach.Goals as goal

pub attach-requires-clause-absent : goal.attach-requires-clause-absent
attach-requires-clause-absent c =
    find_row-knotes c.args.knote.key c.self.inside.rows.rows
    ∙ ap (λ (v : Reserved). find_knote c.args.knote.key v.knotes) c.self.view_is
    ∙ c.requires.absent

pub invariant_of-self : goal.invariant_of-self
invariant_of-self c =
    let ks = c.self.inside.rows.rows in
    let put = c.put_new-self-inside in
    let absent : find_knote c.args.knote.key ks ≡ None =
    ap (λ (v : Reserved). find_knote c.args.knote.key v.knotes) c.self.view_is ∙ c.requires.absent in
    record {
      own_keys = subst HaveOwnKeys (sym c.attach.ensures.rows) (HaveOwnKeys-append ks c.args.knote c.self.invariant.own_keys absent);
      begun = c.self.invariant.begun;
      quiet = quiet-attached c.self.inside.since c.self.inside.soonest c.first_after-first.result c.min-self-inside.result ks c.attach.new.self.rows c.args.knote
          c.self.invariant.quiet c.first_after-first.ensures c.min-self-inside.ensures c.attach.ensures.rows;
      armed = λ whole. alarmed-attached c.self.inside.since put.new.alarms.entries c.self.inside.alarms.entries ks c.attach.new.self.rows c.args.knote
          c.first_after-first.result (c.self.invariant.armed (put.ensures.whole whole)) put.ensures.kept c.first_after-first.ensures
          (subst (λ (k : Knote). c.first_after-first.result ≤ last_moment → HasAlarm put.new.alarms.entries c.first_after-first.result k.key.ident)
          c.knote.view_is (put.ensures.here whole))
          c.attach.ensures.rows;
    }

pub first_after-first-requires : goal.first_after-first-requires
first_after-first-requires c = c.self.invariant.begun

pub returns-clause-model : goal.returns-clause-model
returns-clause-model c = λ ms m same one.
    c.attach.ensures.rows ∙ ap (λ (v : Reserved). v.knotes ++ c.args.knote ∷ []) c.self.view_is
    ∙ attached-tallied c.args.self.now.knotes ms same c.args.knote m one
