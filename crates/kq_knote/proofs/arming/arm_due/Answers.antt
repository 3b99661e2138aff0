use Rattle.std.proofs.Common.{◌≡◌, ◌+◌, List, Some, take, take_all, get_or, refl, sym, ◌∙◌, subst, arith}
use Rattle.std.proofs.lemmas.List.{take_more}
use Rattle.kq_model.specs.declared.filter.Filter.TheVariants.{Read}
use Rattle.kq_model.specs.declared.key.Key.{Key}
use Rattle.kq_model.specs.Knote.{find_knote}
use Rattle.kq_knote.specs.Expiring.{AreArmed}
use Rattle.kq_knote.proofs.ArmLaws.{arm-more, arm-none}
use Rattle.kq_knote.proofs.RowLaws.{find_row-knotes}
use Rattle.kq_knote.proofs.arming.arm_due.Goals as goal

-- what a read past the end of the keys would give
abbrev no_key : Key
no_key = record { ident = 0; filter = Read }

pub loop-key-init : goal.loop-key-init
loop-key-init c = record {
  kept = λ e here. here;
  armed = arm-none c.args.to c.args.rows.now.rows (take 0 c.args.due.now) c.args.alarms.now.entries refl;
}

pub loop-key-preserved : goal.loop-key-preserved
loop-key-preserved c =
    let ks = c.args.rows.now.rows in
    let i = c.loop-key.key-index in
    let due = c.args.due.now in
    let key : Key = get_or due i no_key in
    let found : find_knote key ks ≡ Some c.in-Some.knote.now =
    sym (find_row-knotes key ks) ∙ sym c.in-Some.ensures in
    record {
      kept = λ e here. c.put_alarm.ensures.kept e (c.loop-key.invariant.kept e here);
      armed = arm-more c.args.to ks (take i due) (take (i + 1) due) key c.in-Some.knote.now c.first_after-first.result c.loop-key.alarms.entries c.put_alarm.new.alarms.entries
          c.requires.own_keys c.loop-key.invariant.armed c.put_alarm.ensures.kept found c.first_after-first.ensures
          (c.put_alarm.ensures.here c.if-not-put_alarm.false) (take_more due i no_key (omega arith));
    }

pub returns-clause-armed : goal.returns-clause-armed
returns-clause-armed c = λ _.
    subst (λ (keys : List Key). AreArmed c.args.to keys c.loop-key.alarms.entries c.args.rows.now.rows)
    (take_all c.loop-key.key-index c.args.due.now (omega arith)) c.loop-key.invariant.armed
