-- A change at a time.
use Rattle.std.proofs.Common.{◌∙◌}
use Rattle.std.proofs.lemmas.Result.{on_ok_weaker}
use Rattle.kq_spell.proofs.LineTexts.{change_taken, changes_ended, changes_fit_all, changes_fit_more}
use Rattle.kq_spell.proofs.spell.put_changes.Goals as goal

pub loop-change-preserved : goal.loop-change-preserved
loop-change-preserved c = record {
  text = change_taken c.loop-change.is_later c.args.changes.now c.loop-change.change-index _ c.loop-change.out.items c.put_item.new.out.items c.loop-change-test.true
      c.in_ok-put_item.ensures.text ∙ c.loop-change.invariant.text;
  fits = changes_fit_more c.args.changes.now c.loop-change.change-index _ c.loop-change-test.true c.loop-change.invariant.fits c.in_ok-put_item.ensures.fits;
}

pub returns-clause-text : goal.returns-clause-text
returns-clause-text c = on_ok_weaker c.put.result
    (changes_ended c.loop-change.is_later c.args.changes.now c.loop-change.change-index c.args.out.now.items c.loop-change.out.items c.put.new.out.items c.loop-change-test.false c.loop-change.invariant.text)
    c.put.ensures

pub returns-clause-fits : goal.returns-clause-fits
returns-clause-fits c = on_ok_weaker c.put.result
    (λ end. changes_fit_all c.args.changes.now c.loop-change.change-index c.loop-change-test.false c.loop-change.invariant.fits) c.put.ensures
