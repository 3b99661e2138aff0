use Rattle.std.proofs.Common.{ap, ◌∙◌, arith, rules}
use Rattle.kq_model.specs.Knote.{has_key}
use Rattle.kq_model.specs.declared.key.Key.{Key}
use Rattle.kq_judge.proofs.TableLaws.{find_row-none}
use Rattle.kq_judge.proofs.JudgeLaws.{wrong-own, wrong-past, right-more, rows-more}
use Rattle.kq_judge.proofs.judging.first_wrong.Goals as goal

pub returns-then-at-room-clause-wrong : goal.returns-then-at-room-clause-wrong
returns-then-at-room-clause-wrong g c =
    wrong-past c.args.ignored.now (g.V.Views.sees c.args.views.now) c.args.room c.args.kq.now.kq.knotes c.args.own.now
    c.loop-at.at c.loop-at-test.true c.if-at-room.true c.loop-at.invariant.right

pub returns-in-Some-clause-wrong : goal.returns-in-Some-clause-wrong
returns-in-Some-clause-wrong g c =
    wrong-own c.args.ignored.now (g.V.Views.sees c.args.views.now) c.args.room c.args.kq.now.kq.knotes c.args.own.now
    c.loop-at.at _ c.loop-at.returned.rows c.in-Some.fault c.loop-at-test.true (omega arith)
    c.loop-at.invariant.right c.loop-at.invariant.rows c.in-Some.ensures

pub attach-requires-clause-absent : goal.attach-requires-clause-absent
attach-requires-clause-absent g c =
    find_row-none _ (λ a b. search rules) c.key_of.result c.loop-at.returned.rows
    (ap (λ (key : Key). has_key key c.loop-at.returned.rows) c.key_of.ensures ∙ c.in_default.ensures.new)

pub loop-at-preserved : goal.loop-at-preserved
loop-at-preserved g c = record {
  right = right-more c.args.ignored.now (g.V.Views.sees c.args.views.now) c.args.kq.now.kq.knotes c.args.own.now
      c.loop-at.at _ c.loop-at.returned.rows c.loop-at-test.true c.loop-at.invariant.right c.loop-at.invariant.rows
      c.in_default.ensures;
  rows = rows-more c.args.own.now c.loop-at.at _ c.loop-at.returned.rows c.attach.new.self.rows c.key_of.result
      c.loop-at-test.true c.loop-at.invariant.rows c.attach.ensures.rows c.key_of.ensures;
  within = omega arith;
  left = omega arith;
}
