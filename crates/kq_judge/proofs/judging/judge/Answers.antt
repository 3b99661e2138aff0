use Rattle.std.proofs.Common.{List, subst}
use Rattle.kq_model.specs.declared.key.Key.{Key}
use Rattle.kq_judge.specs.Judged.{AreReturned, IsFirstHeldBack}
use Rattle.kq_judge.proofs.JudgeLaws.{wrong-refused, missing-refused, missing-at, full-allowed, whole-allowed}
use Rattle.kq_judge.proofs.judging.judge.Goals as goal

pub returns-in-Some-clause-judged : goal.returns-in-Some-clause-judged
returns-in-Some-clause-judged g c = (
  wrong-refused c.args.ignored.now (g.V.Views.sees c.args.views.now) c.args.room c.args.kq.now.kq c.args.own.now
      c.in-Some.at c.in-Some.fault c.most_waiting-most.ensures.sound c.in-Some.ensures.wrong,
  c.in-Some.ensures.wrong,
)

pub returns-then-own-room-clause-judged : goal.returns-then-own-room-clause-judged
returns-then-own-room-clause-judged g c =
    full-allowed c.args.ignored.now (g.V.Views.sees c.args.views.now) c.args.room c.args.kq.now.kq c.args.own.now
    c.most_waiting-most.ensures.sound c.in_default.ensures.wrong.0 c.if-own-room.true

pub returns-in-None-clause-judged : goal.returns-in-None-clause-judged
returns-in-None-clause-judged g c =
    let views = g.V.Views.sees c.args.views.now in
    let kq = c.args.kq.now.kq in
    whole-allowed c.args.ignored.now views c.args.room kq c.args.own.now c.most_waiting-most.ensures.sound
    c.in_default.ensures.wrong.0 c.in_default.ensures.wrong.1
    (subst (λ (rows : List Key). AreReturned views kq.knotes kq.queue rows) c.in_default.ensures.returned
    c.in-None.ensures)

pub returns-clause-judged : goal.returns-clause-judged
returns-clause-judged g c =
    let views = g.V.Views.sees c.args.views.now in
    let kq = c.args.kq.now.kq in
    let missing = missing-at c.args.ignored.now views c.args.room kq c.args.own.now c.in-Some-first_held_back.key
    c.in_default.ensures.wrong.0 c.in_default.ensures.wrong.1 c.if-own-room.false
    (subst (λ (rows : List Key). IsFirstHeldBack views kq.knotes kq.queue rows c.in-Some-first_held_back.key)
    c.in_default.ensures.returned c.in-Some-first_held_back.ensures) in (
      missing-refused c.args.ignored.now views c.args.room kq c.args.own.now c.in-Some-first_held_back.key
          c.most_waiting-most.ensures.sound missing,
      missing,
    )
