-- No answer, one of another place, and that of the place.
use Rattle.std.proofs.Common.{◌≡◌, ◌<◌, length, arith, rules, tests}
use Rattle.kq_check.proofs.FirstAnswer.{no_answer, none_behind, other_answer, other_behind, this_answer, this_behind}
use Rattle.kq_check.proofs.judging.answer_at.Goals as goal

pub returns-then-is_empty-clause-given : goal.returns-then-is_empty-clause-given
returns-then-is_empty-clause-given c = no_answer c.args.place c.args.answers.now (search (rules, tests))

pub returns-then-is_empty-clause-behind : goal.returns-then-is_empty-clause-behind
returns-then-is_empty-clause-behind c = none_behind c.args.place c.args.answers.now (search (rules, tests))

pub returns-then-answers-place-clause-given : goal.returns-then-answers-place-clause-given
returns-then-answers-place-clause-given c =
    let some : 0 < length c.args.answers.now = search (rules, tests) in
    other_answer c.args.place c.args.answers.now c.index-answers-0.result some c.if-answers-place.true

pub returns-then-answers-place-clause-behind : goal.returns-then-answers-place-clause-behind
returns-then-answers-place-clause-behind c =
    let some : 0 < length c.args.answers.now = search (rules, tests) in
    other_behind c.args.place c.args.answers.now c.index-answers-0.result some c.if-answers-place.true

pub returns-clause-given : goal.returns-clause-given
returns-clause-given c =
    let some : 0 < length c.args.answers.now = search (rules, tests) in
    this_answer c.args.place c.args.answers.now c.index-answers-0.result c.index-answers-0-2.result some
    c.if-answers-place.false

pub returns-clause-behind : goal.returns-clause-behind
returns-clause-behind c =
    let some : 0 < length c.args.answers.now = search (rules, tests) in
    this_behind c.args.place c.args.answers.now c.index-answers-0.result some c.if-answers-place.false
