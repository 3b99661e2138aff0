-- An answer more, or none.
use Rattle.std.proofs.Common.{Some, None, rules}
use Rattle.kq_answers.specs.Read.{Says}
use Rattle.kq_answers.proofs.Lines.{none_taken, one_taken}
use Rattle.kq_answers.proofs.reading.take_line.Goals as goal

pub returns-in_ok-map_err-in-Some-clause-taken : goal.returns-in_ok-map_err-in-Some-clause-taken
returns-in_ok-map_err-in-Some-clause-taken c =
    let said : Says c.args.number c.args.before c.args.line.now (Some c.in-Some.answer) = rw c.in-Some.is at c.in_ok-answer.ensures.said in
    one_taken c.args.answers.now.items c.push.new.self.items c.args.number c.args.before c.args.line.now c.in-Some.answer said (search rules)

pub returns-in-None-clause-taken : goal.returns-in-None-clause-taken
returns-in-None-clause-taken c =
    let said : Says c.args.number c.args.before c.args.line.now None = rw c.in-None.is at c.in_ok-answer.ensures.said in
    none_taken c.args.answers.now.items c.args.number c.args.before c.args.line.now said
