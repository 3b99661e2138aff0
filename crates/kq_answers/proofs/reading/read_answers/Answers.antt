-- A line further, a bad line, and the end.
use Rattle.std.proofs.Common.{◌≡◌, ◌<◌, length, arith, rules, tests}
use Rattle.kq_answers.specs.Answers.{answers_in}
use Rattle.kq_answers.proofs.Lines.{all_read, none_yet, one_further, stops}
use Rattle.kq_answers.proofs.reading.read_answers.Goals as goal

pub lines-init : goal.lines-init
unfolding answers_in
lines-init c = record {
  so_far = rw c.new-answers.ensures.items (none_yet c.args.text.now _);
  counted = omega arith;
}

pub lines-preserved : goal.lines-preserved
lines-preserved c =
    let some : 0 < length c.lines.rest.now = search (rules, tests) in
    record {
      so_far = one_further _ c.lines.answers.items _ c.lines.number c.lines.before c.in-Ok.later c.lines.rest.now _ _ c.lines.invariant.so_far
          (c.first_line.ensures.later some) c.in-Ok.ensures.taken;
      counted = omega (arith, c.lines.invariant.counted, c.first_line.ensures.shorter some);
    }

pub returns-in-Err-clause-bad : goal.returns-in-Err-clause-bad
returns-in-Err-clause-bad c =
    let some : 0 < length c.lines.rest.now = search (rules, tests) in
    stops _ c.lines.answers.items c.lines.number c.lines.before c.lines.rest.now _ _ c.in-Err.error c.lines.invariant.so_far
    (c.first_line.ensures.later some) c.in-Err.ensures.bad

pub returns-clause-good : goal.returns-clause-good
returns-clause-good c =
    let none : length c.lines.rest.now ≡ 0 = search (rules, tests) in
    all_read _ c.lines.answers.items c.from_vec.result c.lines.number c.lines.before c.lines.rest.now c.lines.invariant.so_far none (search rules)
