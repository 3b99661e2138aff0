-- Where memchr stops is the first line feed.
use Rattle.std.proofs.Common.{◌+◌, add-one, arith}
use Rattle.kq_trace.proofs.Cuts.{first_cut, later_cut, first_uncut, later_uncut, behind, nothing_behind}
use Rattle.kq_trace.proofs.line.first_line.Goals as goal

pub returns-in-Some-clause-first : goal.returns-in-Some-clause-first
returns-in-Some-clause-first c =
    let text = c.args.text.now in let end = c.in-Some.end in let found = c.in-Some.ensures in
    rw (behind text (end + 1), add-one end) (first_cut text end found.0.high (λ j lt e. found.0.before j (omega arith) lt e) found.1)

pub returns-in-Some-clause-later : goal.returns-in-Some-clause-later
returns-in-Some-clause-later c = λ some.
    let text = c.args.text.now in let end = c.in-Some.end in let found = c.in-Some.ensures in
    rw (behind text (end + 1), add-one end) (later_cut text end found.0.high (λ j lt e. found.0.before j (omega arith) lt e) found.1)

pub returns-in-None-clause-first : goal.returns-in-None-clause-first
returns-in-None-clause-first c =
    let text = c.args.text.now in
    rw (nothing_behind text) (first_uncut text (λ j lt e. c.in-None.ensures j (omega arith) lt e))

pub returns-in-None-clause-later : goal.returns-in-None-clause-later
returns-in-None-clause-later c = λ some.
    let text = c.args.text.now in
    rw (nothing_behind text) (later_uncut text some (λ j lt e. c.in-None.ensures j (omega arith) lt e))
