-- Each way out, by what was read and written so far.
use Rattle.std.proofs.Common.{◌∙◌, subst, sym}
use Rattle.std.specs.Io.KnownBytes.{Appends, prepend_known}
use Rattle.kq_input.specs.Unread.{TookLine}
use Rattle.kq_model.proofs.Results.{error_passed}
use Rattle.kq_step.specs.Answering.{LeavesBy}
use Rattle.kq_step.specs.SoFar.{FromSoFar}
use Rattle.kq_step.proofs.SoFar.{all_answered, answer_refused, end_cut, end_refused, line_refused, next_answered, next_cut, read_failed, standing_of}
use Rattle.kq_step.proofs.answering.answer_next.Goals as goal

pub returns-in_err-write_out-in-Ok-true-clause-fault : goal.returns-in_err-write_out-in-Ok-true-clause-fault
returns-in_err-write_out-in-Ok-true-clause-fault g c =
    let left = prepend_known c.args.lines.now.waiting (g.I.Read.remaining c.args.input.now) in
    let later = prepend_known c.next.new.self.waiting (g.I.Read.remaining c.next.new.input) in
    let out = g.O.Write.contents c.args.out.now in
    let end = g.O.Write.contents c.write_out.new.writer in
    let stood = c.args.stepping.now in
    let line = c.line.result.now in
    let next : TookLine 1048577 left later line =
    subst (TookLine 1048577 left later) (sym c.line.ensures.kept) (c.in-Ok-true.ensures.taken c.in-Ok-true.field-0-test) in
    let part = c.in_err-write_out-in-Ok-true.ensures.part in
    let said = c.in-Ok.ensures.said in
    error_passed c.from_residual.result c.in_err-write_out-in-Ok-true.field-0.0
    (λ fault. FromSoFar left out c.args.number stood (λ given before. LeavesBy given (g.I.Read.remaining c.next.new.input) before end fault))
    c.from_residual.ensures.1
    (λ given before so_far. subst (LeavesBy given (g.I.Read.remaining c.next.new.input) before end) (sym c.in_err-write_out-in-Ok-true.ensures.fault)
    (next_cut given before left later out end c.args.number stood line part.0 part.1 so_far next
    (sym (said (standing_of so_far) so_far.at) ∙ sym c.deref.ensures.value ∙ part.2) part.3))

pub returns-in_err-write_out-in-Ok-false-clause-fault : goal.returns-in_err-write_out-in-Ok-false-clause-fault
returns-in_err-write_out-in-Ok-false-clause-fault g c =
    let left = prepend_known c.args.lines.now.waiting (g.I.Read.remaining c.args.input.now) in
    let out = g.O.Write.contents c.args.out.now in
    let end = g.O.Write.contents c.write_out-in-Ok-false.new.writer in
    let stood = c.args.stepping.now in
    let part = c.in_err-write_out-in-Ok-false.ensures.part in
    let said = c.in-Ok-end.ensures in
    error_passed c.from_residual-in_err-write_out-in-Ok-false.result c.in_err-write_out-in-Ok-false.field-0.0
    (λ fault. FromSoFar left out c.args.number stood (λ given before. LeavesBy given (g.I.Read.remaining c.next.new.input) before end fault))
    c.from_residual-in_err-write_out-in-Ok-false.ensures.1
    (λ given before so_far. subst (LeavesBy given (g.I.Read.remaining c.next.new.input) before end) (sym c.in_err-write_out-in-Ok-false.ensures.fault)
    (end_cut given before left out end c.args.number stood part.0 part.1 so_far
    (sym (c.deref-in-Ok-false.ensures.value ∙ said (standing_of so_far) so_far.at) ∙ part.2) part.3))

pub returns-in_ok-write_out-in-Ok-true-clause-more : goal.returns-in_ok-write_out-in-Ok-true-clause-more
returns-in_ok-write_out-in-Ok-true-clause-more g c =
    let left = prepend_known c.args.lines.now.waiting (g.I.Read.remaining c.args.input.now) in
    let later = prepend_known c.next.new.self.waiting (g.I.Read.remaining c.next.new.input) in
    let out = g.O.Write.contents c.args.out.now in
    let end = g.O.Write.contents c.write_out.new.writer in
    let line = c.line.result.now in
    let next : TookLine 1048577 left later line =
    subst (TookLine 1048577 left later) (sym c.line.ensures.kept) (c.in-Ok-true.ensures.taken c.in-Ok-true.field-0-test) in
    let has = c.in-Ok.ensures in
    λ some given before so_far. next_answered given before left later out end c.args.number c.args.stepping.now c.answer.new.self line so_far next
    (has.at (standing_of so_far) so_far.at)
    (subst (Appends out end) (c.deref.ensures.value ∙ has.said (standing_of so_far) so_far.at) c.in_ok-write_out-in-Ok-true.ensures.whole)

pub returns-in_ok-write_out-in-Ok-false-clause-all : goal.returns-in_ok-write_out-in-Ok-false-clause-all
returns-in_ok-write_out-in-Ok-false-clause-all g c =
    let left = prepend_known c.args.lines.now.waiting (g.I.Read.remaining c.args.input.now) in
    let later = prepend_known c.next.new.self.waiting (g.I.Read.remaining c.next.new.input) in
    let out = g.O.Write.contents c.args.out.now in
    let end = g.O.Write.contents c.write_out-in-Ok-false.new.writer in
    let said = c.in-Ok-end.ensures in
    λ none given before so_far. all_answered given before left later out end c.args.number c.args.stepping.now so_far
    (c.in-Ok-false.ensures.last c.in-Ok-false.field-0-test)
    (subst (Appends out end) (c.deref-in-Ok-false.ensures.value ∙ said (standing_of so_far) so_far.at) c.in_ok-write_out-in-Ok-false.ensures.whole)

pub returns-in_default-clause-fault : goal.returns-in_default-clause-fault
returns-in_default-clause-fault g c = λ given before so_far.
    let left = prepend_known c.args.lines.now.waiting (g.I.Read.remaining c.args.input.now) in
    let rest = g.I.Read.remaining c.next.new.input in
    let out = g.O.Write.contents c.args.out.now in
    let waiting = c.next.new.self.waiting in
    let line = c.next.new.self.line in
    answer_refused given before left rest out waiting line c.args.number c.args.stepping.now so_far
    (c.in-Ok-true.ensures.taken c.in-Ok-true.field-0-test) c.in-Ok-true.ensures.few

pub returns-in_default-end-clause-fault : goal.returns-in_default-end-clause-fault
returns-in_default-end-clause-fault g c = λ given before so_far.
    let left = prepend_known c.args.lines.now.waiting (g.I.Read.remaining c.args.input.now) in
    let rest = g.I.Read.remaining c.next.new.input in
    let out = g.O.Write.contents c.args.out.now in
    let waiting = c.next.new.self.waiting in
    end_refused given before left rest out waiting c.args.number c.args.stepping.now so_far
    (c.in-Ok-false.ensures.kept c.in-Ok-false.field-0-test) c.in-Ok-false.ensures.few

pub returns-in-Err-Read-clause-fault : goal.returns-in-Err-Read-clause-fault
returns-in-Err-Read-clause-fault g c = λ given before so_far.
    let left = prepend_known c.args.lines.now.waiting (g.I.Read.remaining c.args.input.now) in
    let rest = g.I.Read.remaining c.next.new.input in
    let out = g.O.Write.contents c.args.out.now in
    let waiting = c.next.new.self.waiting in
    let line = c.next.new.self.line in
    read_failed given before left rest out waiting line c.args.number c.args.stepping.now so_far
    c.in-Err-Read.ensures.part (c.in-Err-Read.ensures.read c.in-Err-Read.field-0-is)

pub returns-in-Err-Memory-clause-fault : goal.returns-in-Err-Memory-clause-fault
returns-in-Err-Memory-clause-fault g c = λ given before so_far.
    let left = prepend_known c.args.lines.now.waiting (g.I.Read.remaining c.args.input.now) in
    let rest = g.I.Read.remaining c.next.new.input in
    let out = g.O.Write.contents c.args.out.now in
    let waiting = c.next.new.self.waiting in
    let line = c.next.new.self.line in
    line_refused given before left rest out waiting line c.args.number c.args.stepping.now so_far
    c.in-Err-Memory.ensures.part c.in-Err-Memory.ensures.few
