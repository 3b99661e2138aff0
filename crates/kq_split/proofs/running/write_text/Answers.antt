-- What was written or kept is by what the input had.
use Rattle.std.proofs.Common.{subst, sym}
use Rattle.std.proofs.lemmas.Result.{on_ok_weaker}
use Rattle.kq_projection.specs.Traced.{traced}
use Rattle.kq_model.proofs.Results.{error_passed}
use Rattle.kq_split.specs.Texts.{IsText}
use Rattle.kq_split.specs.Written.{LeavesBy}
use Rattle.kq_split.proofs.Left.{input-left, part-left, text-left}
use Rattle.kq_split.proofs.running.write_text.Goals as goal

pub returns-in_err-trace-clause-fault : goal.returns-in_err-trace-clause-fault
returns-in_err-trace-clause-fault g c =
    let given = g.I.Read.remaining c.args.input.now in
    let kept = g.O.Write.contents c.args.out.now in
    let fault = c.in_err-trace.field-0.0 in
    error_passed c.from_residual.result fault (λ f. LeavesBy f c.args.wanted given c.args.limit kept kept) c.from_residual.ensures.1
    (input-left c.args.wanted given c.args.limit kept fault c.in_err-trace.ensures.fault)

pub returns-in_err-text-clause-fault : goal.returns-in_err-text-clause-fault
returns-in_err-text-clause-fault g c =
    let given = g.I.Read.remaining c.args.input.now in
    let kept = g.O.Write.contents c.args.out.now in
    let fault = c.in_err-text.field-0.0 in
    error_passed c.from_residual-in_err-text.result fault (λ f. LeavesBy f c.args.wanted given c.args.limit kept kept)
    c.from_residual-in_err-text.ensures.1
    (text-left c.args.wanted given c.args.limit c.in_ok-trace.trace c.in_ok-trace.ensures.trace kept fault c.in_err-text.ensures.fault)

pub returns-clause-fault : goal.returns-clause-fault
returns-clause-fault g c =
    let given = g.I.Read.remaining c.args.input.now in
    let trace = c.in_ok-trace.trace in
    let is : IsText (traced trace) c.args.wanted c.as_slice.result.now = rw c.as_slice.ensures.value c.in_ok-text.ensures.text in
    part-left c.args.wanted given c.args.limit trace c.in_ok-trace.ensures.trace c.write_out.result
    (g.O.Write.contents c.args.out.now) (g.O.Write.contents c.write_out.new.writer) c.as_slice.result.now is
    c.write_out.ensures.part c.write_out.ensures.fault

pub returns-clause-whole : goal.returns-clause-whole
returns-clause-whole g c =
    let trace = c.in_ok-trace.trace in
    let is : IsText (traced trace) c.args.wanted c.as_slice.result.now = rw c.as_slice.ensures.value c.in_ok-text.ensures.text in
    on_ok_weaker c.write_out.result
    (λ wrote. record { trace = trace; read = c.in_ok-trace.ensures.trace; text = c.as_slice.result.now; is = is; wrote = wrote })
    c.write_out.ensures.whole
