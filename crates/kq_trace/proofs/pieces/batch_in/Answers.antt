-- No line is left, since no list of lines is so long.
use Rattle.std.proofs.Common.{◌≡◌, ◌++◌, [], rules, sym, ap, subst, ◌∙◌, append-nil, arith}
use Rattle.kq_trace.specs.Batches.{IsReadAs}
use Rattle.kq_trace.specs.Rest.{lines_behind, texts}
use Rattle.kq_trace.proofs.LinesCut.{no_lines}
use Rattle.kq_trace.proofs.TraceLines.{empty_list}
use Rattle.kq_trace.proofs.pieces.batch_in.Goals as goal

pub returns-in-Ok : goal.returns-in-Ok
returns-in-Ok c =
    let lines = c.in-Ok.lines in
    let rest = c.in-Ok.field-0-1.now in
    let none : rest ≡ [] = empty_list rest (search (rules, arith)) in
    let all : texts c.as_slice.result.now ≡ lines_behind c.args.piece.now =
    ap texts c.as_slice.ensures.value
    ∙ sym (c.in-Ok.ensures.all ∙ ap (λ t. texts lines.items ++ lines_behind t) none ∙ ap (λ l. texts lines.items ++ l) no_lines
    ∙ append-nil (texts lines.items)) in
    subst (λ ls. IsReadAs ls c.batch_of.result) all c.batch_of.ensures
