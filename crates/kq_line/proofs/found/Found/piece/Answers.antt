-- A member at a time.
use Rattle.std.proofs.Common.{sym, ap, ◌∙◌, arith}
use Rattle.kq_line.specs.Shows.{piece_in}
use Rattle.kq_line.proofs.Pieces.{found_here, not_here, not_there}
use Rattle.kq_line.proofs.found.Found.piece.Goals as goal

pub loop-member-preserved : goal.loop-member-preserved
loop-member-preserved c =
    c.loop-member.invariant
    ∙ not_here c.as_slice-member-items.result.now c.loop-member.member-index _ c.args.name.now
    c.loop-member-test.true (sym c.same.ensures ∙ c.if-same.false)

pub returns-then-same : goal.returns-then-same
returns-then-same c =
    let name = c.args.name.now in
    sym (ap (λ ms. piece_in ms name) (sym c.as_slice-member-items.ensures.value) ∙ c.loop-member.invariant
    ∙ found_here c.as_slice-member-items.result.now c.loop-member.member-index _ name c.loop-member-test.true (sym c.same.ensures ∙ c.if-same.true))

pub returns : goal.returns
returns c =
    let name = c.args.name.now in
    sym (ap (λ ms. piece_in ms name) (sym c.as_slice-member-items.ensures.value) ∙ c.loop-member.invariant
    ∙ not_there c.as_slice-member-items.result.now c.loop-member.member-index name (omega arith))
