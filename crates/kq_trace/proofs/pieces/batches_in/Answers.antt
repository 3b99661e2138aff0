-- The pieces, and what each was decoded to.
use denote.Ref.{Bor}
use Rattle.std.proofs.Common.{ap, List, ℕ, ◌∙◌}
use Rattle.rayon.specs.Lists.{min_len_base}
use Rattle.rayon.proofs.ListFacts.{IfOk-then}
use Rattle.rayon.proofs.ToStd.{slice-AllZip}
use Rattle.kq_trace.specs.declared.batches.Batch.{Batch}
use Rattle.kq_trace.specs.Batches.{IsReadAs}
use Rattle.kq_trace.specs.Rest.{lines_behind}
use Rattle.kq_trace.proofs.PieceLines.{pieces_read}
use Rattle.kq_trace.proofs.pieces.batches_in.Goals as goal

pub returns : goal.returns
returns g c =
    let base = ap min_len_base c.map.ensures.base ∙ c.with_min_len.ensures.base in
    let slice = ap (λ it. it.slice.now) base ∙ c.par_iter.ensures in
    IfOk-then c.collect.result _ _ c.collect.ensures (λ v h.
    let chain = h.1 in
    rw h.2 (pieces_read c.args.pieces.now h.0
    (slice-AllZip chain.0 c.args.pieces.now (chain.1 ∙ slice) (λ (piece : Bor (List ℕ)) (b : Batch). IsReadAs (lines_behind piece.now) b) h.0 chain.2)))
