-- A piece more, or all of them.
use Rattle.std.proofs.Common.{Vec, Global, ◌≡◌, ◌∙◌, ◌+◌, ◌∷◌, ◌++◌, [], take, length, ap, sym, subst, arith, append-nil}
use Rattle.std.proofs.lemmas.Grind.{flat_map-append}
use Rattle.std.proofs.lemmas.List.{take_all, take_more}
use Rattle.std.proofs.lemmas.List.Folds.{length-flat_map-take}
use Rattle.kq_model.specs.declared.event.Event.{Event}
use Rattle.kq_trace.proofs.TakenParts.{events_in}
use Rattle.kq_run.specs.Folding.{Answers}
use Rattle.kq_run.proofs.FoldLemmas.{answers_more, answers_none}
use Rattle.kq_run.proofs.fold.answered.Goals as goal

pub loop-piece-init : goal.loop-piece-init
loop-piece-init g c = answers_none g.K.RowSink.took c.args.system.now c.args.rows

pub answered_piece-requires : goal.answered_piece-requires
answered_piece-requires g c =
    let ps = c.args.pieces.now in
    let i = c.loop-piece.piece-index in
    let piece = c.piece-item.result in
    let few = length-flat_map-take (λ (p : Vec Event Global). p.items) ps i piece c.loop-piece-test.true in
    let here = ap (λ (p : Vec Event Global). length p.items) c.piece-item.is in
    omega (arith, c.requires, c.loop-piece.invariant.1.applied, few, here, ap length c.as_slice.ensures.value)

pub loop-piece-preserved : goal.loop-piece-preserved
loop-piece-preserved g c =
    let took = g.K.RowSink.took in
    let ps = c.args.pieces.now in
    let i = c.loop-piece.piece-index in
    let piece = c.piece-item.result in
    let old = c.args.system.now in
    let mid = c.loop-piece.system in
    let new = c.answered_piece.new.system in
    let rows = c.in_ok-rows.rows in
    let one : take (i + 1) ps ≡ take i ps ++ piece ∷ [] = take_more ps i piece c.loop-piece-test.true ∙ ap (λ p. take i ps ++ p ∷ []) (sym c.piece-item.is) in
    let all : events_in (take (i + 1) ps) ≡ events_in (take i ps) ++ piece.items =
    ap events_in one ∙ flat_map-append (λ (p : Vec Event Global). p.items) (take i ps) (piece ∷ []) ∙ ap (λ es. events_in (take i ps) ++ es) (append-nil piece.items) in
    subst (λ es. Answers took old c.args.rows new rows es) (sym all)
    (answers_more took old mid new c.args.rows c.loop-piece.rows rows (events_in (take i ps)) piece.items c.loop-piece.invariant
    (subst (λ es. Answers took mid c.loop-piece.rows new rows es) c.as_slice.ensures.value c.in_ok-rows.ensures))

pub returns : goal.returns
returns g c =
    subst (λ ps. Answers g.K.RowSink.took c.args.system.now c.args.rows c.loop-piece.system c.loop-piece.rows (events_in ps))
    (take_all c.loop-piece.piece-index c.args.pieces.now c.loop-piece-test.false) c.loop-piece.invariant
