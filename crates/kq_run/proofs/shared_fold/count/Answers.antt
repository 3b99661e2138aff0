-- A piece more, or all of them.
use Rattle.std.proofs.Common.{Vec, Global, ◌≡◌, ◌∙◌, ◌+◌, ◌∷◌, ◌++◌, [], take, length, ap, sym, arith, append-nil, length-append}
use Rattle.std.proofs.lemmas.Grind.{flat_map-append}
use Rattle.std.proofs.lemmas.List.{take_all, take_more}
use Rattle.std.proofs.lemmas.List.Folds.{length-flat_map-take}
use Rattle.kq_model.specs.declared.event.Event.{Event}
use Rattle.kq_shares.specs.Going.{events_in}
use Rattle.kq_run.proofs.shared_fold.count.Goals as goal

pub overflow_add-count : goal.overflow_add-count
overflow_add-count c =
    let ps = c.args.pieces.now in
    let i = c.loop-piece.piece-index in
    let few = length-flat_map-take (λ (p : Vec Event Global). p.items) ps i c.piece-item.result c.loop-piece-test.true in
    let here = ap (λ (p : Vec Event Global). length p.items) c.piece-item.is in
    omega (arith, c.requires, c.loop-piece.invariant, few, here, c.len.ensures)

pub loop-piece-preserved : goal.loop-piece-preserved
loop-piece-preserved c =
    let ps = c.args.pieces.now in
    let i = c.loop-piece.piece-index in
    let piece = c.piece-item.result in
    let one : take (i + 1) ps ≡ take i ps ++ piece ∷ [] = take_more ps i piece c.loop-piece-test.true ∙ ap (λ p. take i ps ++ p ∷ []) (sym c.piece-item.is) in
    let all : events_in (take (i + 1) ps) ≡ events_in (take i ps) ++ piece.items =
    ap events_in one ∙ flat_map-append (λ (p : Vec Event Global). p.items) (take i ps) (piece ∷ []) ∙ ap (λ es. events_in (take i ps) ++ es) (append-nil piece.items) in
    let count = ap length all ∙ length-append (events_in (take i ps)) piece.items in
    omega (arith, c.loop-piece.invariant, c.len.ensures, count)

pub returns : goal.returns
returns c =
    c.loop-piece.invariant ∙ ap (λ ps. length (events_in ps)) (take_all c.loop-piece.piece-index c.args.pieces.now c.loop-piece-test.false)
