use Rattle.std.proofs.Common.{Vec, Global, ◌≡◌, ◌∙◌, ◌+◌, ◌∷◌, ◌++◌, [], List, take, length, ap, sym, subst, arith, append-nil}
use Rattle.std.proofs.lemmas.Grind.{flat_map-append}
use Rattle.std.proofs.lemmas.List.{take_all, take_more}
use Rattle.std.proofs.lemmas.List.Folds.{length-flat_map-take}
use Rattle.kq_model.specs.declared.event.Event.{Event}
use Rattle.kq_model.specs.declared.row.Row.{Row}
use Rattle.kq_system.specs.Sharing.{ShareState}
use Rattle.kq_shares.specs.Going.{events_in, HasGone}
use Rattle.kq_shares.proofs.GoneLemmas.{gone-more, gone-none}
use Rattle.kq_shares.proofs.going.go_over.Goals as goal

pub loop-piece-init : goal.loop-piece-init
loop-piece-init c =
    subst (λ rows. HasGone c.args.share.value [] c.args.share.value rows) (sym c.new-rows.ensures.items) (gone-none c.args.share.value)

pub go_over_piece-requires : goal.go_over_piece-requires
go_over_piece-requires c =
    let ps = c.args.pieces.now in
    let i = c.loop-piece.piece-index in
    let piece = c.piece-item.result in
    let few = length-flat_map-take (λ (p : Vec Event Global). p.items) ps i piece c.loop-piece-test.true in
    let here = ap (λ (p : Vec Event Global). length p.items) c.piece-item.is in
    let at = ap (λ (s : ShareState). s.state.applied) c.deref_mut.ensures.value in
    omega (arith, c.requires, c.loop-piece.invariant.applied, few, here, at, ap length c.as_slice.ensures.value)

pub loop-piece-preserved : goal.loop-piece-preserved
loop-piece-preserved c =
    let ps = c.args.pieces.now in
    let i = c.loop-piece.piece-index in
    let piece = c.piece-item.result in
    let old = c.args.share.value in
    let mid = c.loop-piece.share.value in
    let new = c.go_over_piece.new.share in
    let one : take (i + 1) ps ≡ take i ps ++ piece ∷ [] = take_more ps i piece c.loop-piece-test.true ∙ ap (λ p. take i ps ++ p ∷ []) (sym c.piece-item.is) in
    let all : events_in (take (i + 1) ps) ≡ events_in (take i ps) ++ piece.items =
    ap events_in one ∙ flat_map-append (λ (p : Vec Event Global). p.items) (take i ps) (piece ∷ []) ∙ ap (λ es. events_in (take i ps) ++ es) (append-nil piece.items) in
    let (more, gone, are) = c.in_ok-go_over_piece.ensures in
    let here : HasGone mid piece.items new more =
    subst (λ (s : ShareState). HasGone s piece.items new more) c.deref_mut.ensures.value
    (subst (λ es. HasGone c.deref_mut.result.now es new more) c.as_slice.ensures.value gone) in
    subst (λ (rows : List Row). HasGone old (events_in (take (i + 1) ps)) new rows) (sym are)
    (subst (λ es. HasGone old es new (c.loop-piece.rows.items ++ more)) (sym all)
    (gone-more old mid new (events_in (take i ps)) piece.items c.loop-piece.rows.items more c.loop-piece.invariant here))

pub returns : goal.returns
returns c =
    subst (λ ps. HasGone c.args.share.value (events_in ps) c.loop-piece.share.value c.loop-piece.rows.items)
    (take_all c.loop-piece.piece-index c.args.pieces.now c.loop-piece-test.false) c.loop-piece.invariant
