use Rattle.std.proofs.Common.{◌≡◌, ◌∙◌, ◌∷◌, ◌++◌, [], List, take, ap, sym, subst, arith, append-nil, append_assoc}
use Rattle.std.proofs.lemmas.List.{length-take-le, take_all, take_more}
use Rattle.kq_model.specs.declared.row.Row.{Row}
use Rattle.kq_model.specs.System.{row_of}
use Rattle.kq_shares.specs.Going.{HasGone}
use Rattle.kq_shares.proofs.GoneLemmas.{gone-more, gone-none, gone-one}
use Rattle.kq_shares.proofs.going.go_over_piece.Goals as goal

pub loop-event-init : goal.loop-event-init
loop-event-init c = ([], gone-none c.args.share.now, sym (append-nil _))

pub apply-requires : goal.apply-requires
apply-requires c =
    let es = c.args.events.now in
    let i = c.loop-event.event-index in
    omega (arith, c.requires, c.loop-event.invariant.1.applied, length-take-le i es (omega (arith, c.loop-event-test.true)), c.loop-event-test.true)

pub loop-event-preserved : goal.loop-event-preserved
loop-event-preserved c =
    let es = c.args.events.now in
    let i = c.loop-event.event-index in
    let e = c.event-item.result in
    let old = c.args.share.now in
    let mid = c.loop-event.share in
    let new = c.apply.new.self in
    let (more, gone, are) = c.loop-event.invariant in
    let here = row_of c.applied.result c.in_ok-reply.reply in
    let one = gone-one mid new e c.in_ok-reply.reply c.applied.result c.in_ok-reply.ensures.reply c.in_ok-reply.ensures.applied
    c.in_ok-reply.ensures.number c.in_ok-reply.ensures.dealing c.applied.ensures in (
      more ++ here,
      subst (λ all. HasGone old all new (more ++ here)) (sym (take_more es i e c.loop-event-test.true ∙ ap (λ x. take i es ++ x ∷ []) (sym c.event-item.is)))
          (gone-more old mid new (take i es) (e ∷ []) more here gone one),
      c.in_ok-put_row.ensures ∙ ap (λ rs. rs ++ here) are ∙ append_assoc c.args.rows.now.items more here,
    )

pub returns : goal.returns
returns c =
    let es = c.args.events.now in
    subst (λ all. (more : List Row) × HasGone c.args.share.now all c.loop-event.share more
    × (c.loop-event.rows.items ≡ c.args.rows.now.items ++ more))
    (take_all c.loop-event.event-index es c.loop-event-test.false) c.loop-event.invariant
