-- A record more, or all of them.
use Rattle.std.proofs.Common.{◌∙◌, ◌∷◌, ◌++◌, [], take, ap, sym, subst, arith}
use Rattle.std.proofs.lemmas.List.{length-take-le, take_all, take_more}
use Rattle.kq_run.specs.Folding.{Answers}
use Rattle.kq_run.proofs.FoldLemmas.{answers_more, answers_none, answers_one}
use Rattle.kq_run.proofs.fold.answered_piece.Goals as goal

pub loop-event-init : goal.loop-event-init
loop-event-init g c = answers_none g.K.RowSink.took c.args.system.now c.args.rows

pub apply-requires : goal.apply-requires
apply-requires g c =
    let es = c.args.events.now in
    let i = c.loop-event.event-index in
    omega (arith, c.requires, c.loop-event.invariant.1.applied, length-take-le i es (omega (arith, c.loop-event-test.true)), c.loop-event-test.true)

pub loop-event-preserved : goal.loop-event-preserved
loop-event-preserved g c =
    let took = g.K.RowSink.took in
    let es = c.args.events.now in
    let i = c.loop-event.event-index in
    let e = c.event-item.result in
    let old = c.args.system.now in
    let mid = c.loop-event.system in
    let new = c.apply.new.self in
    let rows = c.in_ok-rows.rows in
    subst (λ all. Answers took old c.args.rows new rows all) (sym (take_more es i e c.loop-event-test.true ∙ ap (λ x. take i es ++ x ∷ []) (sym c.event-item.is)))
    (answers_more took old mid new c.args.rows c.loop-event.rows rows (take i es) (e ∷ []) c.loop-event.invariant
    (answers_one took mid new c.loop-event.rows rows e c.in_ok-reply.reply c.applied.result c.in_ok-reply.ensures.reply c.in_ok-reply.ensures.applied c.applied.ensures c.in_ok-rows.ensures))

pub returns : goal.returns
returns g c =
    let es = c.args.events.now in
    subst (λ all. Answers g.K.RowSink.took c.args.system.now c.args.rows c.loop-event.system c.loop-event.rows all)
    (take_all c.loop-event.event-index es c.loop-event-test.false) c.loop-event.invariant
