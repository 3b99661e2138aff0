-- One event more is handed out, or all that the array holds.
use Rattle.std.proofs.Common.{◌≡◌, ◌+◌, suc, ◌∙◌, ap, arith, take, slice_set, sym}
use Rattle.kq_freebsd.specs.Kevents.{handed_out}
use Rattle.kq_freebsd.proofs.Lists.{all_out, none_out, one_more}
use Rattle.kq_freebsd.proofs.c_kevent.hand_out.Goals as goal

pub loop-i-init : goal.loop-i-init
loop-i-init c = sym (none_out c.args.array.now)

pub loop-i-preserved : goal.loop-i-preserved
loop-i-preserved c =
    let es = c.args.events.now in
    let slots = c.args.array.now in
    let i = c.loop-i.i in
    let one : suc i ≡ i + 1 = omega arith in
    ap (λ xs. slice_set xs i c.as_c.result) c.loop-i.invariant
    ∙ ap (λ r. slice_set (handed_out (take i es) slots) i r) c.as_c.ensures
    ∙ one_more es slots i _ (omega (arith, c.loop-i-test.true, c.lesser-count.ensures.within_a))
    (omega (arith, c.loop-i-test.true, c.lesser-count.ensures.within_b))
    ∙ ap (λ n. handed_out (take n es) slots) one

pub returns-clause-array : goal.returns-clause-array
returns-clause-array c =
    let n = c.lesser-count.result in
    let all : c.loop-i.i ≡ n = omega (arith, c.loop-i-test.false, c.loop-i.auto.i-end) in
    c.loop-i.invariant ∙ ap (λ i. handed_out (take i c.args.events.now) c.args.array.now) all
    ∙ all_out c.args.events.now c.args.array.now n c.lesser-count.ensures.within_a c.lesser-count.ensures.one
