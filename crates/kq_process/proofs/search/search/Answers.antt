use Rattle.std.proofs.Common.{◌≡◌, ◌∙◌, ◌<◌, ◌≤◌, length, get_or, sym, ap, subst, arith}
use Rattle.kq_process.proofs.Places.{AreHigher, AreLower, gap, higher-from, lower-after, placed, read-any}
use Rattle.kq_process.proofs.search.search.Goals.{then-there-number-2, else-there-number-2}
use Rattle.kq_process.proofs.search.search.Goals as goal

-- the pair at the guess has the number
pub returns-then-there-number : goal.returns-then-there-number
returns-then-there-number g c =
    let es = c.args.entries.now in
    let i = c.guess-middle.result in
    let within : i < length es = omega arith in
    placed c.args.number es i c.requires within
    (λ d. ap (λ e. e.0) (read-any es i d c.index-entries-middle.result within) ∙ c.if-there-number.true)

-- the pair at the guess is on the one side or on the other
pub loop-low-preserved : goal.loop-low-preserved
loop-low-preserved g c =
    let es = c.args.entries.now in
    let n = c.args.number in
    let i = c.guess-middle.result in
    let there = c.index-entries-middle.result in
    let within : i < length es = omega arith in
    elim c.if-there-number-2.branch [
      | then-there-number-2 w ↦ record {
        ordered = omega arith;
        within = omega arith;
        lower = subst (λ k. AreLower n es k) (sym w.low-is)
            (lower-after n es i c.requires within (λ d. let same : (get_or es i d).0 ≡ (get_or es i there).0 = ap (λ e. e.0) (read-any es i d there within) in omega arith));
        higher = subst (λ k. AreHigher n es k) (sym w.high-is) c.loop-low.invariant.higher;
      }
      | else-there-number-2 w ↦ record {
        ordered = omega arith;
        within = omega arith;
        lower = subst (λ k. AreLower n es k) (sym w.low-is) c.loop-low.invariant.lower;
        higher = subst (λ k. AreHigher n es k) (sym w.high-is)
            (higher-from n es i c.requires within (λ d. let same : (get_or es i d).0 ≡ (get_or es i there).0 = ap (λ e. e.0) (read-any es i d there within) in omega arith));
      }
    ]

-- nothing is left between what is lower and what is higher
pub returns : goal.returns
returns g c =
    let es = c.args.entries.now in
    let n = c.args.number in
    let met : c.loop-low.high ≡ c.loop-low.low = omega arith in
    let within : c.loop-low.low ≤ length es = omega arith in
    gap n es c.loop-low.low c.requires within c.loop-low.invariant.lower
    (subst (λ k. AreHigher n es k) met c.loop-low.invariant.higher)
