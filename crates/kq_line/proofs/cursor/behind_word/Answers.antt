-- The bytes are those of the word.
use Rattle.std.proofs.Common.{◌≡◌, ◌≤◌, ◌-◌, ◌++◌, length, take, drop, subst, arith}
use Rattle.kq_line.proofs.MemberSteps.{rest_cut}
use Rattle.kq_line.proofs.cursor.behind_word.Goals as goal

pub returns-clause-cut : goal.returns-clause-cut
returns-clause-cut g c =
    let word = c.args.word.now in
    let text = c.args.text.now in
    let sized : length word ≡ g.row.N = omega arith in
    let all : length word ≤ c.loop-place.place = omega arith in
    subst (λ n. text ≡ word ++ take (length text - n) (drop n text)) sized
    (rest_cut word text (omega arith) (λ k below. c.loop-place.invariant k (omega (arith, below, all))))
