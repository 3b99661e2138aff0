use Rattle.std.proofs.Common.{◌∙◌, ◌<◌, length, ap, arith}
use Rattle.kq_process.proofs.Places.{placed, read-any}
use Rattle.kq_process.proofs.search.find.Goals as goal

-- the pair at the guess has the number
pub returns-then-there-number : goal.returns-then-there-number
returns-then-there-number g c =
    let es = c.args.entries.now in
    let i = c.of-guess.result in
    let within : i < length es = omega arith in
    placed c.args.number es i c.requires within
    (λ d. ap (λ e. e.0) (read-any es i d c.index-entries-guess.result within) ∙ c.if-there-number.true)
