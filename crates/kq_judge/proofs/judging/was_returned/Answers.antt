use Rattle.std.proofs.Common.{◌∙◌, rules}
use Rattle.kq_judge.proofs.TableLaws.{find_row-has}
use Rattle.kq_judge.proofs.judging.was_returned.Goals as goal

pub returns : goal.returns
returns c =
    c.contains.ensures ∙ find_row-has _ (λ a b. search rules) c.args.key c.args.returned.now.rows
