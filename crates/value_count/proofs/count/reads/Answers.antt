use Rattle.std.proofs.Common.{rules}
use Rattle.value_count.proofs.Cuts.{value-some, value-none}
use Rattle.value_count.proofs.count.reads.Goals as goal

pub returns-in-Ok : goal.returns-in-Ok
returns-in-Ok c = value-some _ _ (c.in-Ok.ensures.ok.0) (c.in-Ok.ensures.ok.1)

pub returns : goal.returns
returns c = value-none _ (λ u. c.in-Err-2.ensures.err (search rules) u)
