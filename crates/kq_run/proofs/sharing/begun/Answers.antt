-- Two kqueues are made where there are shares.
use Rattle.std.proofs.Common.{[], arith}
use Rattle.std.proofs.lemmas.Result.{IfOk-weaker}
use Rattle.kq_run.proofs.sharing.begun.Goals as goal

pub returns : goal.returns
returns g c =
    let few = c.shares_for-shares.ensures.births in
    let count = c.len.ensures in
    let more = c.if-shares-lt2.false in
    IfOk-weaker c.shared.result _ _
    (λ next goes. goes c.args.version [] c.in_ok-fold-2.ensures (c.in_ok-births.ensures c.args.version (omega (arith, few, count, more))))
    c.shared.ensures
