-- The shares of the empty system.
use Rattle.kq_run.specs.declared.shared_fold.SharedFold.{SharedFold}
use Rattle.kq_run.proofs.SharedLemmas.{shared-begun}
use Rattle.std.proofs.Common.{refl}
use Rattle.kq_run.proofs.shared_fold.SharedFold.new.Goals as goal

pub returns : goal.returns
returns c =
    let new : SharedFold = record { shares = c.in_ok-shares.shares; records = 0; text = c.new-text.result; waiting = c.new-waiting.result } in
    shared-begun c.args.version new c.in_ok-shares.ensures refl c.new-text.ensures c.new-waiting.ensures.items
