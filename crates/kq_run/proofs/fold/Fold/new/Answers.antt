-- The empty system.
use Rattle.std.proofs.Common.{rules}
use Rattle.kq_run.proofs.FoldLemmas.{begun}
use Rattle.kq_run.proofs.fold.Fold.new.Goals as goal

pub returns : goal.returns
returns c =
    begun c.args.version (record { system = c.in_ok-system-2.system; text = c.new-3.result; waiting = c.new-4.result })
    (search rules) (search rules) c.new-3.ensures (search rules)
