use Rattle.kq_merge.proofs.Fitting.{reply_fits}
use Rattle.kq_live.proofs.machine.LiveMachineMachine.apply.Goals as goal

pub copy_of-copy-requires : goal.copy_of-copy-requires
copy_of-copy-requires c = reply_fits _ _ _ _ _ c.in_ok-reply.ensures.reply.1 c.in_ok-spare.ensures
