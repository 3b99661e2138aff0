use Rattle.std.proofs.Common.{rules}
use Rattle.kq_system.specs.Dealing.{share_for}
use Rattle.kq_system.proofs.dealing.Dealing.share_for.Goals as goal

pub returns : goal.returns
unfolding share_for
returns c = search rules
