use Rattle.std.proofs.Common.{ℕ}
use Rattle.kq_projection.proofs.SplitNext.{first-said}
use Rattle.kq_projection.proofs.history.message_log.MessageLog.new.Goals as goal

pub returns : goal.returns
returns c =
    λ (version : ℕ).
    first-said version _ c.new-log.ensures.items c.new-kqueues.ensures.places c.new-kqueues.ensures.concerned
