use Rattle.std.proofs.Common.{◌∙◌, sym}
use Rattle.kq_system.proofs.HappenLemmas.{close_other}
use Rattle.kq_process.specs.Effects.{pair_of}
use Rattle.kq_system.proofs.live.close_one.Goals as goal

pub returns-else-pair-owner-clause-kq : goal.returns-else-pair-owner-clause-kq
returns-else-pair-owner-clause-kq c =
    sym (close_other c.args.kq.now.owner (pair_of c.args.pair) c.args.kq.now.kq
    (λ same. c.if-pair-owner.false (same ∙ sym c.owner.ensures)))
