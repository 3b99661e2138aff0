use Rattle.std.proofs.Common.{None, refl}
use Rattle.kq_table.specs.declared.node.Thread.TheVariants.{Queue}
use Rattle.kq_table.proofs.NodeLaws.{SameBut-put, links-left}
use Rattle.kq_table.proofs.nodes.leave_queue.Goals as goal

pub returns-clause-same : goal.returns-clause-same
returns-clause-same g c =
    let old = c.index_mut.result.now in
    SameBut-put c.args.nodes.now c.args.slot old (record old { queue = None }) c.index_mut.ensures.value Queue refl refl (links-left old)
