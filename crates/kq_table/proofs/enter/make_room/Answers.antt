use Rattle.kq_table.specs.declared.node.Thread.TheVariants.{Watch}
use Rattle.kq_table.specs.Threads.{rows_in, links_in}
use Rattle.kq_table.proofs.KeptLaws.{apart-entered}
use Rattle.kq_table.proofs.enter.make_room.Goals as goal

pub returns-clause-entered : goal.returns-clause-entered
returns-clause-entered g c = λ slots linked distinct first counted is.
    c.enter_all.ensures.entered slots linked distinct first counted
    (apart-entered g.T.Key.PartialEq.eq g.T.Target.PartialEq.eq g.T.Keyed.key_of g.T.Keyed.target_of g.met.T.Keyed.one_key (rows_in c.args.nodes.now) (links_in Watch c.args.nodes.now) c.args.index.now c.args.targets.now slots is)
