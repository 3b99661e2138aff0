use Rattle.std.proofs.Common.{ap, ◌∙◌}
use Rattle.kq_table.specs.Threads.{with_before}
use Rattle.kq_table.proofs.NodeLaws.{SameBut-trans}
use Rattle.kq_table.proofs.link.join.Goals as goal

pub returns-clause-links : goal.returns-clause-links
returns-clause-links g c = c.set_before.ensures.links ∙ ap (with_before c.args.after c.args.before) c.set_after.ensures.links

pub returns-clause-same : goal.returns-clause-same
returns-clause-same g c = SameBut-trans c.args.thread c.args.nodes.now c.set_after.new.nodes c.set_before.new.nodes c.set_after.ensures.same c.set_before.ensures.same
