use Rattle.std.proofs.Common.{Some, ap, ◌∙◌}
use Rattle.kq_table.specs.Threads.{with_after}
use Rattle.kq_table.proofs.NodeLaws.{SameBut-trans}
use Rattle.kq_table.proofs.link.link_last.Goals as goal

pub returns-clause-links : goal.returns-clause-links
returns-clause-links g c = c.set_after.ensures.links ∙ ap (with_after c.args.ends.now.last (Some c.args.slot)) c.put_links.ensures.links

pub returns-clause-same : goal.returns-clause-same
returns-clause-same g c = SameBut-trans c.args.thread c.args.nodes.now c.put_links.new.nodes c.set_after.new.nodes c.put_links.ensures.same c.set_after.ensures.same
