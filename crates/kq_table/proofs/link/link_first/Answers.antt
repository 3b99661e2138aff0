use Rattle.std.proofs.Common.{Some, ap, ◌∙◌}
use Rattle.kq_table.specs.Threads.{with_before}
use Rattle.kq_table.proofs.NodeLaws.{SameBut-trans}
use Rattle.kq_table.proofs.link.link_first.Goals as goal

pub returns-clause-links : goal.returns-clause-links
returns-clause-links g c = c.set_before.ensures.links ∙ ap (with_before c.args.ends.now.first (Some c.args.slot)) c.put_links.ensures.links

pub returns-clause-same : goal.returns-clause-same
returns-clause-same g c = SameBut-trans c.args.thread c.args.nodes.now c.put_links.new.nodes c.set_before.new.nodes c.put_links.ensures.same c.set_before.ensures.same
