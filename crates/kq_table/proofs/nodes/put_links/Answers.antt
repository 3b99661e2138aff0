use Rattle.std.proofs.Common.{Some, ap, ◌∙◌}
use Rattle.kq_table.specs.declared.node.Node.{Node}
use Rattle.kq_table.specs.Threads.{links_of}
use Rattle.kq_table.proofs.NodeLaws.{put-read, SameBut-linked, links-with}
use Rattle.kq_table.proofs.nodes.put_links.Goals as goal

pub returns-clause-links : goal.returns-clause-links
returns-clause-links g c =
    let thread = c.args.thread in
    let old = c.index_mut.result.now in
    put-read c.args.nodes.now c.args.slot old c.set_links.new.self c.index_mut.ensures.value (links_of thread) (Some c.args.links)
    (ap (λ (n : Node g.row.T.Denot). links_of thread (Some n)) c.set_links.ensures ∙ links-with thread c.args.links old)

pub returns-clause-same : goal.returns-clause-same
returns-clause-same g c =
    SameBut-linked c.args.nodes.now c.args.slot c.index_mut.result.now c.set_links.new.self c.index_mut.ensures.value c.args.thread c.args.links c.set_links.ensures
