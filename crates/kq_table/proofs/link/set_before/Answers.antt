use Rattle.std.proofs.Common.{sym, ap, ◌∙◌}
use Rattle.slab.specs.Slab.{get}
use Rattle.kq_table.specs.Threads.{links_in, with_before}
use Rattle.kq_table.proofs.NodeLaws.{before-none, before-written, linked-some}
use Rattle.kq_table.proofs.link.set_before.Goals as goal

pub put_links-requires : goal.put_links-requires
put_links-requires g c = linked-some c.args.thread (get c.args.nodes.now c.in-Some.slot) c.in-Some-links_at.links (sym c.in-Some-links_at.ensures)

pub returns-in_default-clause-links : goal.returns-in_default-clause-links
returns-in_default-clause-links g c = ap (λ o. with_before o c.args.before (links_in c.args.thread c.args.nodes.now)) (sym c.in_default.is)

pub returns-in-Some-links_at-clause-links : goal.returns-in-Some-links_at-clause-links
returns-in-Some-links_at-clause-links g c =
    let old = links_in c.args.thread c.args.nodes.now in
    c.put_links.ensures.links
    ∙ before-written c.in-Some.slot old c.args.before c.in-Some-links_at.links (sym c.in-Some-links_at.ensures)
    ∙ ap (λ o. with_before o c.args.before old) (sym c.in-Some.is)

pub returns-in_default-links_at-clause-links : goal.returns-in_default-links_at-clause-links
returns-in_default-links_at-clause-links g c =
    let old = links_in c.args.thread c.args.nodes.now in
    sym (before-none c.in-Some.slot old c.args.before (sym c.in_default-links_at.ensures))
    ∙ ap (λ o. with_before o c.args.before old) (sym c.in-Some.is)
