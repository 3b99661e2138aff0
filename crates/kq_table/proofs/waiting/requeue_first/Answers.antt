use Rattle.std.proofs.Common.{◌∷◌, ℕ, Option, sym, ap, ◌∙◌, subst}
use Rattle.kq_table.specs.declared.node.Ends.{Ends}
use Rattle.kq_table.specs.declared.node.Links.{Links}
use Rattle.kq_table.specs.declared.node.Thread.TheVariants.{Queue}
use Rattle.kq_table.specs.Threads.{links_in, without_slot, put_first, ends_led, passed_over, ends_past, IsQueue}
use Rattle.kq_table.proofs.NodeLaws.{SameBut-trans, same-some}
use Rattle.kq_table.proofs.QueuedLaws.{IsQueue-first}
use Rattle.kq_table.proofs.waiting.requeue_first.Goals as goal

pub link_first-requires : goal.link_first-requires
link_first-requires g c = same-some c.args.nodes.now c.unlink.new.nodes c.args.slot c.unlink.ensures.same.rows c.requires

pub returns-clause-queued : goal.returns-clause-queued
returns-clause-queued g c = λ waits waiting there is.
    let f = links_in Queue c.args.nodes.now in
    let slot = c.args.slot in
    let past = ends_past (f slot) c.args.ends.now in
    let all = slot ∷ without_slot slot waits in
    let links_are =
    c.link_first.ensures.links
    ∙ ap (λ (e : Ends). put_first e.first slot (links_in Queue c.unlink.new.nodes)) c.unlink.ensures.ends
    ∙ ap (put_first past.first slot) c.unlink.ensures.links in
    subst (λ (h : ℕ → Option Links). IsQueue h c.link_first.new.ends all waiting) (sym links_are)
    (subst (λ (e : Ends). IsQueue (put_first past.first slot (passed_over (f slot) f)) e all waiting)
    (sym (c.link_first.ensures.ends ∙ ap (ends_led slot) c.unlink.ensures.ends))
    (IsQueue-first f c.args.ends.now waits waiting slot there is))

pub returns-clause-same : goal.returns-clause-same
returns-clause-same g c = SameBut-trans Queue c.args.nodes.now c.unlink.new.nodes c.link_first.new.nodes c.unlink.ensures.same c.link_first.ensures.same
