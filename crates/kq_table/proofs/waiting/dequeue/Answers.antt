use Rattle.std.proofs.Common.{◌-◌, ℕ, Option, None, sym, ap, ◌∙◌, subst}
use Rattle.kq_table.specs.declared.node.Ends.{Ends}
use Rattle.kq_table.specs.declared.node.Links.{Links}
use Rattle.kq_table.specs.declared.node.Thread.TheVariants.{Queue}
use Rattle.kq_table.specs.Threads.{links_in, without_slot, written, passed_over, IsQueue}
use Rattle.kq_table.proofs.NodeLaws.{SameBut-trans, same-some}
use Rattle.kq_table.proofs.QueuedLaws.{IsQueue-out, IsQueue-absent}
use Rattle.kq_table.proofs.waiting.dequeue.Goals as goal

pub leave_queue-requires : goal.leave_queue-requires
leave_queue-requires g c = same-some c.args.nodes.now c.unlink.new.nodes c.args.slot c.unlink.ensures.same.rows c.requires

pub returns-clause-queued : goal.returns-clause-queued
returns-clause-queued g c = λ waits is.
    let f = links_in Queue c.args.nodes.now in
    let slot = c.args.slot in
    let left = without_slot slot waits in
    subst (λ (n : ℕ). IsQueue (links_in Queue c.leave_queue.new.nodes) c.unlink.new.ends left n) (sym c.saturating_sub.ensures)
    (subst (λ (h : ℕ → Option Links). IsQueue h c.unlink.new.ends left (c.args.waiting.now - 1)) (sym (c.leave_queue.ensures.links ∙ ap (written slot None) c.unlink.ensures.links))
    (subst (λ (e : Ends). IsQueue (written slot None (passed_over (f slot) f)) e left (c.args.waiting.now - 1)) (sym c.unlink.ensures.ends)
    (IsQueue-out f c.args.queue.now waits c.args.waiting.now slot _ (sym c.in-Some.ensures) is)))

pub returns-clause-same : goal.returns-clause-same
returns-clause-same g c = SameBut-trans Queue c.args.nodes.now c.unlink.new.nodes c.leave_queue.new.nodes c.unlink.ensures.same c.leave_queue.ensures.same

pub returns-in_default-clause-queued : goal.returns-in_default-clause-queued
returns-in_default-clause-queued g c = λ waits is.
    IsQueue-absent (links_in Queue c.args.nodes.now) c.args.queue.now waits c.args.waiting.now c.args.slot (sym c.in_default.ensures) is
