use Rattle.std.proofs.Common.{◌+◌, ◌++◌, ◌∷◌, [], ℕ, Option, sym, subst}
use Rattle.kq_table.specs.declared.node.Ends.{Ends}
use Rattle.kq_table.specs.declared.node.Links.{Links}
use Rattle.kq_table.specs.declared.node.Thread.TheVariants.{Queue}
use Rattle.kq_table.specs.Threads.{links_in, put_last, IsQueue}
use Rattle.kq_table.proofs.QueuedLaws.{IsQueue-push}
use Rattle.kq_table.proofs.waiting.enqueue.Goals as goal

pub returns-clause-queued : goal.returns-clause-queued
returns-clause-queued g c = λ waits out is.
    let links = links_in Queue c.args.nodes.now in
    subst (λ (f : ℕ → Option Links). IsQueue f c.link_last.new.ends (waits ++ c.args.slot ∷ []) (c.args.waiting.now + 1)) (sym c.link_last.ensures.links)
    (subst (λ (e : Ends). IsQueue (put_last c.args.queue.now.last c.args.slot links) e (waits ++ c.args.slot ∷ []) (c.args.waiting.now + 1)) (sym c.link_last.ensures.ends)
    (IsQueue-push links c.args.queue.now waits c.args.waiting.now c.args.slot out is))
