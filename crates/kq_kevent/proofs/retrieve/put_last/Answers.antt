use Rattle.std.proofs.Common.{◌∙◌}
use Rattle.kq_kevent.proofs.QueueLaws.{put_in-there, queued-absent}
use Rattle.kq_kevent.proofs.retrieve.put_last.Goals as goal

pub returns-clause-queue : goal.returns-clause-queue
returns-clause-queue c =
    let q = c.args.knotes.now.queue in
    c.put_in_at.ensures.queue ∙ put_in-there c.args.key c.args.knotes.now.knotes q c.requires.there ∙ queued-absent c.args.key q c.requires.absent
