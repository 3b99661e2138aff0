-- What is seen of the world has all its numbers.
use Rattle.std.proofs.Common.{◌≡◌, ◌∙◌, ap, sym}
use Rattle.kq_model.specs.World.{named_by}
use Rattle.kq_process.specs.World.{world_of}
use Rattle.kq_system.specs.Beginning.{kqueue_in}
use Rattle.kq_system.proofs.BeginSteps.{named-seen}
use Rattle.kq_check.proofs.left_open.place_named.Goals as goal

pub returns : goal.returns
returns c =
    c.kqueue_in.ensures
    ∙ ap kqueue_in (c.descriptor.ensures ∙ ap (λ w. named_by c.args.pid c.args.fd (world_of w)) c.world.ensures
    ∙ sym (named-seen c.args.pid c.args.fd (world_of c.args.system.now.world)))
