use Rattle.std.proofs.Common.{length, ap, arith}
use Rattle.kq_model.specs.Look.{look}
use Rattle.kq_model.specs.Retrieval.{without_notice}
use Rattle.kq_model.specs.Tallied.{Kqueue}
use Rattle.kq_kevent.specs.Owned.{kqueue_in}
use Rattle.kq_kevent.proofs.TurnLaws.{length-with_told}
use Rattle.kq_kevent.proofs.retrieve.deliver.Goals as goal

pub returns-in-Some-clause-limit : goal.returns-in-Some-clause-limit
returns-in-Some-clause-limit g c =
    let rest = without_notice c.args.delivered.now.row in
    let kq = kqueue_in c.args.knotes.now in
    omega (
      arith,
      ap (λ (q : Kqueue). length q.knotes) c.take_back.ensures.kq,
      length-with_told rest kq (look (g.V.Views.sees c.args.views.now) rest),
      c.take_back.ensures.room,
    )
