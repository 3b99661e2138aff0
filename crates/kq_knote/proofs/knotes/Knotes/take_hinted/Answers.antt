use Rattle.std.proofs.Common.{ap, ◌∙◌}
use Rattle.kq_knote.specs.Index.{hinted_keys}
use Rattle.kq_knote.specs.Reserved.{Reserved}
use Rattle.kq_knote.proofs.GatherLaws.{hinted-in_order}
use Rattle.kq_knote.proofs.knotes.Knotes.take_hinted.Goals as goal

pub returns-then-len-capacity-clause-keys : goal.returns-then-len-capacity-clause-keys
returns-then-len-capacity-clause-keys c =
    c.put_in_order.ensures.keys
    ∙ hinted-in_order c.args.posted.now c.self.inside.rows.rows c.self.invariant.own_keys c.gather.new.found.items (c.gather.ensures c.if-gather.true)
    ∙ ap (λ (v : Reserved). hinted_keys c.args.posted.now v.knotes) c.self.view_is
