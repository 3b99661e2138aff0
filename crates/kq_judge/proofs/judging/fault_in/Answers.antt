use Rattle.std.proofs.Common.{sym, ap, ◌∙◌, subst}
use Rattle.kq_model.specs.declared.key.Key.{Key}
use Rattle.kq_model.specs.Knote.{has_key}
use Rattle.kq_judge.specs.Pending.{IsPending}
use Rattle.kq_judge.proofs.PendingLaws.{pending-key}
use Rattle.kq_judge.proofs.judging.fault_in.Goals as goal

pub differing-requires : goal.differing-requires
differing-requires g c =
    pending-key (g.V.Views.sees c.args.views.now) c.args.kq.now.kq.knotes c.key_of-key.result c.in-Ok.expected
    c.in-Ok.ensures.event
    ∙ c.key_of-key.ensures

pub returns-in-None : goal.returns-in-None
returns-in-None g c =
    let views = g.V.Views.sees c.args.views.now in
    record {
      right = record {
        expected = c.in-Ok.expected;
        pending = subst (λ (key : Key). IsPending views c.args.kq.now.kq.knotes key c.in-Ok.expected)
            c.key_of-key.ensures c.in-Ok.ensures.event;
        same = c.in-None.ensures;
      };
      new = ap (λ (key : Key). has_key key c.args.returned.now.rows) (sym c.key_of-key.ensures)
          ∙ sym c.was_returned.ensures
          ∙ c.if-was_returned.false;
    }
