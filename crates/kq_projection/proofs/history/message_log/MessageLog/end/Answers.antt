use Rattle.std.proofs.Common.{List, sym, subst}
use Rattle.kq_projection.specs.declared.history.item.Item.{Item}
use Rattle.kq_projection.specs.Messages.{AreAllSaid, IsMessageLog}
use Rattle.kq_projection.specs.Traced.{Traced}
use Rattle.kq_projection.proofs.history.message_log.MessageLog.end.Goals as goal

pub returns : goal.returns
returns c = λ (t : Traced) (is : IsMessageLog t c.args.self).
    record {
      logged = subst (λ (xs : List Item). AreAllSaid t xs) (sym c.in_ok-log.ensures) is.logged;
      kqueues = is.kqueues;
    }
