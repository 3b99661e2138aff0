use Rattle.std.proofs.Common.{sym, subst}
use Rattle.kq_projection.specs.declared.history.item.What.{What}
use Rattle.kq_projection.specs.Traced.{event_at}
use Rattle.kq_projection.specs.LoneKqueue.{LoneKqueue}
use Rattle.kq_projection.specs.Recorded.{IsSaidBy}
use Rattle.kq_projection.proofs.Kept.{said-there}
use Rattle.kq_projection.proofs.alone.lone_kqueue.LoneKqueue.go_on.Goals as goal

pub clock-requires : goal.clock-requires
clock-requires c =
    subst (λ (w : What). IsSaidBy (event_at c.arrive.new.self.trace c.arrive.new.self.place) w) c.in-Clocked.is
    (subst (λ (a : LoneKqueue). IsSaidBy (event_at a.trace a.place) c.args.item.what) (sym c.in_ok-arrive.ensures)
    (said-there c.args.item c.args.self.now c.requires))

pub call-requires : goal.call-requires
call-requires c =
    subst (λ (w : What). IsSaidBy (event_at c.arrive.new.self.trace c.arrive.new.self.place) w) c.in-Called.is
    (subst (λ (a : LoneKqueue). IsSaidBy (event_at a.trace a.place) c.args.item.what) (sym c.in_ok-arrive.ensures)
    (said-there c.args.item c.args.self.now c.requires))
