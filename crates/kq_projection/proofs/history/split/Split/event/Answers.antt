use Rattle.std.proofs.Common.{◌≡◌, ◌∙◌, ◌+◌, sym, ap, arith, rules}
use Rattle.kq_projection.specs.Traced.{Traced, event_at}
use Rattle.kq_projection.proofs.Events.{event-behind, event-found, event-none}
use Rattle.kq_projection.proofs.history.split.Split.event.Goals as goal

pub returns-in_err-before : goal.returns-in_err-before
returns-in_err-before c =
    rw c.from_residual.ensures (event-none c.args.self.now c.args.place c.in_err-before.ensures)

pub returns : goal.returns
returns c =
    let t : Traced = record { version = c.self.inside.version; events = c.self.inside.events.now } in
    let same : t ≡ c.args.self.now = search rules in
    let before = c.in_ok-before.before in
    let is : c.args.place ≡ before + 1 = omega (arith, c.in_ok-before.ensures.0, c.in_ok-before.ensures.1) in
    event-found c.get.result c.self.inside.events.now before (event_at c.args.self.now c.args.place)
    (ap (λ (x : Traced). event_at x c.args.place) (sym same) ∙ event-behind t c.args.place before is)
    c.get.ensures.lookup.0 c.get.ensures.lookup.1
