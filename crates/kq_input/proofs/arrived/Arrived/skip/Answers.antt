use Rattle.std.proofs.Common.{◌-◌, ◌≤◌, ◌∙◌, length, drop, ap, arith}
use Rattle.std.proofs.lemmas.List.{length-take}
use Rattle.kq_input.proofs.LineFeeds.{skipped}
use Rattle.kq_input.proofs.arrived.Arrived.skip.Goals as goal

pub returns : goal.returns
returns c =
    let a = c.self.inside in
    let long : length c.args.self.now ≤ a.to - a.from =
    omega (arith, ap length c.self.view_is, length-take (a.to - a.from) (drop a.from a.room.items)) in
    let within : c.args.count ≤ a.to - a.from = omega (arith, c.requires, long) in
    skipped a.room.items a.from a.to c.args.count within c.self.invariant.0 ∙ ap (drop c.args.count) c.self.view_is
