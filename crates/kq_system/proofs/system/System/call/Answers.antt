use Rattle.kq_system.proofs.BeginLemmas.{lawful_later}
use Rattle.kq_system.proofs.system.System.call.Goals as goal

pub invariant_of-self : goal.invariant_of-self
invariant_of-self c =
    let now = c.self.inside in
    lawful_later now.version now.applied now.world now.live.entries c.self.invariant
