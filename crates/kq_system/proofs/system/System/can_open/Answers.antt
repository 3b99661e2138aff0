use Rattle.std.proofs.Common.{◌≡◌, ◌∙◌, not, is_some, sym, ap, subst}
use Rattle.kq_model.specs.DescriptorPlans.{plan_kqueue}
use Rattle.kq_model.specs.World.{Possible}
use Rattle.kq_process.specs.Effects.{IsPossible}
use Rattle.kq_process.specs.World.{world_of}
use Rattle.kq_system.specs.SystemState.{SystemState}
use Rattle.kq_system.proofs.StepLemmas.{not_not, opens_possible, possible_kqueue}
use Rattle.kq_system.proofs.system.System.can_open.Goals as goal

pub returns-then-is_live-clause-opens : goal.returns-then-is_live-clause-opens
returns-then-is_live-clause-opens c = λ p planned.
    let here = subst (λ (s : SystemState). plan_kqueue c.args.pid c.args.number (world_of s.world) ≡ Possible p)
    (sym c.self.view_is) planned in
    let opens = possible_kqueue c.args.pid c.args.number (world_of c.self.inside.world) p here in
    not_not c.is_none.result (sym c.is_none.ensures ∙ ap (λ found. is_some found) c.descriptor.ensures ∙ opens.absent)

pub returns-else-is_live-clause-opens : goal.returns-else-is_live-clause-opens
returns-else-is_live-clause-opens c = λ p planned.
    let here = subst (λ (s : SystemState). plan_kqueue c.args.pid c.args.number (world_of s.world) ≡ Possible p)
    (sym c.self.view_is) planned in
    let opens = possible_kqueue c.args.pid c.args.number (world_of c.self.inside.world) p here in
    c.is_live.ensures ∙ opens.live

pub returns-then-is_live-clause-possible : goal.returns-then-is_live-clause-possible
returns-then-is_live-clause-possible c = λ none.
    subst (λ (s : SystemState). IsPossible (plan_kqueue c.args.pid c.args.number (world_of s.world))) c.self.view_is
    (opens_possible c.args.pid c.args.number (world_of c.self.inside.world) (sym c.is_live.ensures ∙ c.if-is_live.true)
    (sym (ap (λ found. is_some found) c.descriptor.ensures) ∙ c.is_none.ensures ∙ ap not none))
