use Rattle.std.proofs.Common.{◌≡◌, ◌∙◌, ◌+◌, ◌++◌, false, IsOk, Some, map, refl, sym, ap, subst, arith}
use Rattle.kq_model.specs.declared.event.Event.{Event}
use Rattle.kq_model.specs.declared.reply.Reply.TheVariants as reply
use Rattle.kq_model.specs.Plans.{plan}
use Rattle.kq_model.specs.System.{born}
use Rattle.kq_model.specs.World.{Planned}
use Rattle.kq_model.proofs.ListFilters.{All-left}
use Rattle.kq_model.specs.Tallied.{Live}
use Rattle.kq_model.specs.WatchedNumbers.{WatchTheirNumbers}
use Rattle.kq_model.specs.World.{seen_world, views_of}
use Rattle.kq_process.specs.Effects.{world_after}
use Rattle.kq_process.specs.World.{world_of}
use Rattle.kq_system.specs.Sharing.{IsOwnShare, IsStepBeside}
use Rattle.kq_system.specs.SystemState.{SystemState, live_of, state_of, system_of}
use Rattle.kq_system.proofs.HappenLemmas.{stayed_same}
use Rattle.kq_system.proofs.ShareLemmas.{passed-beside, refused-beside}
use Rattle.kq_system.proofs.StepLemmas.{kqueue_plan, lawful_after, lawful_unchanged, possible_kqueue, refused_step}
use Rattle.kq_system.proofs.SystemLemmas.{done, opened, refused, stays_watched}
use Rattle.kq_system.proofs.system.System.pass.Goals as goal

pub invariant_of-self : goal.invariant_of-self
invariant_of-self c =
    let old = c.self.inside in
    lawful_unchanged old.version old.applied old.world c.apply_into.new.self old.live.entries old.live.entries
    c.self.invariant c.in_err-apply_into.ensures.memory c.in_err-apply_into.ensures.same_last refl

pub invariant_of-self-in-Err : goal.invariant_of-self-in-Err
invariant_of-self-in-Err c =
    let old = c.self.inside in
    let s : SystemState = state_of old.version old.world old.live.entries old.applied in
    let place = old.applied + 1 in
    let e = c.args.event.now in
    let steps = refused_step place e (system_of s) (world_of c.apply_into.new.self) c.in-Err.why
    (refused (plan place e (world_of old.world)) c.apply_into.new.effect c.in-Err.why c.in_ok-apply_into.ensures.effect
    c.in-Err.is) c.in_ok-apply_into.ensures.world in
    lawful_after old.version old.applied old.world c.apply_into.new.self old.live.entries old.live.entries c.self.invariant
    (stayed_same old.live.entries)
    (stays_watched place (place + 1) e (system_of s) _ (reply.Impossible c.in-Err.why) steps c.in_ok-apply_into.ensures.next
    c.self.invariant.watched)
    (omega (arith, c.in_ok-apply_into.ensures.last))

pub returns-in-Err-clause-reply : goal.returns-in-Err-clause-reply
returns-in-Err-clause-reply c own others kept =
    let old = c.self.inside in
    let s : SystemState = state_of old.version old.world old.live.entries old.applied in
    let place = old.applied + 1 in
    let e = c.args.event.now in
    let is = refused (plan place e (world_of old.world)) c.apply_into.new.effect c.in-Err.why
    c.in_ok-apply_into.ensures.effect c.in-Err.is in
    subst (λ (now : SystemState). IsStepBeside own (now.applied + 1) e (system_of now)
    (record (system_of s) { world = world_of c.apply_into.new.self }) (reply.Impossible c.in-Err.why)) c.self.view_is
    (refused-beside own place e (system_of s) (world_of c.apply_into.new.self)
    (subst (λ (now : SystemState). IsOwnShare own (system_of now)) (sym c.self.view_is) kept) c.in-Err.why is
    (c.in_ok-apply_into.ensures.world ∙ ap (λ (q : Planned). world_after place q (world_of old.world)) is))

pub invariant_of-self-2 : goal.invariant_of-self-2
invariant_of-self-2 c =
    let old = c.self.inside in
    let s : SystemState = state_of old.version old.world old.live.entries old.applied in
    let w = world_of old.world in
    let place = old.applied + 1 in
    let e = c.args.event.now in
    let ok : IsOk c.apply_into.new.effect.verdict = subst IsOk (sym c.in_default.is) refl in
    let d = done (plan place e w) c.apply_into.new.effect c.in_ok-apply_into.ensures.effect ok in
    let here = ap (λ (x : Event). plan place x w) c.requires.event ∙ kqueue_plan place c.args.pid c.args.number w in
    let opens = possible_kqueue c.args.pid c.args.number w d.plan_is (sym here ∙ d.is) in
    let live = map live_of old.live.entries in
    let more = born place (Some (record { pid = c.args.pid; number = c.args.number })) in
    let steps = opened place c.args.pid c.args.number e d.plan_is (system_of s) (world_of c.apply_into.new.self)
    (live ++ more) d.is opens.plan_is
    (c.in_ok-apply_into.ensures.world ∙ ap (λ (q : Planned). world_after place q w) d.is) refl in
    lawful_after old.version old.applied old.world c.apply_into.new.self old.live.entries old.live.entries c.self.invariant
    (stayed_same old.live.entries)
    (All-left (λ (l : Live). WatchTheirNumbers (views_of (seen_world (world_of c.apply_into.new.self))) l.owner l.kq) live more
    (stays_watched place (place + 1) e (system_of s) _ reply.Done steps c.in_ok-apply_into.ensures.next
    c.self.invariant.watched))
    (omega (arith, c.in_ok-apply_into.ensures.last))

pub returns-clause-reply : goal.returns-clause-reply
returns-clause-reply c own others kept =
    let old = c.self.inside in
    let s : SystemState = state_of old.version old.world old.live.entries old.applied in
    let w = world_of old.world in
    let place = old.applied + 1 in
    let e = c.args.event.now in
    let ok : IsOk c.apply_into.new.effect.verdict = subst IsOk (sym c.in_default.is) refl in
    let d = done (plan place e w) c.apply_into.new.effect c.in_ok-apply_into.ensures.effect ok in
    let here = ap (λ (x : Event). plan place x w) c.requires.event ∙ kqueue_plan place c.args.pid c.args.number w in
    let opens = possible_kqueue c.args.pid c.args.number w d.plan_is (sym here ∙ d.is) in
    subst (λ (now : SystemState). IsStepBeside own (now.applied + 1) e (system_of now)
    (record (system_of s) { world = world_of c.apply_into.new.self }) reply.Done) c.self.view_is
    (passed-beside own place e (system_of s) (world_of c.apply_into.new.self)
    (subst (λ (now : SystemState). IsOwnShare own (system_of now)) (sym c.self.view_is) kept) c.args.pid c.args.number
    d.plan_is d.is opens.plan_is (c.in_ok-apply_into.ensures.world ∙ ap (λ (q : Planned). world_after place q w) d.is)
    (subst (λ (now : SystemState). own (Some (now.applied + 1)) ≡ false) (sym c.self.view_is) others))
