use Rattle.std.proofs.Common.{◌≡◌, ◌+◌, ◌≤◌, IsOk, map, refl, sym, ap, ◌∙◌, subst, arith}
use Rattle.kq_model.specs.declared.event.Event.{Event}
use Rattle.kq_model.specs.declared.event.Event.TheVariants as event
use Rattle.kq_model.specs.declared.reply.Reply.TheVariants as reply
use Rattle.kq_model.specs.Plans.{plan}
use Rattle.kq_process.specs.Effects.{IsEffectOf, world_after}
use Rattle.kq_process.specs.World.{world_of}
use Rattle.kq_system.specs.SystemState.{IsStep, SystemState, live_of, state_of, system_of, ticked}
use Rattle.kq_system.proofs.ClockLemmas.{has_gone}
use Rattle.kq_system.proofs.HappenLemmas.{stayed_same}
use Rattle.kq_system.proofs.StepLemmas.{lawful_after, lawful_unchanged, refused_step}
use Rattle.kq_system.proofs.SystemLemmas.{refused, stays_watched}
use Rattle.kq_system.proofs.system.System.tick.Goals as goal

pub invariant_of-self : goal.invariant_of-self
invariant_of-self c =
    let old = c.self.inside in
    lawful_unchanged old.version old.applied old.world c.apply_into.new.self old.live.entries old.live.entries
    c.self.invariant c.in_err-apply_into.ensures.memory c.in_err-apply_into.ensures.same_last refl

pub invariant_of-self-in-Err : goal.invariant_of-self-in-Err
invariant_of-self-in-Err c =
    let old = c.self.inside in
    let s : SystemState = state_of old.version old.world old.live.entries old.applied in
    let place = old.applied + 1 in
    let e = c.args.event.now in
    let steps = refused_step place e (system_of s) (world_of c.apply_into.new.self) c.in-Err.why
    (refused (plan place e (world_of old.world)) c.apply_into.new.effect c.in-Err.why c.in_ok-apply_into.ensures.effect
    c.in-Err.is) c.in_ok-apply_into.ensures.world in
    lawful_after old.version old.applied old.world c.apply_into.new.self old.live.entries old.live.entries c.self.invariant
    (stayed_same old.live.entries)
    (stays_watched place (place + 1) e (system_of s) _ (reply.Impossible c.in-Err.why) steps c.in_ok-apply_into.ensures.next
    c.self.invariant.watched)
    (omega (arith, c.in_ok-apply_into.ensures.last))

pub returns-in-Err-clause-reply : goal.returns-in-Err-clause-reply
returns-in-Err-clause-reply c =
    let old = c.self.inside in
    let s : SystemState = state_of old.version old.world old.live.entries old.applied in
    let place = old.applied + 1 in
    let e = c.args.event.now in
    subst (λ (now : SystemState). IsStep (now.applied + 1) e (system_of now)
    (record (system_of s) { world = world_of c.apply_into.new.self }) (reply.Impossible c.in-Err.why)) c.self.view_is
    (refused_step place e (system_of s) (world_of c.apply_into.new.self) c.in-Err.why
    (refused (plan place e (world_of old.world)) c.apply_into.new.effect c.in-Err.why c.in_ok-apply_into.ensures.effect
    c.in-Err.is) c.in_ok-apply_into.ensures.world)

pub tick_all-requires : goal.tick_all-requires
tick_all-requires c =
    let old = c.self.inside in
    let s : SystemState = state_of old.version old.world old.live.entries old.applied in
    let place = old.applied + 1 in
    let ok : IsOk c.apply_into.new.effect.verdict = subst IsOk (sym c.in_default.is) refl in
    let gone = has_gone place c.args.moment (system_of s) c.apply_into.new.effect (world_of c.apply_into.new.self) c.clock_of-to.result c.ranges.moment
    (subst (λ (e : Event). IsEffectOf (plan place e (world_of old.world)) c.apply_into.new.effect) c.requires.event c.in_ok-apply_into.ensures.effect) ok
    (subst (λ (e : Event). world_of c.apply_into.new.self ≡ world_after place (plan place e (world_of old.world)) (world_of old.world)) c.requires.event
    c.in_ok-apply_into.ensures.world) c.clock_of-to.ensures in
    record {
      ordered = subst (λ n. n ≤ c.clock_of-to.result) (sym c.clock_of-from.ensures) gone.ordered;
      within = gone.within;
    }

pub invariant_of-self-2 : goal.invariant_of-self-2
invariant_of-self-2 c =
    let old = c.self.inside in
    let s : SystemState = state_of old.version old.world old.live.entries old.applied in
    let place = old.applied + 1 in
    let ok : IsOk c.apply_into.new.effect.verdict = subst IsOk (sym c.in_default.is) refl in
    let gone = has_gone place c.args.moment (system_of s) c.apply_into.new.effect (world_of c.apply_into.new.self) c.clock_of-to.result c.ranges.moment
    (subst (λ (e : Event). IsEffectOf (plan place e (world_of old.world)) c.apply_into.new.effect) c.requires.event c.in_ok-apply_into.ensures.effect) ok
    (subst (λ (e : Event). world_of c.apply_into.new.self ≡ world_after place (plan place e (world_of old.world)) (world_of old.world)) c.requires.event
    c.in_ok-apply_into.ensures.world) c.clock_of-to.ensures in
    let steps = gone.steps (map live_of c.tick_all.new.live.entries)
    (c.tick_all.ensures.ticked ∙ ap (λ n. map (ticked (record { from = n; to = c.clock_of-to.result })) (map live_of old.live.entries)) c.clock_of-from.ensures) in
    lawful_after old.version old.applied old.world c.apply_into.new.self old.live.entries c.tick_all.new.live.entries c.self.invariant
    c.tick_all.ensures.stayed
    (stays_watched place (place + 1) (event.Clock c.args.moment) (system_of s) _ reply.Done steps c.in_ok-apply_into.ensures.next
    c.self.invariant.watched)
    (omega (arith, c.in_ok-apply_into.ensures.last))

pub returns-clause-reply : goal.returns-clause-reply
returns-clause-reply c =
    let old = c.self.inside in
    let s : SystemState = state_of old.version old.world old.live.entries old.applied in
    let place = old.applied + 1 in
    let ok : IsOk c.apply_into.new.effect.verdict = subst IsOk (sym c.in_default.is) refl in
    let gone = has_gone place c.args.moment (system_of s) c.apply_into.new.effect (world_of c.apply_into.new.self) c.clock_of-to.result c.ranges.moment
    (subst (λ (e : Event). IsEffectOf (plan place e (world_of old.world)) c.apply_into.new.effect) c.requires.event c.in_ok-apply_into.ensures.effect) ok
    (subst (λ (e : Event). world_of c.apply_into.new.self ≡ world_after place (plan place e (world_of old.world)) (world_of old.world)) c.requires.event
    c.in_ok-apply_into.ensures.world) c.clock_of-to.ensures in
    let steps = gone.steps (map live_of c.tick_all.new.live.entries)
    (c.tick_all.ensures.ticked ∙ ap (λ n. map (ticked (record { from = n; to = c.clock_of-to.result })) (map live_of old.live.entries)) c.clock_of-from.ensures) in
    subst (λ (now : SystemState). IsStep (now.applied + 1) c.args.event.now (system_of now) (record (system_of s) {
      world = world_of c.apply_into.new.self;
      live = map live_of c.tick_all.new.live.entries;
    }) reply.Done) c.self.view_is
    (subst (λ (e : Event). IsStep place e (system_of s) (record (system_of s) {
      world = world_of c.apply_into.new.self;
      live = map live_of c.tick_all.new.live.entries;
    }) reply.Done) (sym c.requires.event) steps)
