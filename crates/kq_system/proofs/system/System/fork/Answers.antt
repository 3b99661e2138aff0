use Rattle.std.proofs.Common.{◌≡◌, ◌∙◌, ◌+◌, ℕ, List, IsOk, map, refl, sym, ap, subst, arith}
use Rattle.kq_model.specs.declared.event.Event.{Event}
use Rattle.kq_model.specs.declared.reply.Reply.TheVariants as reply
use Rattle.kq_model.specs.declared.why.Why.{Why}
use Rattle.kq_model.specs.Plans.{plan}
use Rattle.kq_model.specs.ProcessPlans.{forked}
use Rattle.kq_model.specs.Tallied.{Live, System, World}
use Rattle.kq_model.specs.World.{Impossible, Planned}
use Rattle.kq_process.specs.Effects.{world_after}
use Rattle.kq_process.specs.World.{world_of}
use Rattle.kq_system.specs.SystemState.{IsStep, SystemState, live_of, state_of, system_of}
use Rattle.kq_system.proofs.ForkLemmas.{IfTells, fork_tells, forked_step}
use Rattle.kq_system.proofs.SystemLemmas.{done, refused, stays_watched}
use Rattle.kq_system.proofs.StepLemmas.{lawful_after, lawful_same, lawful_unchanged, refused_step}
use Rattle.kq_system.proofs.system.System.fork.Goals as goal

-- an impossible fork, before which nothing came of the kqueues but room
refused_fork : (place : ℕ) (e : Event) (old : System) (w : World) (live : List Live) (why : Why)
    → plan place e old.world ≡ Impossible why → w ≡ world_after place (plan place e old.world) old.world
    → live ≡ old.live → IsStep place e old (record old { world = w; live = live }) (reply.Impossible why)
refused_fork place e old w live why is world same =
    subst (λ (ls : List Live). IsStep place e old (record old { world = w; live = ls }) (reply.Impossible why))
    (sym same) (refused_step place e old w why is world)

-- memory was refused: the kqueues may have more room
pub invariant_of-self : goal.invariant_of-self
invariant_of-self c =
    let old = c.self.inside in
    let es = c.fork_all.new.live.entries in
    lawful_unchanged old.version old.applied old.world c.fork_all.new.world es es
    (lawful_same old.version old.applied old.world old.live.entries es c.self.invariant
    c.in_err-effect.ensures.stayed c.in_err-effect.ensures.kept)
    c.in_err-effect.ensures.memory c.in_err-effect.ensures.same_last refl

-- a fork that is impossible
pub invariant_of-self-in-Err : goal.invariant_of-self-in-Err
invariant_of-self-in-Err c =
    let old = c.self.inside in
    let s : SystemState = state_of old.version old.world old.live.entries old.applied in
    let place = old.applied + 1 in
    let e = c.args.event.now in
    let effect = c.in_ok-effect.effect in
    let steps = refused_fork place e (system_of s) (world_of c.fork_all.new.world)
    (map live_of c.fork_all.new.live.entries) c.in-Err.why
    (refused (plan place e (world_of old.world)) effect c.in-Err.why c.in_ok-effect.ensures.effect c.in-Err.is)
    c.in_ok-effect.ensures.world (c.in_ok-effect.ensures.refused c.in-Err.why c.in-Err.is) in
    lawful_after old.version old.applied old.world c.fork_all.new.world old.live.entries
    c.fork_all.new.live.entries c.self.invariant c.fork_all.ensures.stayed
    (stays_watched place (place + 1) e (system_of s) _ (reply.Impossible c.in-Err.why) steps
    c.in_ok-effect.ensures.next c.self.invariant.watched)
    (omega (arith, c.in_ok-effect.ensures.last))

pub returns-in-Err-clause-reply : goal.returns-in-Err-clause-reply
returns-in-Err-clause-reply c =
    let old = c.self.inside in
    let s : SystemState = state_of old.version old.world old.live.entries old.applied in
    let place = old.applied + 1 in
    let e = c.args.event.now in
    let effect = c.in_ok-effect.effect in
    subst (λ (now : SystemState). IsStep (now.applied + 1) e (system_of now) (record (system_of s) {
      world = world_of c.fork_all.new.world;
      live = map live_of c.fork_all.new.live.entries;
    }) (reply.Impossible c.in-Err.why)) c.self.view_is
    (refused_fork place e (system_of s) (world_of c.fork_all.new.world)
    (map live_of c.fork_all.new.live.entries) c.in-Err.why
    (refused (plan place e (world_of old.world)) effect c.in-Err.why c.in_ok-effect.ensures.effect c.in-Err.is)
    c.in_ok-effect.ensures.world (c.in_ok-effect.ensures.refused c.in-Err.why c.in-Err.is))

-- a fork that is carried out
pub invariant_of-self-2 : goal.invariant_of-self-2
invariant_of-self-2 c =
    let old = c.self.inside in
    let s : SystemState = state_of old.version old.world old.live.entries old.applied in
    let place = old.applied + 1 in
    let e = c.args.event.now in
    let effect = c.in_ok-effect.effect in
    let ok : IsOk effect.verdict = subst IsOk (sym c.in_default.is) refl in
    let d = done (plan place e (world_of old.world)) effect c.in_ok-effect.ensures.effect ok in
    let steps = forked_step place e (forked c.args.pid c.args.child) d.plan_is (system_of s) (world_of c.fork_all.new.world)
    (map live_of c.fork_all.new.live.entries) d.is
    (subst (IfTells (forked c.args.pid c.args.child)) d.is (subst (λ (e : Event). IfTells (forked c.args.pid c.args.child)
    (plan place e (world_of old.world))) (sym c.requires.event) (fork_tells place c.args.pid c.args.child (world_of old.world))))
    (c.in_ok-effect.ensures.world ∙ ap (λ (q : Planned). world_after place q (world_of old.world)) d.is)
    (c.in_ok-effect.ensures.followed ok old.version c.self.invariant.of_version) in
    lawful_after old.version old.applied old.world c.fork_all.new.world old.live.entries
    c.fork_all.new.live.entries c.self.invariant c.fork_all.ensures.stayed
    (stays_watched place (place + 1) e (system_of s) _ reply.Done steps c.in_ok-effect.ensures.next
    c.self.invariant.watched)
    (omega (arith, c.in_ok-effect.ensures.last))

pub returns-clause-reply : goal.returns-clause-reply
returns-clause-reply c =
    let old = c.self.inside in
    let s : SystemState = state_of old.version old.world old.live.entries old.applied in
    let place = old.applied + 1 in
    let e = c.args.event.now in
    let effect = c.in_ok-effect.effect in
    let ok : IsOk effect.verdict = subst IsOk (sym c.in_default.is) refl in
    let d = done (plan place e (world_of old.world)) effect c.in_ok-effect.ensures.effect ok in
    subst (λ (now : SystemState). IsStep (now.applied + 1) e (system_of now) (record (system_of s) {
      world = world_of c.fork_all.new.world;
      live = map live_of c.fork_all.new.live.entries;
    }) reply.Done) c.self.view_is
    (forked_step place e (forked c.args.pid c.args.child) d.plan_is (system_of s) (world_of c.fork_all.new.world)
    (map live_of c.fork_all.new.live.entries) d.is
    (subst (IfTells (forked c.args.pid c.args.child)) d.is (subst (λ (e : Event). IfTells (forked c.args.pid c.args.child)
    (plan place e (world_of old.world))) (sym c.requires.event) (fork_tells place c.args.pid c.args.child (world_of old.world))))
    (c.in_ok-effect.ensures.world ∙ ap (λ (q : Planned). world_after place q (world_of old.world)) d.is)
    (c.in_ok-effect.ensures.followed ok old.version c.self.invariant.of_version))
