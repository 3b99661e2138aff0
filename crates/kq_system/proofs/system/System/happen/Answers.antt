use Rattle.std.proofs.Common.{◌∙◌, ◌+◌, ℕ, List, IsOk, map, refl, sym, ap, ap₂, subst, arith}
use Rattle.kq_model.specs.declared.reply.Reply.TheVariants as reply
use Rattle.kq_model.specs.Following.{all_forks}
use Rattle.kq_model.specs.Plans.{plan}
use Rattle.kq_model.proofs.BornFirst.{silent-records}
use Rattle.kq_model.specs.Targets.{Posted}
use Rattle.kq_model.specs.World.{views_of}
use Rattle.kq_process.specs.Effects.{pairs_in}
use Rattle.kq_process.specs.World.{world_of}
use Rattle.kq_system.specs.SystemState.{IsStep, SystemState, happened_to_all, live_of, state_of, system_of}
use Rattle.kq_system.proofs.HappenLemmas.{stayed_same}
use Rattle.kq_system.proofs.StepLemmas.{happened_step, lawful_after, lawful_unchanged, refused_step}
use Rattle.kq_system.proofs.SystemLemmas.{done, refused, stays_watched}
use Rattle.kq_system.proofs.system.System.happen.Goals as goal

pub invariant_of-self : goal.invariant_of-self
invariant_of-self c =
    let old = c.self.inside in
    lawful_unchanged old.version old.applied old.world c.apply_into.new.self old.live.entries old.live.entries
    c.self.invariant c.in_err-apply_into.ensures.memory c.in_err-apply_into.ensures.same_last refl

pub invariant_of-self-in-Err : goal.invariant_of-self-in-Err
invariant_of-self-in-Err c =
    let old = c.self.inside in
    let s : SystemState = state_of old.version old.world old.live.entries old.applied in
    let place = old.applied + 1 in
    let e = c.args.event.now in
    let steps = refused_step place e (system_of s) (world_of c.apply_into.new.self) c.in-Err.why
    (refused (plan place e (world_of old.world)) c.apply_into.new.effect c.in-Err.why c.in_ok-apply_into.ensures.effect
    c.in-Err.is) c.in_ok-apply_into.ensures.world in
    lawful_after old.version old.applied old.world c.apply_into.new.self old.live.entries old.live.entries c.self.invariant
    (stayed_same old.live.entries)
    (stays_watched place (place + 1) e (system_of s) _ (reply.Impossible c.in-Err.why) steps c.in_ok-apply_into.ensures.next
    c.self.invariant.watched)
    (omega (arith, c.in_ok-apply_into.ensures.last))

pub returns-in-Err-clause-reply : goal.returns-in-Err-clause-reply
returns-in-Err-clause-reply c =
    let old = c.self.inside in
    let s : SystemState = state_of old.version old.world old.live.entries old.applied in
    let place = old.applied + 1 in
    let e = c.args.event.now in
    subst (λ (now : SystemState). IsStep (now.applied + 1) e (system_of now)
    (record (system_of s) { world = world_of c.apply_into.new.self }) (reply.Impossible c.in-Err.why)) c.self.view_is
    (refused_step place e (system_of s) (world_of c.apply_into.new.self) c.in-Err.why
    (refused (plan place e (world_of old.world)) c.apply_into.new.effect c.in-Err.why c.in_ok-apply_into.ensures.effect
    c.in-Err.is) c.in_ok-apply_into.ensures.world)

pub invariant_of-self-2 : goal.invariant_of-self-2
invariant_of-self-2 c =
    let old = c.self.inside in
    let s : SystemState = state_of old.version old.world old.live.entries old.applied in
    let place = old.applied + 1 in
    let e = c.args.event.now in
    let effect = c.apply_into.new.effect in
    let ok : IsOk effect.verdict = subst IsOk (sym c.in_default.is) refl in
    let steps = happened_step place e (system_of s) effect (world_of c.apply_into.new.self)
    (map live_of c.happen_to_all.new.live.entries) c.requires.plain c.requires.no_fork c.in_ok-apply_into.ensures.effect ok
    c.in_ok-apply_into.ensures.world (c.happen_to_all.ensures.happened
    ∙ ap₂ (λ (ps : List (ℕ × ℕ)) (hs : List Posted). happened_to_all (pairs_in ps) hs
    (views_of (world_of c.apply_into.new.self)) (map live_of old.live.entries)) c.as_slice.ensures c.as_slice-2.ensures) in
    lawful_after old.version old.applied old.world c.apply_into.new.self old.live.entries
    c.happen_to_all.new.live.entries c.self.invariant c.happen_to_all.ensures.stayed
    (stays_watched place (place + 1) e (system_of s) _ reply.Done steps c.in_ok-apply_into.ensures.next
    c.self.invariant.watched)
    (omega (arith, c.in_ok-apply_into.ensures.last))

pub returns-clause-reply : goal.returns-clause-reply
returns-clause-reply c =
    let old = c.self.inside in
    let s : SystemState = state_of old.version old.world old.live.entries old.applied in
    let place = old.applied + 1 in
    let e = c.args.event.now in
    let effect = c.apply_into.new.effect in
    let ok : IsOk effect.verdict = subst IsOk (sym c.in_default.is) refl in
    subst (λ (now : SystemState). IsStep (now.applied + 1) e (system_of now) (record (system_of s) {
      world = world_of c.apply_into.new.self;
      live = map live_of c.happen_to_all.new.live.entries;
    }) reply.Done) c.self.view_is
    (happened_step place e (system_of s) effect (world_of c.apply_into.new.self)
    (map live_of c.happen_to_all.new.live.entries) c.requires.plain c.requires.no_fork c.in_ok-apply_into.ensures.effect ok
    c.in_ok-apply_into.ensures.world (c.happen_to_all.ensures.happened
    ∙ ap₂ (λ (ps : List (ℕ × ℕ)) (hs : List Posted). happened_to_all (pairs_in ps) hs
    (views_of (world_of c.apply_into.new.self)) (map live_of old.live.entries)) c.as_slice.ensures c.as_slice-2.ensures))

pub happen_to_all-requires : goal.happen_to_all-requires
happen_to_all-requires c =
    let old = c.self.inside in
    let place = old.applied + 1 in
    let e = c.args.event.now in
    let effect = c.apply_into.new.effect in
    let ok : IsOk effect.verdict = subst IsOk (sym c.in_default.is) refl in
    let d = done (plan place e (world_of old.world)) effect c.in_ok-apply_into.ensures.effect ok in
    ap all_forks (c.as_slice-2.ensures ∙ d.hints_is) ∙ silent-records place e (world_of old.world) d.plan_is c.requires.no_fork d.is
