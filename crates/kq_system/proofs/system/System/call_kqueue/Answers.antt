use Rattle.std.proofs.Common.{◌∙◌, ◌+◌, IsOk, ℕ, map, refl, sym, subst, arith}
use Rattle.std.proofs.lemmas.Result.{IfOk-weaker}
use Rattle.kq_model.specs.declared.event.Event.{Event}
use Rattle.kq_model.specs.declared.event.Event.TheVariants.{Kevent}
use Rattle.kq_model.specs.declared.reply.Reply.TheVariants as reply
use Rattle.kq_model.specs.DescriptorPlans.{plan_kevent}
use Rattle.kq_model.specs.Moment.{moment_of}
use Rattle.kq_model.specs.Plans.{plan}
use Rattle.kq_model.specs.World.{Call}
use Rattle.kq_process.specs.Effects.{IsPossible}
use Rattle.kq_process.specs.World.{last_of, world_of}
use Rattle.kq_process.proofs.Applied.{counted-later, counted-now}
use Rattle.kq_process.proofs.Planned.{held_anyway}
use Rattle.kq_system.specs.SystemState.{AreOfVersion, IsStep, SystemState, call_plan, live_of, state_of, system_of}
use Rattle.kq_system.proofs.BeginLemmas.{either_way, lawful_now}
use Rattle.kq_system.proofs.StepLemmas.{call_planned, call_possible, kevent_plan, lawful_same, possible_call}
use Rattle.kq_system.proofs.SystemLemmas.{call_of, called, called_views, done, impossible, quiet_call, refused, stays_watched, version_of}
use Rattle.kq_system.proofs.system.System.call_kqueue.Goals as goal

pub returns-in-Err-clause-reply : goal.returns-in-Err-clause-reply
returns-in-Err-clause-reply c = λ place.
    let e : Event = Kevent c.args.pid c.args.number c.args.changes.now c.args.room in
    let old : SystemState = state_of c.self.inside.version c.self.inside.world c.self.inside.live.entries
    c.self.inside.applied in
    let w = world_of c.self.inside.world in
    subst (λ (s : SystemState). IsStep place e (system_of s) (system_of s) (reply.Impossible c.in-Err.why))
    c.self.view_is
    (impossible place e (system_of old) c.in-Err.why
    (kevent_plan place c.args.pid c.args.number c.args.room c.args.changes.now w
    ∙ refused (plan_kevent c.args.pid c.args.number c.args.changes.now c.args.room w) c.kevent-effect.result
    c.in-Err.why c.kevent-effect.ensures.effect c.in-Err.is))

-- the call is on what the number names
pub unreachable-requires : goal.unreachable-requires
unreachable-requires c =
    let w = world_of c.self.inside.world in
    let ok : IsOk c.kevent-effect.result.verdict = subst IsOk (sym c.in_default.is) refl in
    let d = done (plan_kevent c.args.pid c.args.number c.args.changes.now c.args.room w) c.kevent-effect.result
    c.kevent-effect.ensures.effect ok in
    let on = possible_call c.args.pid c.args.number c.args.room c.args.changes.now w d.plan_is d.is in
    c.kqueue_named.ensures.none c.in_default-kqueue_named.is on.kqueue (c.descriptor.ensures ∙ on.there)

pub invariant_of-self : goal.invariant_of-self
invariant_of-self c =
    let old = c.self.inside in
    let s : SystemState = state_of old.version old.world old.live.entries old.applied in
    let w = world_of old.world in
    let place = old.applied in
    let e : Event = Kevent c.args.pid c.args.number c.args.changes.now c.args.room in
    let call : Call = record { kqueue = c.in-Some.kqueue; changes = c.args.changes.now; room = c.args.room } in
    let m = moment_of old.version place (call_plan call) w in
    let ok : IsOk c.kevent-effect.result.verdict = subst IsOk (sym c.in_default.is) refl in
    let planned = call_planned place c.args.pid c.args.number c.args.room c.args.changes.now w c.kevent-effect.result
    c.in-Some.kqueue c.kevent-effect.ensures.effect ok (sym c.descriptor.ensures ∙ c.in-Some.ensures.found) in
    let quiet = quiet_call old.version place call w in
    let views = called_views old.version place call w in
    let versions = subst (λ v. AreOfVersion v old.live.entries) (sym (version_of old.version place call w))
    c.self.invariant.of_version in
    either_way c.call_on.result _ _ c.call_on.ensures.called c.call_on.ensures.memory
    (λ r does.
    let steps = called place e call (system_of s) (map live_of c.call_on.new.live.entries) r planned
    (does m quiet views versions (call_of old.version place call w)) in
    lawful_now old.version old.applied old.world old.live.entries c.call_on.new.live.entries
    c.self.invariant c.call_on.ensures.stayed
    (stays_watched place (place + 1) e (system_of s) _ r steps
    (counted-later (last_of old.world + 1) (place + 1) w (omega (arith, c.self.invariant.places))
    (counted-now old.world)) c.self.invariant.watched))
    (λ same. lawful_same old.version old.applied old.world old.live.entries c.call_on.new.live.entries c.self.invariant
    c.call_on.ensures.stayed same)

pub returns-clause-reply : goal.returns-clause-reply
returns-clause-reply c =
    let old = c.self.inside in
    let s : SystemState = state_of old.version old.world old.live.entries old.applied in
    let w = world_of old.world in
    let e : Event = Kevent c.args.pid c.args.number c.args.changes.now c.args.room in
    let call : Call = record { kqueue = c.in-Some.kqueue; changes = c.args.changes.now; room = c.args.room } in
    let ok : IsOk c.kevent-effect.result.verdict = subst IsOk (sym c.in_default.is) refl in
    IfOk-weaker c.call_on.result _ _ (λ r does place.
    let m = moment_of old.version place (call_plan call) w in
    let planned = call_planned place c.args.pid c.args.number c.args.room c.args.changes.now w c.kevent-effect.result
    c.in-Some.kqueue c.kevent-effect.ensures.effect ok (sym c.descriptor.ensures ∙ c.in-Some.ensures.found) in
    subst (λ (now : SystemState). IsStep place e (system_of now)
    (record (system_of s) { live = map live_of c.call_on.new.live.entries }) r) c.self.view_is
    (called place e call (system_of s) (map live_of c.call_on.new.live.entries) r planned
    (does m (quiet_call old.version place call w) (called_views old.version place call w)
    (subst (λ v. AreOfVersion v old.live.entries) (sym (version_of old.version place call w))
    c.self.invariant.of_version) (call_of old.version place call w)))) c.call_on.ensures.called

pub returns-clause-possible : goal.returns-clause-possible
returns-clause-possible c =
    let old = c.self.inside in
    let e : Event = Kevent c.args.pid c.args.number c.args.changes.now c.args.room in
    let ok : IsOk c.kevent-effect.result.verdict = subst IsOk (sym c.in_default.is) refl in
    let Possible_at : SystemState → Type 0 = λ s. (place : ℕ) → IsPossible (plan place e (world_of s.world)) in
    held_anyway (Possible_at c.args.self.now) c.call_on.result (subst Possible_at c.self.view_is
    (λ place. call_possible place c.args.pid c.args.number c.args.room c.args.changes.now (world_of old.world)
    c.kevent-effect.result c.kevent-effect.ensures.effect ok))
