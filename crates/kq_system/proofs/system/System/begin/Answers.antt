use Rattle.std.proofs.Common.{◌∙◌, ◌+◌, ◌≡◌, IsOk, [], Some, map, refl, sym, ap, subst, arith}
use Rattle.kq_model.specs.declared.event.Event.{Event}
use Rattle.kq_model.specs.declared.event.Event.TheVariants.{Kevent}
use Rattle.kq_model.specs.declared.object.Named.TheVariants as named
use Rattle.kq_model.specs.declared.reply.Reply.TheVariants as reply
use Rattle.kq_model.specs.DescriptorPlans.{plan_kevent}
use Rattle.kq_model.specs.Moment.{moment_of}
use Rattle.kq_model.specs.Plans.{plan}
use Rattle.kq_model.specs.World.{Call, named_by, seen_world, views_of}
use Rattle.kq_model.proofs.SeenWorld.{seen-counted}
use Rattle.kq_process.specs.Effects.{IsPossible}
use Rattle.kq_process.specs.World.{world_of}
use Rattle.kq_process.proofs.Planned.{held_anyway}
use Rattle.kq_system.specs.Beginning.{IsBeginning, IsStepSoFar}
use Rattle.kq_system.specs.SystemState.{AreOfVersion, SystemState, call_plan, live_of, state_of, system_of}
use Rattle.kq_system.proofs.BeginLemmas.{lawful_later, watched-begun}
use Rattle.kq_system.proofs.BeginSteps.{begins-impossible, begins-possible, few-planned, step-impossible, step-possible}
use Rattle.kq_system.proofs.StepLemmas.{call_planned, call_possible, kevent_plan, lawful_after, lawful_same, possible_call}
use Rattle.kq_system.proofs.SystemLemmas.{call_of, called_views, done, quiet_call, refused, version_of}
use Rattle.kq_system.proofs.system.System.begin.Goals as goal

pub invariant_of-self : goal.invariant_of-self
invariant_of-self c =
    let old = c.self.inside in
    lawful_later old.version old.applied old.world old.live.entries c.self.invariant

pub returns-in-Err-clause-begun : goal.returns-in-Err-clause-begun
returns-in-Err-clause-begun c =
    let e : Event = Kevent c.args.pid c.args.fd c.args.changes.now c.args.room in
    let old : SystemState = state_of c.self.inside.version c.self.inside.world c.self.inside.live.entries
    c.self.inside.applied in
    let w = world_of c.self.inside.world in
    subst (λ (s : SystemState). IsBeginning (s.applied + 1) e (system_of s) (system_of old)
    (Some (reply.Impossible c.in-Err.why)))
    c.self.view_is
    (begins-impossible (old.applied + 1) e (system_of old) c.in-Err.why
    (kevent_plan (old.applied + 1) c.args.pid c.args.fd c.args.room c.args.changes.now w
    ∙ refused (plan_kevent c.args.pid c.args.fd c.args.changes.now c.args.room w) c.kevent-effect.result
    c.in-Err.why c.kevent-effect.ensures.effect c.in-Err.is))

pub returns-in-Err-clause-steps : goal.returns-in-Err-clause-steps
returns-in-Err-clause-steps c =
    let old : SystemState = state_of c.self.inside.version c.self.inside.world c.self.inside.live.entries
    c.self.inside.applied in
    let w = world_of c.self.inside.world in
    subst (λ (s : SystemState). IsStepSoFar (s.applied + 1) c.args.pid c.args.fd c.args.changes.now c.args.room
    (system_of s) (system_of old) (Some (reply.Impossible c.in-Err.why)))
    c.self.view_is
    (step-impossible (old.applied + 1) c.args.pid c.args.fd c.args.room c.args.changes.now (system_of old) c.in-Err.why
    (kevent_plan (old.applied + 1) c.args.pid c.args.fd c.args.room c.args.changes.now w
    ∙ refused (plan_kevent c.args.pid c.args.fd c.args.changes.now c.args.room w) c.kevent-effect.result
    c.in-Err.why c.kevent-effect.ensures.effect c.in-Err.is))

-- the call is on what the number names
pub unreachable-requires : goal.unreachable-requires
unreachable-requires c =
    let w = world_of c.self.inside.world in
    let ok : IsOk c.kevent-effect.result.verdict = subst IsOk (sym c.in_default.is) refl in
    let d = done (plan_kevent c.args.pid c.args.fd c.args.changes.now c.args.room w) c.kevent-effect.result
    c.kevent-effect.ensures.effect ok in
    let on = possible_call c.args.pid c.args.fd c.args.room c.args.changes.now w d.plan_is d.is in
    c.kqueue_named.ensures.none c.in_default-kqueue_named.is on.kqueue (c.descriptor.ensures ∙ on.there)

pub invariant_of-self-in_err-answer : goal.invariant_of-self-in_err-answer
invariant_of-self-in_err-answer c =
    let old = c.self.inside in
    lawful_same old.version old.applied old.world old.live.entries c.begin_on.new.live.entries c.self.invariant
    c.in_err-answer.ensures.stayed c.in_err-answer.ensures.memory

pub returns-in_err-answer-clause-possible : goal.returns-in_err-answer-clause-possible
returns-in_err-answer-clause-possible c =
    let old = c.self.inside in
    let e : Event = Kevent c.args.pid c.args.fd c.args.changes.now c.args.room in
    let ok : IsOk c.kevent-effect.result.verdict = subst IsOk (sym c.in_default.is) refl in
    let Possible_at : SystemState → Type 0 = λ s. IsPossible (plan (s.applied + 1) e (world_of s.world)) in
    held_anyway (Possible_at c.args.self.now) c.from_residual.result (subst Possible_at c.self.view_is
    (call_possible (old.applied + 1) c.args.pid c.args.fd c.args.room c.args.changes.now (world_of old.world)
    c.kevent-effect.result c.kevent-effect.ensures.effect ok))

pub invariant_of-self-2 : goal.invariant_of-self-2
invariant_of-self-2 c =
    let old = c.self.inside in
    let w = world_of old.world in
    let es = old.live.entries in
    let next = map live_of c.begin_on.new.live.entries in
    let call : Call = record { kqueue = c.in-Some.kqueue; changes = c.args.changes.now; room = c.args.room } in
    let m = moment_of old.version (old.applied + 1) (call_plan call) w in
    let sees = called_views old.version (old.applied + 1) call w in
    let begun = c.in_ok-answer.ensures.begun m sees
    (subst (λ v. AreOfVersion v es) (sym (version_of old.version (old.applied + 1) call w))
    c.self.invariant.of_version) in
    lawful_after old.version old.applied old.world old.world es c.begin_on.new.live.entries
    c.self.invariant c.in_ok-answer.ensures.stayed
    (watched-begun m call (views_of (seen_world w)) (map live_of es) next (sees ∙ sym (ap views_of (seen-counted w)))
    begun.0 c.self.invariant.watched)
    (omega (arith, c.self.invariant.places))

pub returns-clause-begun : goal.returns-clause-begun
returns-clause-begun c =
    let old = c.self.inside in
    let s : SystemState = state_of old.version old.world old.live.entries old.applied in
    let w = world_of old.world in
    let place = old.applied + 1 in
    let e : Event = Kevent c.args.pid c.args.fd c.args.changes.now c.args.room in
    let next = map live_of c.begin_on.new.live.entries in
    let call : Call = record { kqueue = c.in-Some.kqueue; changes = c.args.changes.now; room = c.args.room } in
    let m = moment_of old.version place (call_plan call) w in
    let ok : IsOk c.kevent-effect.result.verdict = subst IsOk (sym c.in_default.is) refl in
    let planned = call_planned place c.args.pid c.args.fd c.args.room c.args.changes.now w c.kevent-effect.result
    c.in-Some.kqueue c.kevent-effect.ensures.effect ok (sym c.descriptor.ensures ∙ c.in-Some.ensures.found) in
    let begun = c.in_ok-answer.ensures.begun m (called_views old.version place call w)
    (subst (λ v. AreOfVersion v old.live.entries) (sym (version_of old.version place call w))
    c.self.invariant.of_version) in
    subst (λ (now : SystemState). IsBeginning (now.applied + 1) e (system_of now)
    (record (system_of s) { live = next }) c.in_ok-answer.answer) c.self.view_is
    (begins-possible place e call (system_of s) next c.in_ok-answer.answer planned begun)

pub returns-clause-steps : goal.returns-clause-steps
returns-clause-steps c =
    let old = c.self.inside in
    let s : SystemState = state_of old.version old.world old.live.entries old.applied in
    let w = world_of old.world in
    let place = old.applied + 1 in
    let next = map live_of c.begin_on.new.live.entries in
    let kqueue = c.in-Some.kqueue in
    let call : Call = record { kqueue = kqueue; changes = c.args.changes.now; room = c.args.room } in
    let rest : Call = record { kqueue = kqueue; changes = []; room = c.args.room } in
    let m = moment_of old.version place (call_plan call) w in
    let n = moment_of old.version place (call_plan rest) w in
    let ok : IsOk c.kevent-effect.result.verdict = subst IsOk (sym c.in_default.is) refl in
    let there : named_by c.args.pid c.args.fd w ≡ Some (named.Kqueue kqueue) =
    sym c.descriptor.ensures ∙ c.in-Some.ensures.found in
    let planned = call_planned place c.args.pid c.args.fd c.args.room c.args.changes.now w c.kevent-effect.result
    kqueue c.kevent-effect.ensures.effect ok there in
    let does = c.in_ok-answer.ensures.steps m n
    (subst (λ v. AreOfVersion v old.live.entries) (sym (version_of old.version place call w))
    c.self.invariant.of_version)
    (quiet_call old.version place call w) (called_views old.version place call w) (call_of old.version place call w)
    (quiet_call old.version place rest w) (called_views old.version place rest w)
    (version_of old.version place rest w ∙ sym (version_of old.version place call w))
    (call_of old.version place rest w) in
    subst (λ (now : SystemState). IsStepSoFar (now.applied + 1) c.args.pid c.args.fd c.args.changes.now c.args.room
    (system_of now) (record (system_of s) { live = next }) c.in_ok-answer.answer) c.self.view_is
    (step-possible place c.args.pid c.args.fd c.args.room kqueue c.args.changes.now (system_of s) next
    c.in_ok-answer.answer planned
    (few-planned c.args.pid c.args.fd c.args.room kqueue c.args.changes.now w place there planned) does)
