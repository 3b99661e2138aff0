use Rattle.std.proofs.Common.{◌≡◌, ◌∙◌, ◌+◌, ◌++◌, ℕ, List, IsOk, Some, None, nat_eq, map, refl, sym, ap, subst, arith}
use Rattle.std.specs.Map.{keys_of, lookup}
use Rattle.kq_model.specs.declared.event.Event.{Event}
use Rattle.kq_model.specs.declared.reply.Reply.TheVariants as reply
use Rattle.kq_model.specs.DescriptorPlans.{plan_kqueue}
use Rattle.kq_model.specs.Plans.{plan}
use Rattle.kq_model.specs.System.{born}
use Rattle.kq_model.specs.World.{Planned, Possible}
use Rattle.kq_process.specs.Effects.{IsPossible, world_after}
use Rattle.kq_process.specs.World.{world_of}
use Rattle.kq_process.proofs.Planned.{held_anyway}
use Rattle.kq_system.specs.SystemState.{AreOfVersion, AreUpTo, IsLawful, IsStep, NumberedKqueue, SystemState, live_of, state_of, system_of}
use Rattle.kq_system.proofs.CallLemmas.{not_born, up_to_more}
use Rattle.kq_system.proofs.HappenLemmas.{stayed_same}
use Rattle.kq_system.proofs.StepLemmas.{kqueue_plan, kqueue_possible, lawful_after, lawful_unchanged, possible_kqueue, refused_step}
use Rattle.kq_system.proofs.SystemLemmas.{done, opened, refused, stays_watched}
use Rattle.kq_system.proofs.system.System.open.Goals as goal

pub invariant_of-self-in_err-effect : goal.invariant_of-self-in_err-effect
invariant_of-self-in_err-effect c =
    let old = c.self.inside in
    lawful_unchanged old.version old.applied old.world c.apply.new.self old.live.entries c.reserve_one.new.live.entries
    c.self.invariant c.in_err-effect.ensures.memory c.in_err-effect.ensures.same_last c.in_ok-reserve_one.ensures.entries

pub invariant_of-self-in-Err : goal.invariant_of-self-in-Err
invariant_of-self-in-Err c =
    let old = c.self.inside in
    let s : SystemState = state_of old.version old.world old.live.entries old.applied in
    let w = world_of old.world in
    let place = old.applied + 1 in
    let e = c.args.event.now in
    let steps = refused_step place e (system_of s) (world_of c.apply.new.self) c.in-Err.why
    (refused (plan place e w) c.in_ok-effect.effect c.in-Err.why c.in_ok-effect.ensures.effect c.in-Err.is)
    c.in_ok-effect.ensures.world in
    subst (IsLawful old.version (old.applied + 1) c.apply.new.self) (sym c.in_ok-reserve_one.ensures.entries)
    (lawful_after old.version old.applied old.world c.apply.new.self old.live.entries old.live.entries
    c.self.invariant (stayed_same old.live.entries)
    (stays_watched place (place + 1) e (system_of s) _ (reply.Impossible c.in-Err.why) steps c.in_ok-effect.ensures.next
    c.self.invariant.watched)
    (omega (arith, c.in_ok-effect.ensures.last)))

pub returns-in-Err-clause-reply : goal.returns-in-Err-clause-reply
returns-in-Err-clause-reply c =
    let old = c.self.inside in
    let s : SystemState = state_of old.version old.world old.live.entries old.applied in
    let w = world_of old.world in
    let place = old.applied + 1 in
    let e = c.args.event.now in
    let steps = refused_step place e (system_of s) (world_of c.apply.new.self) c.in-Err.why
    (refused (plan place e w) c.in_ok-effect.effect c.in-Err.why c.in_ok-effect.ensures.effect c.in-Err.is)
    c.in_ok-effect.ensures.world in
    subst (λ (now : SystemState). IsStep (now.applied + 1) e (system_of now)
    (record (system_of s) { world = world_of c.apply.new.self; live = map live_of c.reserve_one.new.live.entries })
    (reply.Impossible c.in-Err.why)) c.self.view_is
    (subst (λ (es : List (ℕ × NumberedKqueue)). IsStep place e (system_of s)
    (record (system_of s) { world = world_of c.apply.new.self; live = map live_of es })
    (reply.Impossible c.in-Err.why)) (sym c.in_ok-reserve_one.ensures.entries) steps)

pub bear-requires-clause-ready : goal.bear-requires-clause-ready
bear-requires-clause-ready c =
    let old = c.self.inside in
    let s : SystemState = state_of old.version old.world old.live.entries old.applied in
    let w = world_of old.world in
    let place = old.applied + 1 in
    let e = c.args.event.now in
    let ok : IsOk c.in_ok-effect.effect.verdict = subst IsOk (sym c.in_default.is) refl in
    let d = done (plan place e w) c.in_ok-effect.effect c.in_ok-effect.ensures.effect ok in
    let p = d.plan_is in
    let here = ap (λ (x : Event). plan place x w) c.requires.event ∙ kqueue_plan place c.args.pid c.args.number w in
    let planned : plan_kqueue c.args.pid c.args.number w ≡ Possible p = sym here ∙ d.is in
    c.in_ok-reserve_one.ensures.ready (c.can_open-opens.ensures.opens p
    (subst (λ (now : SystemState). plan_kqueue c.args.pid c.args.number (world_of now.world) ≡ Possible p)
    c.self.view_is planned))

pub bear-requires-clause-absent : goal.bear-requires-clause-absent
bear-requires-clause-absent c =
    let old = c.self.inside in
    subst (λ (es : List (ℕ × NumberedKqueue)). lookup (nat_eq (old.applied + 1)) es ≡ None)
    (sym c.in_ok-reserve_one.ensures.entries)
    (not_born old.applied (old.applied + 1) old.live.entries (omega arith) c.self.invariant.born)

pub invariant_of-self-2 : goal.invariant_of-self-2
invariant_of-self-2 c =
    let old = c.self.inside in
    let s : SystemState = state_of old.version old.world old.live.entries old.applied in
    let w = world_of old.world in
    let place = old.applied + 1 in
    let e = c.args.event.now in
    let ok : IsOk c.in_ok-effect.effect.verdict = subst IsOk (sym c.in_default.is) refl in
    let d = done (plan place e w) c.in_ok-effect.effect c.in_ok-effect.ensures.effect ok in
    let p = d.plan_is in
    let here = ap (λ (x : Event). plan place x w) c.requires.event ∙ kqueue_plan place c.args.pid c.args.number w in
    let planned : plan_kqueue c.args.pid c.args.number w ≡ Possible p = sym here ∙ d.is in
    let opens = possible_kqueue c.args.pid c.args.number w p planned in
    let live = c.bear.ensures.born ∙ ap (λ (es : List (ℕ × NumberedKqueue)). map live_of es
    ++ born place (Some (record { pid = c.args.pid; number = c.args.number }))) c.in_ok-reserve_one.ensures.entries in
    let steps = opened place c.args.pid c.args.number e p (system_of s) (world_of c.apply.new.self)
    (map live_of c.bear.new.live.entries) d.is opens.plan_is
    (c.in_ok-effect.ensures.world ∙ ap (λ (q : Planned). world_after place q w) d.is) live in
    let es = c.reserve_one.new.live.entries in
    record {
      of_version = c.bear.ensures.version (subst (AreOfVersion old.version)
          (sym c.in_ok-reserve_one.ensures.entries) c.self.invariant.of_version);
      born = c.bear.ensures.up_to (old.applied + 1) (omega arith)
          (subst (λ (l : List (ℕ × NumberedKqueue)). AreUpTo (old.applied + 1) (keys_of l))
          (sym c.in_ok-reserve_one.ensures.entries)
          (up_to_more old.applied (old.applied + 1) (keys_of old.live.entries) (omega arith)
          c.self.invariant.born));
      watched = stays_watched place (place + 1) e (system_of s) _ reply.Done steps c.in_ok-effect.ensures.next
          c.self.invariant.watched;
      places = omega (arith, c.in_ok-effect.ensures.last);
    }

pub returns-clause-reply : goal.returns-clause-reply
returns-clause-reply c =
    let old = c.self.inside in
    let s : SystemState = state_of old.version old.world old.live.entries old.applied in
    let w = world_of old.world in
    let place = old.applied + 1 in
    let e = c.args.event.now in
    let ok : IsOk c.in_ok-effect.effect.verdict = subst IsOk (sym c.in_default.is) refl in
    let d = done (plan place e w) c.in_ok-effect.effect c.in_ok-effect.ensures.effect ok in
    let p = d.plan_is in
    let here = ap (λ (x : Event). plan place x w) c.requires.event ∙ kqueue_plan place c.args.pid c.args.number w in
    let planned : plan_kqueue c.args.pid c.args.number w ≡ Possible p = sym here ∙ d.is in
    let opens = possible_kqueue c.args.pid c.args.number w p planned in
    let live = c.bear.ensures.born ∙ ap (λ (es : List (ℕ × NumberedKqueue)). map live_of es
    ++ born place (Some (record { pid = c.args.pid; number = c.args.number }))) c.in_ok-reserve_one.ensures.entries in
    let steps = opened place c.args.pid c.args.number e p (system_of s) (world_of c.apply.new.self)
    (map live_of c.bear.new.live.entries) d.is opens.plan_is
    (c.in_ok-effect.ensures.world ∙ ap (λ (q : Planned). world_after place q w) d.is) live in
    subst (λ (now : SystemState). IsStep (now.applied + 1) e (system_of now) (record (system_of s) {
      world = world_of c.apply.new.self;
      live = map live_of c.bear.new.live.entries;
    }) reply.Done) c.self.view_is steps

pub returns-in_err-reserve_one-clause-possible : goal.returns-in_err-reserve_one-clause-possible
returns-in_err-reserve_one-clause-possible c =
    let now = c.args.self.now in
    held_anyway (IsPossible (plan (now.applied + 1) c.args.event.now (world_of now.world))) c.from_residual.result
    (kqueue_possible (now.applied + 1) c.args.pid c.args.number c.args.event.now (world_of now.world) c.requires.event
    (c.can_open-opens.ensures.possible c.in_err-reserve_one.ensures.memory))
