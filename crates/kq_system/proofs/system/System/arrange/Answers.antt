use Rattle.std.proofs.Common.{◌≡◌, ◌∙◌, List, map, sym, ap, subst}
use Rattle.kq_kevent.specs.Arranged.{arranged}
use Rattle.kq_model.specs.Tallied.{Kqueue, Live}
use Rattle.kq_model.specs.WatchedNumbers.{WatchTheirNumbers}
use Rattle.kq_model.specs.World.{named_by, seen_world, views_of}
use Rattle.kq_process.specs.World.{world_of}
use Rattle.kq_system.specs.Beginning.{arranged_in, kqueue_in}
use Rattle.kq_system.specs.SystemState.{SystemState, live_of, state_of, system_of}
use Rattle.std.specs.Prelude.{All}
use Rattle.kq_system.proofs.BeginLemmas.{lawful_now, watched-with}
use Rattle.kq_system.proofs.BeginSteps.{arranged-none, arranged-some, named-seen, names-none, names-some}
use Rattle.kq_system.proofs.system.System.arrange.Goals as goal

pub invariant_of-self : goal.invariant_of-self
invariant_of-self c =
    let old = c.self.inside in
    let live = map live_of old.live.entries in
    let next = map live_of c.put_first_in.new.live.entries in
    let does : Live → Kqueue = λ (l : Live). record l.kq { queue = arranged c.args.keys.now l.kq.queue } in
    let views = views_of (seen_world (world_of old.world)) in
    lawful_now old.version old.applied old.world old.live.entries c.put_first_in.new.live.entries c.self.invariant
    c.put_first_in.ensures.stayed
    (subst (All (λ (l : Live). WatchTheirNumbers views l.owner l.kq)) (sym c.put_first_in.ensures.arranged)
    (watched-with c.in-Some.kqueue does views live (λ l has. has) c.self.invariant.watched))

pub returns-in-Some-clause-system : goal.returns-in-Some-clause-system
returns-in-Some-clause-system c =
    let old = c.self.inside in
    let s : SystemState = state_of old.version old.world old.live.entries old.applied in
    let w = world_of old.world in
    let live = map live_of old.live.entries in
    let place = names-some (named_by c.args.pid c.args.fd (seen_world w)) c.in-Some.kqueue
    (named-seen c.args.pid c.args.fd w ∙ sym c.descriptor.ensures ∙ c.in-Some.ensures.found) in
    ap (λ (ls : List Live). record (system_of s) { live = ls })
    (c.put_first_in.ensures.arranged
    ∙ sym (arranged-some c.args.keys.now live c.in-Some.kqueue (kqueue_in (named_by c.args.pid c.args.fd
    (seen_world w))) place))
    ∙ ap (λ (v : SystemState). arranged_in c.args.pid c.args.fd c.args.keys.now (system_of v)) c.self.view_is

pub returns-in_default-clause-system : goal.returns-in_default-clause-system
returns-in_default-clause-system c =
    let old = c.self.inside in
    let s : SystemState = state_of old.version old.world old.live.entries old.applied in
    let w = world_of old.world in
    let live = map live_of old.live.entries in
    let none = names-none (named_by c.args.pid c.args.fd (seen_world w))
    (λ kqueue is. c.kqueue_named.ensures.none c.in_default.is kqueue
    (c.descriptor.ensures ∙ sym (named-seen c.args.pid c.args.fd w) ∙ is)) in
    subst (λ (v : SystemState). system_of v ≡ arranged_in c.args.pid c.args.fd c.args.keys.now
    (system_of v)) c.self.view_is
    (ap (λ (ls : List Live). record (system_of s) { live = ls })
    (sym (arranged-none c.args.keys.now live (kqueue_in (named_by c.args.pid c.args.fd (seen_world w))) none)))
