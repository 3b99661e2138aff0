use Rattle.std.proofs.Common.{◌≡◌, ◌∙◌, List, ℕ, map, sym, ap, subst}
use Rattle.std.proofs.lemmas.Bool.{true≢false}
use Rattle.std.proofs.lemmas.Result.{IfOk-weaker}
use Rattle.std.specs.HashMap.{spare}
use Rattle.kq_model.specs.ProcessPlans.{forked}
use Rattle.kq_model.specs.World.{views_of}
use Rattle.kq_process.specs.World.{world_of}
use Rattle.kq_process.proofs.Planned.{held_anyway}
use Rattle.kq_system.specs.Forking.{ArePrepared}
use Rattle.kq_system.specs.Showing.{LiveKqueues}
use Rattle.kq_system.specs.SystemState.{AreOfVersion, HaveStayed, followed_to, live_of}
use Rattle.kq_system.proofs.FollowLemmas.{HasFollowed, has_followed, prepared_room}
use Rattle.kq_system.proofs.ForkLemmas.{fork_possible, fork_was_possible, has_forked}
use Rattle.kq_system.proofs.FoundLemmas.{not_ok}
use Rattle.kq_system.proofs.PrepareLemmas.{roomier_found, roomier_live, roomier_stayed}
use Rattle.kq_system.proofs.ShowLemmas.{Entries}
use Rattle.kq_system.proofs.following.fork_all.Goals as goal

-- ---- a fork that is impossible

pub returns-then-not-can_fork-clause-followed : goal.returns-then-not-can_fork-clause-followed
returns-then-not-can_fork-clause-followed c =
    IfOk-weaker c.apply.result _ _ (λ effect does ok version all.
    absurd (true≢false (sym (c.can_fork.ensures.forks (fork_was_possible c.args.place c.args.pid c.args.child
    c.args.event.now (world_of c.args.world.now) effect c.requires.event does ok)) ∙ c.if-not-can_fork.true)))
    c.apply.ensures.effect

-- ---- memory is missing

pub returns-in_err-renew-clause-possible : goal.returns-in_err-renew-clause-possible
returns-in_err-renew-clause-possible c =
    held_anyway _ c.from_residual.result (fork_possible c.args.place c.args.pid c.args.child c.args.event.now
    (world_of c.args.world.now) c.requires.event (c.can_fork.ensures.possible c.if-not-can_fork.false))

pub returns-in_err-round-clause-possible : goal.returns-in_err-round-clause-possible
returns-in_err-round-clause-possible c =
    held_anyway _ c.from_residual-in_err-round.result (fork_possible c.args.place c.args.pid c.args.child
    c.args.event.now
    (world_of c.args.world.now) c.requires.event (c.can_fork.ensures.possible c.if-not-can_fork.false))

pub returns-in_err-places-clause-possible : goal.returns-in_err-places-clause-possible
returns-in_err-places-clause-possible c =
    held_anyway _ c.from_residual-in_err-places.result (fork_possible c.args.place c.args.pid c.args.child
    c.args.event.now
    (world_of c.args.world.now) c.requires.event (c.can_fork.ensures.possible c.if-not-can_fork.false))

pub returns-in_err-prepare_each-clause-possible : goal.returns-in_err-prepare_each-clause-possible
returns-in_err-prepare_each-clause-possible c =
    held_anyway _ c.from_residual-in_err-prepare_each.result (fork_possible c.args.place c.args.pid c.args.child
    c.args.event.now
    (world_of c.args.world.now) c.requires.event (c.can_fork.ensures.possible c.if-not-can_fork.false))

pub invariant_of-live-in_err-prepare_each : goal.invariant_of-live-in_err-prepare_each
invariant_of-live-in_err-prepare_each c =
    let old = c.live.inside in
    let new = c.prepare_each.new in
    roomier_found old.owned.table old.watching.table new.watching.table old.round old.live.entries new.live.entries
    (spare old.live) (spare new.live) old.ready c.live.invariant c.prepare_each.ensures.grows
    c.prepare_each.ensures.roomier

pub returns-in_err-prepare_each-clause-kept : goal.returns-in_err-prepare_each-clause-kept
returns-in_err-prepare_each-clause-kept c =
    held_anyway _ c.from_residual-in_err-prepare_each.result
    (roomier_live c.live.inside.live.entries c.prepare_each.new.live.entries c.prepare_each.ensures.roomier
    ∙ ap (map live_of) (ap (λ (l : LiveKqueues). l.entries) c.live.view_is ∙ c.renew.ensures))

pub returns-in_err-prepare_each-clause-stayed : goal.returns-in_err-prepare_each-clause-stayed
returns-in_err-prepare_each-clause-stayed c =
    subst (λ (es : Entries). HaveStayed es c.prepare_each.new.live.entries)
    (ap (λ (l : LiveKqueues). l.entries) c.live.view_is ∙ c.renew.ensures)
    (roomier_stayed c.live.inside.live.entries c.prepare_each.new.live.entries c.prepare_each.ensures.roomier)

pub invariant_of-live-in_err-effect : goal.invariant_of-live-in_err-effect
invariant_of-live-in_err-effect c =
    let old = c.live.inside in
    let new = c.prepare_each.new in
    roomier_found old.owned.table old.watching.table new.watching.table old.round old.live.entries new.live.entries
    (spare old.live) (spare new.live) old.ready c.live.invariant c.prepare_each.ensures.grows
    c.prepare_each.ensures.roomier

pub returns-in_err-effect-clause-kept : goal.returns-in_err-effect-clause-kept
returns-in_err-effect-clause-kept c =
    held_anyway _ c.from_residual-in_err-effect.result
    (roomier_live c.live.inside.live.entries c.prepare_each.new.live.entries c.prepare_each.ensures.roomier
    ∙ ap (map live_of) (ap (λ (l : LiveKqueues). l.entries) c.live.view_is ∙ c.renew.ensures))

pub returns-in_err-effect-clause-stayed : goal.returns-in_err-effect-clause-stayed
returns-in_err-effect-clause-stayed c =
    subst (λ (es : Entries). HaveStayed es c.prepare_each.new.live.entries)
    (ap (λ (l : LiveKqueues). l.entries) c.live.view_is ∙ c.renew.ensures)
    (roomier_stayed c.live.inside.live.entries c.prepare_each.new.live.entries c.prepare_each.ensures.roomier)

-- ---- it is carried out

pub follow_each-requires : goal.follow_each-requires
follow_each-requires c =
    let new = c.prepare_each.new in
    let possible = c.can_fork.ensures.possible c.if-not-can_fork.false in
    let forks = has_forked c.args.place c.args.pid c.args.child c.args.event.now (world_of c.args.world.now)
    c.in_ok-effect.effect c.requires.event possible c.in_ok-effect.ensures.effect in
    prepared_room c.args.pid c.args.child new.watching.table c.as_slice-2.result.now new.live.entries
    c.as_slice-3.result.now (views_of (world_of c.apply-2.new.self)) c.in_ok-round.round (c.as_slice-3.ensures
    ∙ forks.hints)
    (subst (λ (ps : List ℕ). ArePrepared c.args.pid c.args.child new.watching.table ps new.live.entries)
    (c.as_slice.ensures.value ∙ sym c.as_slice-2.ensures.value) c.in_ok-prepare_each.ensures.prepared)

after : (c : goal.After-drop-places-2) → HasFollowed c.args.pid c.args.child (views_of (world_of c.apply-2.new.self))
    c.live.inside.owned.table c.prepare_each.new.watching.table c.in_ok-round.round c.live.inside.live.entries
    c.follow_each.new.live.entries
after c =
    let old = c.live.inside in
    let new = c.prepare_each.new in
    let possible = c.can_fork.ensures.possible c.if-not-can_fork.false in
    let forks = has_forked c.args.place c.args.pid c.args.child c.args.event.now (world_of c.args.world.now)
    c.in_ok-effect.effect c.requires.event possible c.in_ok-effect.ensures.effect in
    has_followed c.args.pid c.args.child (views_of (world_of c.apply-2.new.self)) old.owned.table old.watching.table
    new.watching.table old.round c.in_ok-round.round old.live.entries new.live.entries c.follow_each.new.live.entries
    (spare old.live) old.ready c.as_slice-3.result.now c.as_slice-2.result.now c.live.invariant
    c.prepare_each.ensures.grows
    c.prepare_each.ensures.roomier c.len-count.ensures.unique
    (c.as_slice-2.ensures.value ∙ c.in_ok-places.ensures ∙ c.at.ensures)
    (subst (λ (ps : List ℕ). ArePrepared c.args.pid c.args.child new.watching.table ps new.live.entries)
    (c.as_slice.ensures.value ∙ sym c.as_slice-2.ensures.value) c.in_ok-prepare_each.ensures.prepared)
    (c.as_slice-3.ensures ∙ forks.hints) c.in_ok-round.ensures c.follow_each.ensures

pub invariant_of-live-2 : goal.invariant_of-live-2
invariant_of-live-2 c = (after c).found (spare c.follow_each.new.live)

pub returns-clause-refused : goal.returns-clause-refused
returns-clause-refused c = λ why is.
    let possible = c.can_fork.ensures.possible c.if-not-can_fork.false in
    let forks = has_forked c.args.place c.args.pid c.args.child c.args.event.now (world_of c.args.world.now)
    c.in_ok-effect.effect c.requires.event possible c.in_ok-effect.ensures.effect in
    absurd (not_ok c.in_ok-effect.effect.verdict why is forks.ok)

pub returns-clause-followed : goal.returns-clause-followed
returns-clause-followed c = λ ok.
    subst (λ (es : Entries). (version : ℕ) → AreOfVersion version es → map live_of c.follow_each.new.live.entries
    ≡ map (followed_to version (forked c.args.pid c.args.child) (views_of (world_of c.apply-2.new.self)))
    (map live_of es))
    (ap (λ (l : LiveKqueues). l.entries) c.live.view_is ∙ c.renew.ensures) (after c).followed

pub returns-clause-stayed : goal.returns-clause-stayed
returns-clause-stayed c =
    subst (λ (es : Entries). HaveStayed es c.follow_each.new.live.entries)
    (ap (λ (l : LiveKqueues). l.entries) c.live.view_is ∙ c.renew.ensures) (after c).stayed
