use Rattle.std.proofs.Common.{◌∙◌, ap, map, rules, subst}
use Rattle.std.specs.HashMap.{spare}
use Rattle.kq_model.specs.Clock.{Span}
use Rattle.kq_system.specs.Showing.{LiveKqueues}
use Rattle.kq_system.specs.SystemState.{HaveStayed, live_of, ticked}
use Rattle.kq_system.proofs.TickLemmas.{all_ticked, clock_concerned, clock_found, clock_stayed, found_ticked, ticked_stayed}
use Rattle.kq_system.proofs.all_live.tick_all.Goals as goal

-- where all were told
pub returns-in_default-clause-ticked : goal.returns-in_default-clause-ticked
returns-in_default-clause-ticked c =
    let span : Span = record { from = c.args.from; to = c.args.to } in
    all_ticked _ span _
    (λ k v b w f t. record {
      stays = search rules;
      number = search rules;
      owner = search rules;
      version = search rules;
      shown = search rules;
      ended = search rules;
      kq = search rules;
      same = search rules;
    }) _ _ c.retain.ensures.filtered
    ∙ ap (λ (v : LiveKqueues). map (ticked span) (map live_of v.entries)) c.live.view_is

pub returns-in_default-clause-stayed : goal.returns-in_default-clause-stayed
returns-in_default-clause-stayed c =
    subst (λ (v : LiveKqueues). HaveStayed v.entries c.retain.new.self.entries) c.live.view_is
    (ticked_stayed _ (record { from = c.args.from; to = c.args.to }) _
    (λ k v b w f t. record {
      stays = search rules;
      number = search rules;
      owner = search rules;
      version = search rules;
      shown = search rules;
      ended = search rules;
      kq = search rules;
      same = search rules;
    }) _ _ c.retain.ensures.filtered)

pub invariant_of-live : goal.invariant_of-live
invariant_of-live c =
    found_ticked _ (record { from = c.args.from; to = c.args.to }) _
    (λ k v b w f t. record {
      stays = search rules;
      number = search rules;
      owner = search rules;
      version = search rules;
      shown = search rules;
      ended = search rules;
      kq = search rules;
      same = search rules;
    }) c.live.inside.owned.table c.live.inside.watching.table c.live.inside.round _ _ _ _ _ c.live.invariant
    c.retain.ensures.filtered

-- where those were told that may have timers
pub returns-clause-ticked : goal.returns-clause-ticked
returns-clause-ticked c =
    let old = c.live.inside in
    let span : Span = record { from = c.args.from; to = c.args.to } in
    clock_concerned c.in-Some.round span old.owned.table old.watching.table old.round c.in-Some.ensures.later
    old.live.entries c.ring_timed.new.live.entries (spare old.live) (spare c.ring_timed.new.live) old.ready c.live.invariant c.ring_timed.ensures c.len.ensures.unique
    ∙ ap (λ (v : LiveKqueues). map (ticked span) (map live_of v.entries)) c.live.view_is

pub returns-clause-stayed : goal.returns-clause-stayed
returns-clause-stayed c =
    let old = c.live.inside in
    let span : Span = record { from = c.args.from; to = c.args.to } in
    subst (λ (v : LiveKqueues). HaveStayed v.entries c.ring_timed.new.live.entries) c.live.view_is
    (clock_stayed c.in-Some.round span old.owned.table old.watching.table old.round c.in-Some.ensures.later
    old.live.entries c.ring_timed.new.live.entries (spare old.live) (spare c.ring_timed.new.live) old.ready c.live.invariant c.ring_timed.ensures)

pub invariant_of-live-2 : goal.invariant_of-live-2
invariant_of-live-2 c =
    let old = c.live.inside in
    let span : Span = record { from = c.args.from; to = c.args.to } in
    clock_found c.in-Some.round span old.owned.table old.watching.table old.round c.in-Some.ensures.later
    old.live.entries c.ring_timed.new.live.entries (spare old.live) (spare c.ring_timed.new.live) old.ready c.live.invariant c.ring_timed.ensures
