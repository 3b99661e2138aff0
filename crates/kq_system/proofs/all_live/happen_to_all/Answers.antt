use Rattle.std.proofs.Common.{◌∙◌, None, map, rules, ap, sym, subst}
use Rattle.std.specs.HashMap.{spare}
use Rattle.kq_process.specs.Effects.{pairs_in}
use Rattle.kq_system.specs.Showing.{AreFound, IsTold, LiveKqueues}
use Rattle.kq_system.specs.SystemState.{HaveStayed, happened_to_all, live_of}
use Rattle.kq_system.proofs.ConcernedLemmas.{concerned, of_others, told_subjects}
use Rattle.kq_system.proofs.FoundLemmas.{found_walked}
use Rattle.kq_system.proofs.HappenLemmas.{all_stayed, all_written, nothing_happened, stayed_same}
use Rattle.kq_system.proofs.PassedLemmas.{found_after, shown_stayed}
use Rattle.kq_system.proofs.ShowLemmas.{Entries}
use Rattle.kq_system.proofs.all_live.happen_to_all.Goals as goal

pub returns-then-is_quiet-clause-happened : goal.returns-then-is_quiet-clause-happened
returns-then-is_quiet-clause-happened g c =
    nothing_happened c.args.pairs.now c.args.hints.now (g.V.Views.sees c.args.views.now)
    (map live_of c.args.live.now.entries) (c.is_quiet.ensures.pairs c.if-is_quiet.true)
    (c.is_quiet.ensures.hints c.if-is_quiet.true)

pub returns-then-is_quiet-clause-stayed : goal.returns-then-is_quiet-clause-stayed
returns-then-is_quiet-clause-stayed g c = stayed_same c.args.live.now.entries

pub returns-in_default-clause-happened : goal.returns-in_default-clause-happened
returns-in_default-clause-happened g c =
    all_written _ (pairs_in c.args.pairs.now) c.args.hints.now (g.V.Views.sees c.args.views.now) _
    (λ k v b w f t. record {
      stays = search rules;
      number = search rules;
      owner = search rules;
      version = search rules;
      shown = search rules;
      ended = search rules;
      kq = search rules;
      same = search rules;
    }) _ _ c.retain.ensures.filtered
    ∙ ap (λ (v : LiveKqueues). happened_to_all (pairs_in c.args.pairs.now) c.args.hints.now
    (g.V.Views.sees c.args.views.now) (map live_of v.entries)) c.live.view_is

pub returns-in_default-clause-stayed : goal.returns-in_default-clause-stayed
returns-in_default-clause-stayed g c =
    subst (λ (v : LiveKqueues). HaveStayed v.entries c.retain.new.self.entries) c.live.view_is
    (all_stayed _ (pairs_in c.args.pairs.now) c.args.hints.now (g.V.Views.sees c.args.views.now) _
    (λ k v b w f t. record {
      stays = search rules;
      number = search rules;
      owner = search rules;
      version = search rules;
      shown = search rules;
      ended = search rules;
      kq = search rules;
      same = search rules;
    }) _ _ c.retain.ensures.filtered)

pub invariant_of-live : goal.invariant_of-live
invariant_of-live g c =
    found_walked _ (pairs_in c.args.pairs.now) c.args.hints.now (g.V.Views.sees c.args.views.now) _
    (λ k v b w f t. record {
      stays = search rules;
      number = search rules;
      owner = search rules;
      version = search rules;
      shown = search rules;
      ended = search rules;
      kq = search rules;
      same = search rules;
    }) c.live.inside.owned.table c.live.inside.watching.table c.live.inside.round _ _ _ _ _ c.live.invariant
    c.retain.ensures.filtered

pub returns-clause-happened : goal.returns-clause-happened
returns-clause-happened g c =
    let pairs = c.args.pairs.now in
    let hints = c.args.hints.now in
    let views = g.V.Views.sees c.args.views.now in
    ap (map live_of) c.drop_ended.ensures
    ∙ concerned c.in-Some.round pairs hints views c.live.inside.owned.table c.live.inside.watching.table
    c.live.inside.round c.in-Some.ensures.later (of_others hints c.in-Some.ensures.of_others)
    c.live.inside.live.entries _ c.show_concerned-any.result _ _ c.live.invariant c.show_concerned-any.ensures
    c.len.ensures.unique
    ∙ ap (λ (v : LiveKqueues). happened_to_all (pairs_in pairs) hints views (map live_of v.entries)) c.live.view_is

pub returns-clause-stayed : goal.returns-clause-stayed
returns-clause-stayed g c =
    let pairs = pairs_in c.args.pairs.now in
    let hints = c.args.hints.now in
    let views = g.V.Views.sees c.args.views.now in
    subst (λ (v : LiveKqueues). HaveStayed v.entries c.drop_ended.new.live.entries) c.live.view_is
    (subst (HaveStayed c.live.inside.live.entries) (sym c.drop_ended.ensures)
    (shown_stayed c.in-Some.round (IsTold pairs hints views) c.live.inside.live.entries _ c.show_concerned-any.ensures.passed))

pub invariant_of-live-2 : goal.invariant_of-live-2
invariant_of-live-2 g c =
    let pairs = pairs_in c.args.pairs.now in
    let hints = c.args.hints.now in
    let views = g.V.Views.sees c.args.views.now in
    let old = c.live.inside in
    subst (λ (es : Entries). AreFound es (spare c.drop_ended.new.live) None old.owned.table old.watching.table c.in-Some.round)
    (sym c.drop_ended.ensures)
    (found_after c.in-Some.round (IsTold pairs hints views) (told_subjects pairs hints views) old.owned.table old.watching.table old.round c.in-Some.ensures.later
    old.live.entries _ (spare old.live) (spare c.drop_ended.new.live) old.ready c.live.invariant c.show_concerned-any.ensures.passed)

pub drop_ended-requires : goal.drop_ended-requires
drop_ended-requires g c = λ none. c.show_concerned-any.ensures.calm none c.live.invariant.standing
