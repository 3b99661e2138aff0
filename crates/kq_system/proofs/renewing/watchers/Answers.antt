use Rattle.std.proofs.Common.{◌∙◌, ◌≤◌, length, sym, ap, subst, arith}
use Rattle.kq_model.specs.Kqueue.{HaveOwnKeys}
use Rattle.kq_model.specs.Subjects.{HaveSubjects}
use Rattle.kq_system.specs.Showing.{Each, IsListed}
use Rattle.kq_system.specs.SystemState.{NumberedKqueue}
use Rattle.kq_system.proofs.FoundLemmas.{listed_more}
use Rattle.kq_system.proofs.RenewLemmas.{Each-end, Each-next, Each-none}
use Rattle.kq_system.proofs.ShowLemmas.{Each-weaker}
use Rattle.kq_system.proofs.renewing.watchers.Goals as goal

pub watch_knotes-requires : goal.watch_knotes-requires
watch_knotes-requires c = subst HaveOwnKeys (sym c.knotes-knotes.ensures.knotes) c.knotes-knotes.ensures.own_keys

pub loop-at-preserved : goal.loop-at-preserved
loop-at-preserved c =
    let before = c.loop-at.watching.table in
    let after = c.watch_knotes.new.watching.table in
    Each-next (λ place v. HaveSubjects (IsListed place after) v.kq.kq.knotes) c.args.live.now.entries c.loop-at.at
    (c.in-Some.place.now, c.in-Some.one.now) (sym c.in-Some.ensures.entry)
    (Each-weaker (λ place v. HaveSubjects (IsListed place before) v.kq.kq.knotes)
    (λ place v. HaveSubjects (IsListed place after) v.kq.kq.knotes)
    (λ place v has. listed_more place before after c.watch_knotes.ensures.grows v.kq.kq.knotes has) _ c.loop-at.invariant)
    (subst (λ (ks : _). HaveSubjects (IsListed c.in-Some.place.now after) ks)
    (c.knotes-knotes.ensures.knotes ∙ ap (λ (v : NumberedKqueue). v.kq.kq.knotes) c.one.view_is)
    c.in_ok-watch_knotes.ensures.listed)

pub returns-in_default : goal.returns-in_default
returns-in_default c =
    Each-none (λ place v. HaveSubjects (IsListed place c.loop-at.watching.table) v.kq.kq.knotes)
    c.args.live.now.entries c.loop-at.at (sym c.in_default.ensures.entry) c.loop-at.invariant

pub returns : goal.returns
returns c =
    let past : length c.args.live.now.entries ≤ c.loop-at.at = omega (arith, c.loop-at-test.false, c.len-at-end.ensures.len) in
    subst (λ t. Each (λ place v. HaveSubjects (IsListed place t) v.kq.kq.knotes) c.args.live.now.entries)
    (sym c.settle.ensures)
    (Each-end (λ place v. HaveSubjects (IsListed place c.loop-at.watching.table) v.kq.kq.knotes)
    c.args.live.now.entries c.loop-at.at past c.loop-at.invariant)
