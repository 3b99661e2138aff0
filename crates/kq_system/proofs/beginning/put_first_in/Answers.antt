use Rattle.std.proofs.Common.{◌≡◌, ◌∙◌, None, Some, nat_eq, map, sym, refl, ap, subst}
use Rattle.std.specs.Map.{lookup}
use Rattle.std.specs.HashMap.{spare}
use Rattle.kq_kevent.specs.Arranged.{arranged}
use Rattle.kq_model.specs.Subjects.{HaveSubjects}
use Rattle.kq_model.specs.Tallied.{Kqueue, Live}
use Rattle.kq_system.specs.Beginning.{with_live_at}
use Rattle.kq_system.specs.Showing.{AreFound, IsListed, LiveKqueues}
use Rattle.kq_system.specs.SystemState.{AreUpTo, HaveStayed, NumberedKqueue, live_of}
use Rattle.kq_system.proofs.BeginLemmas.{none_with, set_with}
use Rattle.kq_system.proofs.CallLemmas.{keys_kept, version_kept}
use Rattle.kq_system.proofs.FoundLemmas.{found_called}
use Rattle.kq_system.proofs.ShowLemmas.{Entries}
use Rattle.kq_system.proofs.beginning.put_first_in.Goals as goal

-- where it is not live
pub returns-in_default-clause-arranged : goal.returns-in_default-clause-arranged
returns-in_default-clause-arranged c =
    let es = c.live.inside.live.entries in
    let same : es ≡ c.args.live.now.entries = ap (λ (l : LiveKqueues). l.entries) c.live.view_is in
    let does : Live → Kqueue = λ (l : Live). record l.kq { queue = arranged c.args.keys.now l.kq.queue } in
    ap (λ m. map live_of m.entries) c.get_mut.follows.holds-at-none
    ∙ sym (none_with c.args.kqueue does es (sym c.in_default.ensures.value))
    ∙ ap (λ (es : Entries). with_live_at c.args.kqueue does (map live_of es)) same

pub returns-clause-arranged : goal.returns-clause-arranged
returns-clause-arranged c =
    let es = c.live.inside.live.entries in
    let same : es ≡ c.args.live.now.entries = ap (λ (l : LiveKqueues). l.entries) c.live.view_is in
    let does : Live → Kqueue = λ (l : Live). record l.kq { queue = arranged c.args.keys.now l.kq.queue } in
    let v : NumberedKqueue = record {
      number = c.one.inside.number;
      kq = c.one.inside.kq;
      shown = c.one.inside.shown;
      ended = c.one.inside.ended;
    } in
    let w : NumberedKqueue = record {
      number = c.one.inside.number;
      kq = c.put_first.new.self;
      shown = c.one.inside.shown;
      ended = c.one.inside.ended;
    } in
    let writes = c.get_mut.follows.holds w in
    let found : lookup (nat_eq c.args.kqueue) es ≡ Some v = sym c.in-Some.ensures.value
    ∙ ap Some (sym c.one.view_is) in
    ap (map live_of) writes.0
    ∙ set_with c.args.kqueue does es v w c.get_mut.ensures.unique found refl c.put_first.ensures.owner
    c.put_first.ensures.kq
    ∙ ap (λ (es : Entries). with_live_at c.args.kqueue does (map live_of es)) same

pub returns-clause-stayed : goal.returns-clause-stayed
returns-clause-stayed c =
    let es = c.live.inside.live.entries in
    let same : es ≡ c.args.live.now.entries = ap (λ (l : LiveKqueues). l.entries) c.live.view_is in
    let v : NumberedKqueue = record {
      number = c.one.inside.number;
      kq = c.one.inside.kq;
      shown = c.one.inside.shown;
      ended = c.one.inside.ended;
    } in
    let w : NumberedKqueue = record {
      number = c.one.inside.number;
      kq = c.put_first.new.self;
      shown = c.one.inside.shown;
      ended = c.one.inside.ended;
    } in
    let writes = c.get_mut.follows.holds w in
    let found : lookup (nat_eq c.args.kqueue) es ≡ Some v = sym c.in-Some.ensures.value
    ∙ ap Some (sym c.one.view_is) in
    subst (λ (es : Entries). HaveStayed es (c.get_mut.follows.lender w).entries) same
    (subst (HaveStayed es) (sym writes.0) (record {
      of_version = λ version all. version_kept version c.args.kqueue es v w found c.put_first.ensures.version all;
      up_to = λ most all. subst (AreUpTo most) (sym (keys_kept c.args.kqueue es w)) all;
    }))

pub invariant_of-live-2 : goal.invariant_of-live-2
invariant_of-live-2 c =
    let old = c.live.inside in
    let es = c.live.inside.live.entries in
    let v : NumberedKqueue = record {
      number = c.one.inside.number;
      kq = c.one.inside.kq;
      shown = c.one.inside.shown;
      ended = c.one.inside.ended;
    } in
    let w : NumberedKqueue = record {
      number = c.one.inside.number;
      kq = c.put_first.new.self;
      shown = c.one.inside.shown;
      ended = c.one.inside.ended;
    } in
    let writes = c.get_mut.follows.holds w in
    let found : lookup (nat_eq c.args.kqueue) es ≡ Some v = sym c.in-Some.ensures.value
    ∙ ap Some (sym c.one.view_is) in
    subst (λ (es : Entries). AreFound es (spare (c.get_mut.follows.lender w)) None old.owned.table old.watching.table
    old.round) (sym writes.0)
    (found_called old.owned.table old.watching.table old.watching.table old.round es (spare old.live)
    old.ready c.live.invariant (record { grows = λ key place has. has }) (spare (c.get_mut.follows.lender w))
    c.args.kqueue v w found c.put_first.ensures.owner refl refl
    (λ has. subst (λ (kq : Kqueue). HaveSubjects (IsListed c.args.kqueue old.watching.table) kq.knotes)
    (sym c.put_first.ensures.kq) has))
