use Rattle.std.proofs.Common.{◌≡◌, ◌∙◌, true, None, Option, Some, nat_eq, map, sym, refl, ap, subst}
use Rattle.std.proofs.lemmas.Result.{IfOk-weaker, on_err_weaker}
use Rattle.std.specs.Map.{lookup}
use Rattle.std.specs.Option.{option_map}
use Rattle.std.specs.HashMap.{spare}
use Rattle.std.specs.Prelude.{All}
use Rattle.kq_kevent.specs.Owned.{caller}
use Rattle.kq_model.specs.declared.change.Change.{Change}
use Rattle.kq_model.specs.declared.reply.Reply.TheVariants as reply
use Rattle.kq_model.specs.Bits.{add, asks}
use Rattle.kq_model.specs.Targets.{target_of}
use Rattle.kq_model.specs.World.{Call}
use Rattle.kq_system.specs.Showing.{AreFound, IsListed, LiveKqueues}
use Rattle.kq_system.specs.SystemState.{AreOfVersion, AreUpTo, HaveStayed, IsCalled, NumberedKqueue, live_of}
use Rattle.kq_system.proofs.CallLemmas.{called_none, called_quiet, kept, keys_kept, version_kept}
use Rattle.kq_system.proofs.FoundLemmas.{called_listed, found_called, found_more}
use Rattle.kq_system.proofs.ShowLemmas.{Entries}
use Rattle.kq_system.proofs.all_live.call_on.Goals as goal

-- what has no owner is not there
none_of : (found : Option NumberedKqueue) → option_map (λ (u : NumberedKqueue). u.kq.owner) found ≡ None → found ≡ None
none_of None none = refl
none_of (Some v) none = absurd (cc)

-- on one that is not live
pub returns-in_default-clause-called : goal.returns-in_default-clause-called
returns-in_default-clause-called g c m quiet sees versions calls =
    let call : Call = record { kqueue = c.args.kqueue; changes = c.args.changes.now; room = c.args.room } in
    let es = c.live.inside.live.entries in
    let same : es ≡ c.args.live.now.entries = ap (λ (l : LiveKqueues). l.entries) c.live.view_is ∙ c.renew.ensures in
    let gone : lookup (nat_eq c.args.kqueue) es ≡ None =
    none_of (lookup (nat_eq c.args.kqueue) es) (sym c.in_default.ensures) in
    subst (λ (old : Entries). IsCalled m call (map live_of old) (map live_of es) reply.Done) same
    (called_none m call quiet calls es gone)

pub returns-clause-called : goal.returns-clause-called
returns-clause-called g c =
    let call : Call = record { kqueue = c.args.kqueue; changes = c.args.changes.now; room = c.args.room } in
    let es = c.live.inside.live.entries in
    let same : es ≡ c.args.live.now.entries = ap (λ (l : LiveKqueues). l.entries) c.live.view_is ∙ c.renew.ensures in
    let v : NumberedKqueue = record {
      number = c.one.inside.number;
      kq = c.one.inside.kq;
      shown = c.one.inside.shown;
      ended = c.one.inside.ended;
    } in
    let w : NumberedKqueue = record {
      number = c.one.inside.number;
      kq = c.call.new.self;
      shown = c.one.inside.shown;
      ended = c.one.inside.ended;
    } in
    let writes = c.get_mut.follows.holds w in
    let found : lookup (nat_eq c.args.kqueue) es ≡ Some v = sym c.in-Some-get_mut.ensures.value
    ∙ ap Some (sym c.one.view_is) in
    IfOk-weaker c.call.result _ _ (λ r called m quiet sees versions calls.
    subst (λ (es : Entries). IsCalled m call (map live_of es) (map live_of (c.get_mut.follows.lender w).entries) r) same
    (subst (λ es'. IsCalled m call (map live_of es) (map live_of es') r) (sym writes.0)
    (called_quiet m call (g.V.Views.sees c.args.views.now) es v w r quiet sees
    (subst (AreOfVersion m.version) (sym same) versions) calls c.get_mut.ensures.unique found
    refl c.call.ensures.owner called)))
    c.call.ensures.called

pub returns-clause-stayed : goal.returns-clause-stayed
returns-clause-stayed g c =
    let es = c.live.inside.live.entries in
    let same : es ≡ c.args.live.now.entries = ap (λ (l : LiveKqueues). l.entries) c.live.view_is ∙ c.renew.ensures in
    let v : NumberedKqueue = record {
      number = c.one.inside.number;
      kq = c.one.inside.kq;
      shown = c.one.inside.shown;
      ended = c.one.inside.ended;
    } in
    let w : NumberedKqueue = record {
      number = c.one.inside.number;
      kq = c.call.new.self;
      shown = c.one.inside.shown;
      ended = c.one.inside.ended;
    } in
    let writes = c.get_mut.follows.holds w in
    let found : lookup (nat_eq c.args.kqueue) es ≡ Some v = sym c.in-Some-get_mut.ensures.value
    ∙ ap Some (sym c.one.view_is) in
    subst (λ (es : Entries). HaveStayed es (c.get_mut.follows.lender w).entries) same
    (subst (HaveStayed es) (sym writes.0) (record {
      of_version = λ version all. version_kept version c.args.kqueue es v w found c.call.ensures.version all;
      up_to = λ most all. subst (AreUpTo most) (sym (keys_kept c.args.kqueue es w)) all;
    }))

pub returns-clause-memory : goal.returns-clause-memory
returns-clause-memory g c =
    let es = c.live.inside.live.entries in
    let same : es ≡ c.args.live.now.entries = ap (λ (l : LiveKqueues). l.entries) c.live.view_is ∙ c.renew.ensures in
    let v : NumberedKqueue = record {
      number = c.one.inside.number;
      kq = c.one.inside.kq;
      shown = c.one.inside.shown;
      ended = c.one.inside.ended;
    } in
    let w : NumberedKqueue = record {
      number = c.one.inside.number;
      kq = c.call.new.self;
      shown = c.one.inside.shown;
      ended = c.one.inside.ended;
    } in
    let writes = c.get_mut.follows.holds w in
    let found : lookup (nat_eq c.args.kqueue) es ≡ Some v = sym c.in-Some-get_mut.ensures.value
    ∙ ap Some (sym c.one.view_is) in
    on_err_weaker c.call.result (λ kept_kq.
    ap (map live_of) writes.0 ∙ kept c.args.kqueue es v w found refl c.call.ensures.owner kept_kq
    ∙ ap (map live_of) same)
    c.call.ensures.err

-- where the targets of the changes got no place
pub invariant_of-live-in_err-watch_all : goal.invariant_of-live-in_err-watch_all
invariant_of-live-in_err-watch_all g c =
    let old = c.live.inside in
    found_more old.owned.table old.watching.table c.watch_all.new.watching.table old.round old.live.entries
    (spare old.live) old.ready c.live.invariant c.watch_all.ensures.grows (spare old.live)

pub invariant_of-live-2 : goal.invariant_of-live-2
invariant_of-live-2 g c =
    let old = c.live.inside in
    let views = g.V.Views.sees c.args.views.now in
    let es = c.live.inside.live.entries in
    let same : es ≡ c.args.live.now.entries = ap (λ (l : LiveKqueues). l.entries) c.live.view_is ∙ c.renew.ensures in
    let v : NumberedKqueue = record {
      number = c.one.inside.number;
      kq = c.one.inside.kq;
      shown = c.one.inside.shown;
      ended = c.one.inside.ended;
    } in
    let w : NumberedKqueue = record {
      number = c.one.inside.number;
      kq = c.call.new.self;
      shown = c.one.inside.shown;
      ended = c.one.inside.ended;
    } in
    let writes = c.get_mut.follows.holds w in
    let found : lookup (nat_eq c.args.kqueue) es ≡ Some v = sym c.in-Some-get_mut.ensures.value
    ∙ ap Some (sym c.one.view_is) in
    let owners : Some c.in-Some.owner ≡ Some v.kq.owner =
    c.in-Some.ensures ∙ ap (option_map (λ (u : NumberedKqueue). u.kq.owner)) found in
    let owner : c.in-Some.owner ≡ v.kq.owner = cc in
    subst (λ (es : Entries). AreFound es (spare (c.get_mut.follows.lender w)) None old.owned.table
    c.watch_all.new.watching.table old.round) (sym writes.0)
    (found_called old.owned.table old.watching.table c.watch_all.new.watching.table old.round es (spare old.live)
    old.ready c.live.invariant c.watch_all.ensures.grows (spare (c.get_mut.follows.lender w)) c.args.kqueue v w found
    c.call.ensures.owner refl refl
    (λ has. called_listed c.watch_all.new.watching.table c.args.kqueue (caller views v.kq) c.args.room
    c.args.changes.now v.kq.kq w.kq.kq c.call.result
    (subst (λ n. All (λ (x : Change). asks x.flags add ≡ true → IsListed c.args.kqueue c.watch_all.new.watching.table
    x.filter x.ident (target_of views n x.filter x.ident)) c.args.changes.now) owner
    c.in_ok-watch_all.ensures.listed) has c.call.ensures.called c.call.ensures.err))
