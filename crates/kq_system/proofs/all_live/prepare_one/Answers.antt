use Rattle.std.proofs.Common.{◌<◌, None, Some, rules, sym, subst}
use Rattle.std.specs.HashMap.{spare}
use Rattle.kq_system.specs.Showing.{AreFound}
use Rattle.kq_system.proofs.FoundLemmas.{found_owned, ready_room}
use Rattle.kq_system.proofs.ShowLemmas.{Entries}
use Rattle.kq_system.proofs.all_live.prepare_one.Goals as goal

pub invariant_of-live-in_err-add : goal.invariant_of-live-in_err-add
invariant_of-live-in_err-add c =
    let old = c.live.inside in
    subst (λ (es : Entries). AreFound es (spare c.reserve.new.self) None c.add.new.self.table old.watching.table old.round)
    (sym c.reserve.ensures.entries)
    (found_owned old.watching.table old.round old.live.entries (spare old.live) old.ready old.owned.table
    c.add.new.self.table (spare c.reserve.new.self) None c.live.invariant c.add.ensures.grows (λ birth is. absurd (cc)))

pub invariant_of-live-then-wanted : goal.invariant_of-live-then-wanted
invariant_of-live-then-wanted c =
    let old = c.live.inside in
    let room : 0 < spare c.reserve.new.self = search rules in
    subst (λ (es : Entries). AreFound es (spare c.reserve.new.self) (Some (c.args.place, c.args.pid)) c.add.new.self.table
    old.watching.table old.round) (sym c.reserve.ensures.entries)
    (found_owned old.watching.table old.round old.live.entries (spare old.live) old.ready old.owned.table
    c.add.new.self.table (spare c.reserve.new.self) (Some (c.args.place, c.args.pid)) c.live.invariant
    c.add.ensures.grows
    (ready_room c.add.new.self.table (spare c.reserve.new.self) c.args.place c.args.pid room
    c.in_ok-add.ensures.added))
