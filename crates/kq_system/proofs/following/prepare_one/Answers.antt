use Rattle.std.proofs.Common.{◌≡◌, Some, nat_eq, sym, ap, subst}
use Rattle.std.specs.Map.{lookup}
use Rattle.kq_system.specs.Forking.{AreRoomier}
use Rattle.kq_system.proofs.PrepareLemmas.{all_roomier-same, all_roomier-set}
use Rattle.kq_system.proofs.following.prepare_one.Goals as goal

pub returns-in_default-clause-roomier : goal.returns-in_default-clause-roomier
returns-in_default-clause-roomier c =
    subst (AreRoomier c.args.live.now.entries) (sym (ap (λ m. m.entries) c.get_mut.follows.holds-at-none))
    (all_roomier-same c.args.live.now.entries)

pub returns-in_err-follows-clause-roomier : goal.returns-in_err-follows-clause-roomier
returns-in_err-follows-clause-roomier c =
    let es = c.args.live.now.entries in
    let w = c.prepare.new.self in
    let writes = c.get_mut.follows.holds w in
    let found : lookup (nat_eq c.args.place) es ≡ Some c.in-Some.one.now = sym c.in-Some.ensures.value in
    subst (AreRoomier es) (sym writes.0) (all_roomier-set c.args.place es c.in-Some.one.now w found
    c.prepare.ensures.roomier)

pub returns-then-not-follows-clause-roomier : goal.returns-then-not-follows-clause-roomier
returns-then-not-follows-clause-roomier c =
    let es = c.args.live.now.entries in
    let w = c.prepare.new.self in
    let writes = c.get_mut.follows.holds w in
    let found : lookup (nat_eq c.args.place) es ≡ Some c.in-Some.one.now = sym c.in-Some.ensures.value in
    subst (AreRoomier es) (sym writes.0) (all_roomier-set c.args.place es c.in-Some.one.now w found
    c.prepare.ensures.roomier)

pub returns-clause-roomier : goal.returns-clause-roomier
returns-clause-roomier c =
    let es = c.args.live.now.entries in
    let w = c.prepare.new.self in
    let writes = c.get_mut.follows.holds w in
    let found : lookup (nat_eq c.args.place) es ≡ Some c.in-Some.one.now = sym c.in-Some.ensures.value in
    subst (AreRoomier es) (sym writes.0) (all_roomier-set c.args.place es c.in-Some.one.now w found
    c.prepare.ensures.roomier)
