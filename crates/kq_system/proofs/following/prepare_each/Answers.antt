use Rattle.std.proofs.Common.{take, sym, subst, add-one}
use Rattle.kq_system.specs.Forking.{ArePrepared}
use Rattle.kq_system.proofs.PrepareLemmas.{all_roomier-same, all_roomier-twice, end_prepared, next_prepared}
use Rattle.kq_system.proofs.following.prepare_each.Goals as goal

pub loop-place-init : goal.loop-place-init
loop-place-init c = record {
  grows = record { grows = λ key place has. has };
  roomier = all_roomier-same c.args.live.now.entries;
  prepared = λ place v asked found. absurd (cc);
}

pub loop-place-preserved : goal.loop-place-preserved
loop-place-preserved c =
    let so_far = c.loop-place.invariant in
    let here = c.prepare_one.ensures in
    let i = c.loop-place.place-index in
    record {
      grows = record { grows = λ key place has. here.grows.grows key place (so_far.grows.grows key place has) };
      roomier = all_roomier-twice _ _ _ so_far.roomier here.roomier;
      prepared = subst (λ n. ArePrepared c.args.pid c.args.child c.prepare_one.new.watching.table
          (take n c.args.places.now)
          c.prepare_one.new.live.entries) (sym (add-one i))
          (next_prepared c.args.pid c.args.child c.loop-place.watching.table c.prepare_one.new.watching.table
          here.grows
          c.args.places.now i 0 c.loop-place-test.true c.loop-place.live.entries c.prepare_one.new.live.entries
          here.roomier
          so_far.prepared c.in_ok-prepare_one.ensures.prepared);
    }

pub returns-clause-prepared : goal.returns-clause-prepared
returns-clause-prepared c =
    end_prepared c.args.pid c.args.child c.loop-place.watching.table c.args.places.now c.loop-place.place-index
    c.loop-place-test.false c.loop-place.live.entries c.loop-place.invariant.prepared

pub returns-in_err-prepare_one-clause-roomier : goal.returns-in_err-prepare_one-clause-roomier
returns-in_err-prepare_one-clause-roomier c = all_roomier-twice _ _ _ c.loop-place.invariant.roomier
    c.prepare_one.ensures.roomier
