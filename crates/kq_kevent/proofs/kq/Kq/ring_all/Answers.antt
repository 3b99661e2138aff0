use Rattle.std.proofs.Common.{refl, sym, ap, ◌∙◌, arith}
use Rattle.kq_kevent.specs.Ringing.{rung_each}
use Rattle.kq_kevent.proofs.ClockLaws.{ringing-none, rung-next-at, all-clocked}
use Rattle.kq_kevent.proofs.kq.Kq.ring_all.Goals as goal

pub loop-moment-init : goal.loop-moment-init
unfolding rung_each
loop-moment-init c =
    let kq = c.args.self.now.kq in
    record {
      kq = ap (λ ks. rung_each c.args.from c.args.to ks kq)
          (sym (ringing-none c.args.from c.args.to c.next_moment-moment.result kq.knotes (omega arith) c.next_moment-moment.ensures.none));
      later = c.next_moment-moment.ensures.later;
      bounded = c.next_moment-moment.ensures.bounded;
      owner = refl;
      version = refl;
      room = refl;
      limit = refl;
    }

pub loop-moment-preserved : goal.loop-moment-preserved
loop-moment-preserved c =
    let kq = c.args.self.now.kq in
    let from = c.args.from in
    let to = c.args.to in
    let moment = c.loop-moment.moment in
    let next = c.next_moment-moment-in-loop-moment in
    let own = c.requires.sound.own_keys in
    record {
      kq = rung-next-at from to kq own moment next.result c.loop-moment.self.kq c.ring_at.new.self.kq c.loop-moment.invariant.later next.ensures.later
          c.loop-moment.invariant.kq c.ring_at.ensures.kq next.ensures.none;
      later = omega (arith, c.loop-moment.invariant.later, next.ensures.later);
      bounded = next.ensures.bounded;
      owner = c.ring_at.ensures.owner ∙ c.loop-moment.invariant.owner;
      version = c.ring_at.ensures.version ∙ c.loop-moment.invariant.version;
      room = c.ring_at.ensures.room ∙ c.loop-moment.invariant.room;
      limit = c.ring_at.ensures.limit ∙ c.loop-moment.invariant.limit;
    }

pub returns-clause-kq : goal.returns-clause-kq
returns-clause-kq c =
    let kq = c.args.self.now.kq in
    c.loop-moment.invariant.kq
    ∙ all-clocked c.args.from c.args.to kq c.requires.sound c.requires.ordered c.requires.within c.loop-moment.moment c.loop-moment-test.false c.loop-moment.invariant.bounded
