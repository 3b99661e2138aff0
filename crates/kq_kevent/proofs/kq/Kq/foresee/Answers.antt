use Rattle.std.proofs.Common.{sym, ap, ◌∙◌, subst}
use Rattle.kq_knote.specs.Quiet.{AreQuiet}
use Rattle.kq_knote.specs.Reserved.{Reserved}
use Rattle.kq_model.specs.Kqueue.{IsSound}
use Rattle.kq_kevent.specs.Owned.{OwnedKqueue, kqueue_in}
use Rattle.kq_kevent.proofs.ClockedLaws.{quiet-after}
use Rattle.kq_kevent.proofs.kq.Kq.foresee.Goals as goal

pub note_quiet-requires-clause-quiet : goal.note_quiet-requires-clause-quiet
note_quiet-requires-clause-quiet c =
    subst (λ (v : OwnedKqueue). AreQuiet c.args.since c.next_moment-soonest.result v.kq.knotes) (sym c.self.view_is)
    (quiet-after c.args.since c.next_moment-soonest.result c.args.self.now.kq.knotes c.requires c.next_moment-soonest.ensures.none)

pub invariant_of-self : goal.invariant_of-self
invariant_of-self c = subst (λ (v : Reserved). IsSound (kqueue_in v)) (sym c.note_quiet.ensures) c.self.invariant

pub returns : goal.returns
returns c =
    let seen : Reserved → OwnedKqueue = λ v. record {
      kq = kqueue_in v;
      owner = c.self.inside.owner;
      version = c.self.inside.version;
      room = v.room;
    } in
    ap seen c.note_quiet.ensures ∙ c.self.view_is
