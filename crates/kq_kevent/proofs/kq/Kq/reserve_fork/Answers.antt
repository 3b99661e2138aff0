use Rattle.std.proofs.Common.{◌∙◌, sym, subst, arith}
use Rattle.std.proofs.lemmas.Bool.{false≢true}
use Rattle.std.proofs.lemmas.Result.{on_ok_weaker}
use Rattle.kq_model.specs.Kqueue.{HaveOwnKeys}
use Rattle.kq_model.specs.Tallied.{Kqueue}
use Rattle.kq_kevent.proofs.ForkRoom.{room-for-fork}
use Rattle.kq_kevent.proofs.kq.Kq.reserve_fork.Goals as goal

pub returns-then-not-tracks-clause-fork : goal.returns-then-not-tracks-clause-fork
returns-then-not-tracks-clause-fork c views child =
    room-for-fork views c.args.pid child c.args.self.now c.tracks.ensures.own_keys
    (λ does. absurd (false≢true (sym c.if-not-tracks.true ∙ c.tracks.ensures.tracks ∙ does)))

pub returns-clause-fork : goal.returns-clause-fork
returns-clause-fork c =
    let now = c.reserve_for.new.self in
    let own = subst (λ (kq : Kqueue). HaveOwnKeys kq.knotes) (sym c.reserve_for.ensures.kq) c.tracks.ensures.own_keys in
    on_ok_weaker c.reserve_for.result (λ room views child. room-for-fork views c.args.pid child now own (λ _. omega (arith, room)))
    c.reserve_for.ensures.room
