use Rattle.std.proofs.Common.{◌≡◌, Some, refl, sym, ap, ◌∙◌, subst}
use Rattle.std.specs.Option.{MatchOption}
use Rattle.kq_model.specs.declared.key.Key.{Key}
use Rattle.kq_model.specs.Knote.{find_knote, with_knote}
use Rattle.kq_model.specs.Registration.{queue_for}
use Rattle.kq_model.specs.Tallied.{Knote}
use Rattle.kq_model.proofs.KnoteLaws.{find_knote-key}
use Rattle.kq_kevent.specs.Owned.{OwnedKqueue}
use Rattle.kq_kevent.specs.Ringing.{with_rung}
use Rattle.kq_kevent.proofs.RingWalk.{rung-stands}
use Rattle.kq_kevent.proofs.TurnLaws.{kqueue_of}
use Rattle.kq_kevent.proofs.kq.Kq.ring_key.Goals as goal

pub put_back-requires : goal.put_back-requires
put_back-requires c =
    let kq = c.args.self.now.kq in
    let knote = c.in-Some.knote.now in
    let found : find_knote c.args.key kq.knotes ≡ Some knote =
    ap (λ (v : OwnedKqueue). find_knote c.args.key v.kq.knotes) (sym c.self.view_is) ∙ c.in-Some.ensures knote refl in
    rung-stands c.args.from c.args.to knote c.ring.new.self kq.knotes c.ring.ensures
    (ap (λ (key : Key). find_knote key kq.knotes) (sym (find_knote-key c.args.key kq.knotes knote found)) ∙ found)

pub returns-clause-kq : goal.returns-clause-kq
returns-clause-kq c =
    let kq = c.args.self.now.kq in
    let knote = c.in-Some.knote.now in
    let found : find_knote c.args.key kq.knotes ≡ Some knote =
    ap (λ (v : OwnedKqueue). find_knote c.args.key v.kq.knotes) (sym c.self.view_is) ∙ c.in-Some.ensures knote refl in
    subst (λ o. MatchOption o (c.put_back.new.self.kq ≡ kq) (λ (k : Knote). c.put_back.new.self.kq ≡ with_rung c.args.from c.args.to k kq)) (sym found)
    (c.put_back.ensures.kq ∙ ap (λ (k : Knote). kqueue_of (with_knote k kq.knotes) (queue_for k kq.queue)) c.ring.ensures)
