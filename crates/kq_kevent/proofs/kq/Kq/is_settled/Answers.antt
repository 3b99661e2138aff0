use Rattle.std.proofs.Common.{◌≡◌, Some, sym, ap, ◌∙◌, subst}
use Rattle.kq_model.specs.Knote.{find_knote}
use Rattle.kq_model.specs.Kqueue.{IsSound}
use Rattle.kq_model.specs.Alerting.{alerted_at}
use Rattle.kq_model.proofs.KnoteLaws.{find_knote-key}
use Rattle.kq_kevent.specs.Owned.{OwnedKqueue}
use Rattle.kq_kevent.proofs.SettledLaws.{settled}
use Rattle.kq_kevent.proofs.kq.Kq.is_settled.Goals as goal

pub returns-clause-settled : goal.returns-clause-settled
unfolding alerted_at
returns-clause-settled c = λ is seen.
    let kq = c.args.self.now.kq in
    let k = c.in-Some.knote.now in
    let here : find_knote c.args.key kq.knotes ≡ Some k = ap (λ (v : OwnedKqueue). find_knote c.args.key v.kq.knotes) (sym c.self.view_is)
    ∙ sym c.in-Some.ensures in
    let there = ap (λ key. find_knote key kq.knotes) (sym (find_knote-key c.args.key kq.knotes k here)) ∙ here in
    ap (λ o. alerted_at seen c.args.hints.now o kq) here
    ∙ settled seen c.args.hints.now kq k (subst (λ (v : OwnedKqueue). IsSound v.kq) c.self.view_is c.self.invariant) there
    (c.is_content.ensures.active is) (c.is_content.ensures.left is)
