use Rattle.std.proofs.Common.{◌≡◌, None, Some, sym, ap, ◌∙◌}
use Rattle.kq_model.specs.Knote.{find_knote}
use Rattle.kq_model.specs.Alerting.{alerted_at}
use Rattle.kq_kevent.specs.Owned.{OwnedKqueue}
use Rattle.kq_kevent.proofs.TellLaws.{told-more, told-stands, told-alerted, untold-alerted}
use Rattle.kq_kevent.proofs.kq.Kq.tell_at.Goals as goal

pub returns-in_default-clause-kq : goal.returns-in_default-clause-kq
unfolding alerted_at
returns-in_default-clause-kq g c =
    let kq = c.args.self.now.kq in
    let absent : find_knote c.args.key kq.knotes ≡ None = ap (λ (v : OwnedKqueue). find_knote c.args.key v.kq.knotes) (sym c.self.view_is)
    ∙ sym c.in_default.ensures.knote in
    ap (λ o. alerted_at (g.V.Views.sees c.args.views.now) c.args.hints.now o kq) (sym absent)

pub leave-requires-clause-stands : goal.leave-requires-clause-stands
leave-requires-clause-stands g c =
    let here = ap (λ (v : OwnedKqueue). find_knote c.args.key v.kq.knotes) (sym c.self.view_is) ∙ sym c.in-Some.ensures.knote in
    told-stands c.args.hints.now c.args.key c.args.self.now.kq.knotes c.in-Some.found.row c.tell_all-told.result c.tell_all-told.ensures here

pub leave-requires-clause-more : goal.leave-requires-clause-more
leave-requires-clause-more g c = told-more c.args.hints.now c.in-Some.found.row c.tell_all-told.result c.tell_all-told.ensures

pub returns-then-told-clause-kq : goal.returns-then-told-clause-kq
unfolding alerted_at
returns-then-told-clause-kq g c =
    let views = g.V.Views.sees c.args.views.now in
    let kq = c.args.self.now.kq in
    let here : find_knote c.args.key kq.knotes ≡ Some c.in-Some.found.row = ap (λ (v : OwnedKqueue). find_knote c.args.key v.kq.knotes) (sym c.self.view_is)
    ∙ sym c.in-Some.ensures.knote in
    c.leave.ensures.kq
    ∙ told-alerted views c.args.hints.now kq c.in-Some.found.row c.tell_all-told.result c.tell_all-told.ensures c.if-told.true
    ∙ ap (λ o. alerted_at views c.args.hints.now o kq) (sym here)

pub returns-else-told-clause-kq : goal.returns-else-told-clause-kq
unfolding alerted_at
returns-else-told-clause-kq g c =
    let views = g.V.Views.sees c.args.views.now in
    let kq = c.args.self.now.kq in
    let here : find_knote c.args.key kq.knotes ≡ Some c.in-Some.found.row = ap (λ (v : OwnedKqueue). find_knote c.args.key v.kq.knotes) (sym c.self.view_is)
    ∙ sym c.in-Some.ensures.knote in
    untold-alerted views c.args.hints.now kq c.in-Some.found.row c.tell_all-told.result c.tell_all-told.ensures c.if-told.false
    ∙ ap (λ o. alerted_at views c.args.hints.now o kq) (sym here)
