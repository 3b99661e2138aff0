use Rattle.std.proofs.Common.{sym, ap, ◌∙◌}
use Rattle.kq_model.specs.Look.{look}
use Rattle.kq_model.specs.Tallied.{Knote}
use Rattle.kq_kevent.specs.Telling.{with_put}
use Rattle.kq_kevent.proofs.TellLaws.{activated-already, looked-stands}
use Rattle.kq_kevent.proofs.kq.Kq.stay.Goals as goal

pub put_back-requires : goal.put_back-requires
put_back-requires g c =
    looked-stands (look (g.V.Views.sees c.args.views.now) c.args.told) c.args.found.now.row c.args.told c.looked_at.result c.args.self.now.kq.knotes
    c.looked_at.ensures c.requires.stands

pub returns-then-told-clause-kq : goal.returns-then-told-clause-kq
returns-then-told-clause-kq g c =
    let told = c.args.told in
    let active = ap (λ (k : Knote). k.active) (sym c.told.view_is) ∙ c.if-told.true in
    c.keep.ensures.kq
    ∙ ap (λ (k : Knote). with_put k c.args.self.now.kq) (sym (activated-already (look (g.V.Views.sees c.args.views.now) told) told active))

pub returns-else-told-clause-kq : goal.returns-else-told-clause-kq
returns-else-told-clause-kq g c =
    c.put_back.ensures.kq ∙ ap (λ (k : Knote). with_put k c.args.self.now.kq) c.looked_at.ensures
