use Rattle.std.proofs.Common.{ap, ◌∙◌}
use Rattle.kq_model.specs.Tallying.{tallying}
use Rattle.kq_model.specs.Knote.{find_knote}
use Rattle.kq_model.specs.Registration.{with_made}
use Rattle.kq_model.specs.Targets.{target_of}
use Rattle.kq_model.specs.Tallied.{Knote}
use Rattle.kq_kevent.specs.Owned.{OwnedKqueue, caller}
use Rattle.kq_model.proofs.RegistrationLaws.{made-key}
use Rattle.kq_kevent.proofs.RegisterLaws.{made-by}
use Rattle.kq_kevent.proofs.kq.Kq.make.Goals as goal

pub take_in-requires-clause-absent : goal.take_in-requires-clause-absent
take_in-requires-clause-absent g c =
    let by = caller (g.V.Views.sees c.args.views.now) c.args.self.now in
    let ks = c.args.self.now.kq.knotes in
    let version = ap (λ (v : OwnedKqueue). v.version) c.self.view_is in
    let target = c.target_of-target.ensures
    ∙ ap (λ (v : OwnedKqueue). target_of by.views v.owner c.args.change.now.filter c.args.change.now.ident) c.self.view_is in
    let is = made-by by c.args.change.now c.first-knote.result c.attend.new.knote
    (c.first-knote.ensures by target version c.clock_of-moment.ensures) c.attend.ensures in
    ap (λ (n : Knote). find_knote n.key ks) is
    ∙ ap (λ key. find_knote key ks) (made-key tallying by c.args.change.now) ∙ c.requires.absent

pub returns-clause-kq : goal.returns-clause-kq
returns-clause-kq g c =
    let by = caller (g.V.Views.sees c.args.views.now) c.args.self.now in
    let version = ap (λ (v : OwnedKqueue). v.version) c.self.view_is in
    let target = c.target_of-target.ensures
    ∙ ap (λ (v : OwnedKqueue). target_of by.views v.owner c.args.change.now.filter c.args.change.now.ident) c.self.view_is in
    c.take_in.ensures.kq
    ∙ ap (λ (n : Knote). with_made n c.args.self.now.kq) (made-by by c.args.change.now c.first-knote.result c.attend.new.knote
    (c.first-knote.ensures by target version c.clock_of-moment.ensures) c.attend.ensures)
