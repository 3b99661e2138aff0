use Rattle.std.proofs.Common.{length, ap, ◌∙◌, arith}
use Rattle.kq_model.specs.Following.{followed}
use Rattle.kq_model.specs.Tallied.{Kqueue}
use Rattle.kq_kevent.proofs.NotifiedLaws.{after-laws, after-model, after-named}
use Rattle.kq_kevent.proofs.kq.Kq.notify.Goals as goal

pub follow-requires : goal.follow-requires
follow-requires g c =
    let views = g.V.Views.sees c.args.views.now in
    let hints = c.args.hints.now in
    let same = ap (λ v. length (followed v hints c.hear.new.self.kq).knotes) c.hear.ensures.version
    ∙ ap (λ (q : Kqueue). length (followed c.args.self.now.version hints q).knotes) c.hear.ensures.kq in
    omega (arith, same, c.requires, c.hear.ensures.limit)

pub returns-clause-kq : goal.returns-clause-kq
returns-clause-kq g c =
    c.follow.ensures.kq ∙ ap (λ v. followed v c.args.hints.now c.hear.new.self.kq) c.hear.ensures.version
    ∙ ap (followed c.args.self.now.version c.args.hints.now) c.hear.ensures.kq

pub returns-clause-laws : goal.returns-clause-laws
returns-clause-laws g c = after-laws (g.V.Views.sees c.args.views.now) c.args.hints.now c.args.self.now.kq c.hear.ensures.sound

pub returns-clause-model : goal.returns-clause-model
returns-clause-model g c = after-model (g.V.Views.sees c.args.views.now) c.args.self.now.version c.args.hints.now c.args.self.now.kq _ (returns-clause-kq g c)

pub returns-clause-named : goal.returns-clause-named
returns-clause-named g c =
    after-named (g.V.Views.sees c.args.views.now) c.args.self.now.version c.args.hints.now c.args.self.now.kq _ (returns-clause-kq g c) c.args.self.now.owner
