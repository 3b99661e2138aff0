use Rattle.std.proofs.Common.{Option, sym, ap, ◌∙◌}
use Rattle.kq_model.specs.Caller.{Caller}
use Rattle.kq_model.specs.ChangedKnote.{key_of}
use Rattle.kq_model.specs.Knote.{find_knote}
use Rattle.kq_model.specs.Refusals.{is_unopened}
use Rattle.kq_model.specs.Registration.{decided}
use Rattle.kq_model.specs.Tallied.{Knote}
use Rattle.kq_kevent.specs.Owned.{OwnedKqueue, caller}
use Rattle.kq_kevent.proofs.RegisterLaws.{decision-unopened, decision-opened}
use Rattle.kq_kevent.proofs.kq.Kq.decide.Goals as goal

pub returns-then-is_unopened-clause-decision : goal.returns-then-is_unopened-clause-decision
returns-then-is_unopened-clause-decision g c =
    let views = g.V.Views.sees c.args.views.now in
    let change = c.args.change.now in
    let good = sym c.is_malformed.ensures ∙ c.if-is_malformed.false in
    let unopened = sym (ap (λ (v : OwnedKqueue). is_unopened (caller views v) change) c.self.view_is)
    ∙ sym (c.is_unopened.ensures c.self.inside.version) ∙ c.if-is_unopened.true in
    sym (decision-unopened (caller views c.args.self.now) (find_knote (key_of change) c.args.self.now.kq.knotes) change good unopened)

pub returns-clause-decision : goal.returns-clause-decision
returns-clause-decision g c =
    let views = g.V.Views.sees c.args.views.now in
    let change = c.args.change.now in
    let good = sym c.is_malformed.ensures ∙ c.if-is_malformed.false in
    let opened = sym (ap (λ (v : OwnedKqueue). is_unopened (caller views v) change) c.self.view_is)
    ∙ sym (c.is_unopened.ensures c.self.inside.version) ∙ c.if-is_unopened.false in
    let inside : Caller = record { views = views; owner = c.self.inside.owner; version = c.self.inside.version } in
    c.decided.ensures.decided
    ∙ ap (λ (p : Option Knote). decided inside p change)
    (c.locate.ensures.knote ∙ ap (λ key. find_knote key c.self.inside.knotes.knotes) c.key.ensures)
    ∙ ap (λ (v : OwnedKqueue). decided (caller views v) (find_knote (key_of change) v.kq.knotes) change) c.self.view_is
    ∙ sym (decision-opened (caller views c.args.self.now) (find_knote (key_of change) c.args.self.now.kq.knotes) change good opened)
