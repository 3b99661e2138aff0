use Rattle.std.proofs.Common.{◌≡◌, true, false, ◌&&◌, sym, ap, ◌∙◌}
use Rattle.kq_model.specs.Hints.{takes}
use Rattle.kq_model.specs.Alerting.{is_for}
use Rattle.kq_model.specs.Tallied.{Knote}
use Rattle.kq_model.specs.Targets.{is_target}
use Rattle.kq_knote.proofs.TargetLaws.{target-alike}
use Rattle.kq_kevent.proofs.notify.is_for.Goals as goal

pub returns-then-eq : goal.returns-then-eq
returns-then-eq c =
    let here : is_target c.knote.inside.target c.args.target ≡ true = sym (target-alike c.knote.inside.target c.args.target)
    ∙ sym c.eq.ensures ∙ c.if-eq.true in
    c.takes.ensures ∙ ap (λ b. b && takes c.knote.inside.key.filter c.args.hint) (sym here)
    ∙ ap (λ (n : Knote). is_for n (c.args.target, c.args.hint)) c.knote.view_is

pub returns-else-eq : goal.returns-else-eq
returns-else-eq c =
    let apart : is_target c.knote.inside.target c.args.target ≡ false = sym (target-alike c.knote.inside.target c.args.target)
    ∙ sym c.eq.ensures ∙ c.if-eq.false in
    c.if-eq.false ∙ ap (λ b. b && takes c.knote.inside.key.filter c.args.hint) (sym apart)
    ∙ ap (λ (n : Knote). is_for n (c.args.target, c.args.hint)) c.knote.view_is
