use Rattle.std.proofs.Common.{◌≡◌, true, false, ◌&&◌, sym, ap, ◌∙◌}
use Rattle.kq_model.specs.declared.object.Target.TheVariants.{Process}
use Rattle.kq_model.specs.Bits.{has_note, track_note}
use Rattle.kq_model.specs.Following.{follows}
use Rattle.kq_model.specs.Tallied.{Knote}
use Rattle.kq_model.specs.Targets.{is_target}
use Rattle.kq_knote.proofs.TargetLaws.{target-alike}
use Rattle.kq_kevent.proofs.follow.follows.Goals as goal

pub returns-then-eq : goal.returns-then-eq
returns-then-eq c =
    let here : is_target c.knote.inside.target (Process c.args.pid) ≡ true = sym (target-alike c.knote.inside.target (Process c.args.pid))
    ∙ sym c.eq.ensures ∙ c.if-eq.true in
    ap (λ b. b && has_note c.knote.inside.fflags track_note) (sym here)
    ∙ ap (λ (n : Knote). follows c.args.pid n) c.knote.view_is

pub returns-else-eq : goal.returns-else-eq
returns-else-eq c =
    let apart : is_target c.knote.inside.target (Process c.args.pid) ≡ false = sym (target-alike c.knote.inside.target (Process c.args.pid))
    ∙ sym c.eq.ensures ∙ c.if-eq.false in
    c.if-eq.false ∙ ap (λ b. b && has_note c.knote.inside.fflags track_note) (sym apart)
    ∙ ap (λ (n : Knote). follows c.args.pid n) c.knote.view_is
