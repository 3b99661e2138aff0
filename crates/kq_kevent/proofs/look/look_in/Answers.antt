use Rattle.std.proofs.Common.{◌≡◌, false, ◌∙◌, ap, sym}
use Rattle.kq_filters.specs.Alone.{reads_target}
use Rattle.kq_model.specs.Tallied.{Knote}
use Rattle.kq_kevent.proofs.look.look_in.Goals as goal

pub returns-else-reads_target : goal.returns-else-reads_target
returns-else-reads_target g c =
    let alone : reads_target c.args.knote.now.key.filter ≡ false =
    ap (λ (k : Knote). reads_target k.key.filter) (sym c.knote.view_is) ∙ sym c.reads_target.ensures ∙ c.if-reads_target.false in
    c.look_alone.ensures.alone alone (g.V.Views.sees c.args.views.now)
