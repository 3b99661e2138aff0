use Rattle.std.proofs.Common.{◌≡◌, ◌∙◌, ap, rules}
use Rattle.kq_model.specs.Close.{closed}
use Rattle.kq_model.specs.Hints.{notified}
use Rattle.kq_model.specs.Tallied.{Kqueue}
use Rattle.kq_process.specs.Effects.{pairs_in}
use Rattle.kq_system.proofs.SilentLemmas.{none-follow, room-for-none}
use Rattle.kq_system.proofs.live.Live.happen.Goals as goal

pub notify-requires : goal.notify-requires
notify-requires g c = room-for-none (g.V.Views.sees c.args.views.now) c.args.hints.now c.close.new.kq c.requires

pub returns-clause-kq : goal.returns-clause-kq
returns-clause-kq g c stays =
    let views = g.V.Views.sees c.args.views.now in
    let hints = c.args.hints.now in
    let shut : c.close.new.kq.kq ≡ closed c.args.self.now.kq.owner (pairs_in c.args.pairs.now) c.args.self.now.kq.kq = search rules in
    c.notify.ensures.kq ∙ none-follow c.close.new.kq.version hints (notified views hints c.close.new.kq.kq) c.requires
    ∙ ap (λ (kq : Kqueue). notified views hints kq) shut
