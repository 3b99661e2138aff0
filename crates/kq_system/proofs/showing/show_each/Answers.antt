use Rattle.std.proofs.Common.{false, refl, sym}
use Rattle.kq_process.specs.Effects.{pairs_in}
use Rattle.kq_system.specs.Places.{has_place}
use Rattle.kq_system.specs.Showing.{IsTold}
use Rattle.kq_system.proofs.NearLemmas.{none_there}
use Rattle.kq_system.proofs.ShowLemmas.{shown-none, shown-of}
use Rattle.kq_system.proofs.showing.show_each.Goals as goal

pub returns-in-None : goal.returns-in-None
returns-in-None g c =
    let told = IsTold (pairs_in c.args.pairs.now) c.args.hints.now (g.V.Views.sees c.args.views.now) in
    let es = c.args.live.now.entries in
    shown-of c.args.round told (λ _. false) (λ p. has_place p c.args.places.now) false false es es refl
    (λ p asked. none_there p c.args.places.now (sym c.in-None.ensures.value) asked)
    (shown-none c.args.round told es)
