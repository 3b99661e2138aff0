use Rattle.std.proofs.Common.{◌||◌, sym}
use Rattle.kq_process.specs.Effects.{pairs_in}
use Rattle.kq_system.specs.Showing.{IsTold, asks_owned, asks_watching}
use Rattle.kq_system.proofs.ShowLemmas.{shown-both, shown-of}
use Rattle.kq_system.proofs.showing.show_concerned.Goals as goal

pub returns : goal.returns
returns g c =
    let pairs = pairs_in c.args.pairs.now in
    let hints = c.args.hints.now in
    let views = g.V.Views.sees c.args.views.now in
    let of_pairs = asks_owned c.args.owned.now.table c.args.pairs.now in
    let of_hints = asks_watching c.args.watching.now.table hints in
    shown-of c.args.round (IsTold pairs hints views) (λ p. of_pairs p || of_hints p) (λ p. of_pairs p || of_hints p)
    (c.show_owned-of_pairs.result || c.show_watching-of_hints.result) c.either.result c.args.live.now.entries _
    (sym c.either.ensures) (λ p asked. asked)
    (shown-both c.args.round (IsTold pairs hints views) of_pairs of_hints c.show_owned-of_pairs.result
    c.show_watching-of_hints.result c.args.live.now.entries _ _ c.show_owned-of_pairs.ensures
    c.show_watching-of_hints.ensures)
