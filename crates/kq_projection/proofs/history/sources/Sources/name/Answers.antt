use Rattle.std.proofs.Common.{◌++◌, subst}
use Rattle.std.proofs.lemmas.Result.{on_ok_weaker}
use Rattle.kq_model.specs.Knote.{is_timer, watches_number}
use Rattle.kq_model.specs.References.{named_target}
use Rattle.kq_projection.specs.Sources.{Grows, clock_sources, number_sources, target_sources}
use Rattle.kq_projection.proofs.Known.{grows-then}
use Rattle.kq_projection.proofs.history.sources.Sources.name.Goals as goal

pub returns : goal.returns
returns g c =
    let change = c.args.change.now in
    let views = g.V.Views.sees c.args.views.now in
    let numbers = number_sources (watches_number change.filter) c.args.pid change.ident in
    let targets = target_sources (named_target views c.args.pid change.filter change.ident) in
    let clock = clock_sources (is_timer change.filter) in
    on_ok_weaker c.add_clock.result
    (λ last. grows-then numbers (targets ++ clock) c.args.self.now c.add_number.new.self c.add_clock.new.self c.in_ok-add_number.ensures
    (grows-then targets clock c.add_number.new.self c.add_target.new.self c.add_clock.new.self (subst (λ t. Grows (target_sources t) c.add_number.new.self c.add_target.new.self) c.named_target.ensures c.in_ok-add_target.ensures.grows) last))
    c.add_clock.ensures
