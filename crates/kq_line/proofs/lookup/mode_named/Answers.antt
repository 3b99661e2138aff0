use Rattle.std.proofs.Common.{refl}
use Rattle.kq_model.specs.Names.{mode_named}
use Rattle.kq_line.proofs.LookUps.{known_alike}
use Rattle.kq_line.proofs.lookup.mode_named.Goals as goal

pub returns-then-is : goal.returns-then-is
unfolding mode_named
returns-then-is c = known_alike mode_named c.args.name.now _ _ _ c.if-is.true c.is.ensures refl

pub returns-then-is-2 : goal.returns-then-is-2
unfolding mode_named
returns-then-is-2 c = known_alike mode_named c.args.name.now _ _ _ c.if-is-2.true c.is-else-is.ensures refl

pub returns-then-is-3 : goal.returns-then-is-3
unfolding mode_named
returns-then-is-3 c = known_alike mode_named c.args.name.now _ _ _ c.if-is-3.true c.is-else-is-2.ensures refl
