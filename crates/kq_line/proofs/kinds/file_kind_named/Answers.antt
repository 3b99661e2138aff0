-- A name is one of the names that are known.
use Rattle.std.proofs.Common.{refl}
use Rattle.kq_model.specs.Kinds.{kind_among, kind_named}
use Rattle.kq_line.proofs.LookUps.{known_alike}
use Rattle.kq_line.proofs.kinds.file_kind_named.Goals as goal

pub returns-then-is : goal.returns-then-is
unfolding kind_among kind_named
returns-then-is c = known_alike kind_named c.args.name.now _ _ _ c.if-is.true c.is.ensures refl

pub returns-then-is-2 : goal.returns-then-is-2
unfolding kind_among kind_named
returns-then-is-2 c = known_alike kind_named c.args.name.now _ _ _ c.if-is-2.true c.is-else-is.ensures refl

pub returns-then-is-3 : goal.returns-then-is-3
unfolding kind_among kind_named
returns-then-is-3 c = known_alike kind_named c.args.name.now _ _ _ c.if-is-3.true c.is-else-is-2.ensures refl

pub returns-then-is-4 : goal.returns-then-is-4
unfolding kind_among kind_named
returns-then-is-4 c = known_alike kind_named c.args.name.now _ _ _ c.if-is-4.true c.is-else-is-3.ensures refl

pub returns-then-is-5 : goal.returns-then-is-5
unfolding kind_among kind_named
returns-then-is-5 c = known_alike kind_named c.args.name.now _ _ _ c.if-is-5.true c.is-else-is-4.ensures refl

pub returns-then-is-6 : goal.returns-then-is-6
unfolding kind_among kind_named
returns-then-is-6 c = known_alike kind_named c.args.name.now _ _ _ c.if-is-6.true c.is-else-is-5.ensures refl
