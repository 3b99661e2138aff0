-- A name is one of the names that are known.
use Rattle.std.proofs.Common.{refl}
use Rattle.bitflags.specs.Sets.{find_name, find_row}
use Rattle.kq_model.specs.FlagNames.{flag_table}
use Rattle.kq_line.proofs.LookUps.{known_alike}
use Rattle.kq_line.proofs.flags.flag_named.Goals as goal

pub returns-then-is : goal.returns-then-is
unfolding find_row
returns-then-is c = known_alike (find_name flag_table) c.args.name.now _ _ _ c.if-is.true c.is.ensures refl

pub returns-then-is-2 : goal.returns-then-is-2
unfolding find_row
returns-then-is-2 c = known_alike (find_name flag_table) c.args.name.now _ _ _ c.if-is-2.true c.is-else-is.ensures refl

pub returns-then-is-3 : goal.returns-then-is-3
unfolding find_row
returns-then-is-3 c = known_alike (find_name flag_table) c.args.name.now _ _ _ c.if-is-3.true c.is-else-is-2.ensures refl

pub returns-then-is-4 : goal.returns-then-is-4
unfolding find_row
returns-then-is-4 c = known_alike (find_name flag_table) c.args.name.now _ _ _ c.if-is-4.true c.is-else-is-3.ensures refl

pub returns-then-is-5 : goal.returns-then-is-5
unfolding find_row
returns-then-is-5 c = known_alike (find_name flag_table) c.args.name.now _ _ _ c.if-is-5.true c.is-else-is-4.ensures refl

pub returns-then-is-6 : goal.returns-then-is-6
unfolding find_row
returns-then-is-6 c = known_alike (find_name flag_table) c.args.name.now _ _ _ c.if-is-6.true c.is-else-is-5.ensures refl

pub returns-then-is-7 : goal.returns-then-is-7
unfolding find_row
returns-then-is-7 c = known_alike (find_name flag_table) c.args.name.now _ _ _ c.if-is-7.true c.is-else-is-6.ensures refl

pub returns-then-is-8 : goal.returns-then-is-8
unfolding find_row
returns-then-is-8 c = known_alike (find_name flag_table) c.args.name.now _ _ _ c.if-is-8.true c.is-else-is-7.ensures refl

pub returns-then-is-9 : goal.returns-then-is-9
unfolding find_row
returns-then-is-9 c = known_alike (find_name flag_table) c.args.name.now _ _ _ c.if-is-9.true c.is-else-is-8.ensures refl

pub returns-then-is-10 : goal.returns-then-is-10
unfolding find_row
returns-then-is-10 c = known_alike (find_name flag_table) c.args.name.now _ _ _ c.if-is-10.true c.is-else-is-9.ensures refl
