-- The test of two sources is that of their kinds, and of what each kind has.
use Rattle.std.proofs.Common.{◌≡◌, rules}
use Rattle.kq_model.specs.declared.object.Target.{Target}
use Rattle.kq_model.specs.Targets.{target_eq}
use Rattle.kq_projection.specs.declared.history.item.Source.{Source}
use Rattle.kq_projection.specs.declared.history.item.Source.TheVariants as source
use Rattle.kq_projection.specs.Items.{source_eq}
use Rattle.kq_projection.proofs.Sourced.{same_source}

target-is : (a b : Target) → source_eq (source.Of a) (source.Of b) ≡ target_eq b a
unfolding target_eq
target-is a b = search rules

pub eq_is : (a b : Source) → source_eq a b ≡ same_source a b
eq_is (source.Of a) (source.Of b) = target-is a b
eq_is a b = search rules
