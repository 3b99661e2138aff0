-- Which filters read what there is to see of their targets.
use Rattle.std.specs.Prelude.{Bool, true, false}
use Rattle.kq_model.specs.declared.filter.Filter.{Filter}
use Rattle.kq_model.specs.declared.filter.Filter.TheVariants.{Read, Write, Proc}

unfoldable pub reads_target : Filter → Bool
reads_target Read = true
reads_target Write = true
reads_target Proc = true
reads_target _ = false
