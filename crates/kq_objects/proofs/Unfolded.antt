-- What the proofs of a function unfold together, by one name: to unfold it is to unfold all that its line names.
use Rattle.kq_model.specs.FilePlans.{plan_seek, sought_in, sought, read_file, noted, plan_file, made_file}
use Rattle.kq_model.specs.FilePlans.{plan_truncate, truncated, sized}
use Rattle.kq_model.specs.Holding.{hold_doings, release, release_doings, release_hint}
use Rattle.kq_model.specs.Holders.{hold, holders_of}
use Rattle.kq_model.specs.Holding.{left, leaving, close_hint, end_hint}
use Rattle.kq_model.specs.ObjectPlan.{hints_for}
use Rattle.kq_model.specs.Objects.{all_done}

-- ---- descriptors that name objects

unfoldable pub holding : Unit {0}
unfolding hold hold_doings holders_of all_done
holding = tt

unfoldable pub releasing : Unit {0}
unfolding release release_doings all_done
releasing = tt

-- an end of a pipe
unfoldable pub releasing_end : Unit {0}
unfolding releasing end_hint
releasing_end = tt

unfoldable pub releasing_description : Unit {0}
unfolding releasing left leaving close_hint
releasing_description = tt

-- whatever a descriptor names
unfoldable pub releasing_named : Unit {0}
unfolding releasing release_hint holders_of
releasing_named = tt

-- ---- plans about files

unfoldable pub seeking : Unit {0}
unfolding plan_seek sought_in sought hints_for
seeking = tt

unfoldable pub reading : Unit {0}
unfolding read_file noted hints_for
reading = tt

unfoldable pub making_file : Unit {0}
unfolding plan_file made_file hints_for
making_file = tt

unfoldable pub truncating : Unit {0}
unfolding plan_truncate truncated sized
truncating = tt
