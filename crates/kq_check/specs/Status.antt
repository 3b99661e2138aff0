-- The status by which a program ends that says what the answers come to: 0 where all is right.
use Rattle.std.specs.Prelude.{ℕ}
use Rattle.kq_check.specs.declared.outcome.Outcome.{Outcome}
use Rattle.kq_check.specs.declared.outcome.Outcome.TheVariants.{Equal, Allowed, Refused, Unknown, Impossible}

abbrev pub outcome_status : Outcome → ℕ
outcome_status Equal = 0
outcome_status (Allowed first) = 0
outcome_status (Refused at) = 1
outcome_status (Unknown at) = 8
outcome_status (Impossible at why) = 1
