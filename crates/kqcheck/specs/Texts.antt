-- What is said of an outcome. Behind the line of one that is refused stands why.
use Rattle.std.specs.Prelude.{ℕ, ◌+◌, List, ◌++◌, codes, decimal}
use Rattle.kq_model.specs.Names.{why_name}
use Rattle.kq_check.specs.declared.outcome.Outcome.{Outcome}
use Rattle.kq_check.specs.declared.outcome.Outcome.TheVariants.{Equal, Allowed, Refused, Unknown, Impossible}

-- a place, and the line of the trace that has its record
unfoldable pub place_text : ℕ → List ℕ
place_text at = decimal at ++ codes " (line " ++ decimal (at + 1) ++ codes ")"

unfoldable pub outcome_line : Outcome → List ℕ
outcome_line Equal = codes "equal\n"
outcome_line (Allowed first) = codes "allowed: the first call in another order is at " ++ place_text first ++ codes "\n"
outcome_line (Refused at) = codes "not allowed: the call at " ++ place_text at ++ codes "\n"
outcome_line (Unknown at) =
    codes "unknown: the call at " ++ place_text at
    ++ codes ": an earlier one has no answer, and could have returned others\n"
outcome_line (Impossible at why) =
    codes "impossible: the record at " ++ place_text at ++ codes ": " ++ why_name why ++ codes "\n"
