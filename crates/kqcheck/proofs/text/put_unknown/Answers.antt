use Rattle.std.proofs.Common.{◌≡◌, ℕ, ◌++◌, codes, refl}
use Rattle.std.proofs.lemmas.Result.{on_ok_weaker}
use Rattle.kq_text.proofs.Appends.{and_then, as_text}
use Rattle.kq_check.specs.declared.outcome.Outcome.TheVariants.{Unknown}
use Rattle.kqcheck.specs.Texts.{outcome_line, place_text}
use Rattle.kqcheck.proofs.text.put_unknown.Goals as goal

line-is : (at : ℕ) → outcome_line (Unknown at) ≡ codes "unknown: the call at "
    ++ (place_text at ++ codes ": an earlier one has no answer, and could have returned others\n")
unfolding outcome_line
line-is at = refl

pub returns : goal.returns
returns c = on_ok_weaker c.put-2.result
    (λ end. as_text (line-is c.args.at) (and_then c.in_ok-put.ensures (and_then c.in_ok-put_place.ensures end)))
    c.put-2.ensures
