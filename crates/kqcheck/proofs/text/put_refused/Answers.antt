use Rattle.std.proofs.Common.{◌≡◌, ℕ, ◌++◌, codes, refl}
use Rattle.std.proofs.lemmas.Result.{on_ok_weaker}
use Rattle.kq_text.proofs.Appends.{and_then, as_text}
use Rattle.kq_check.specs.declared.outcome.Outcome.TheVariants.{Refused}
use Rattle.kqcheck.specs.Texts.{outcome_line, place_text}
use Rattle.kqcheck.proofs.text.put_refused.Goals as goal

line-is : (at : ℕ) → outcome_line (Refused at) ≡ codes "not allowed: the call at " ++ (place_text at ++ codes "\n")
unfolding outcome_line
line-is at = refl

pub returns : goal.returns
returns c = on_ok_weaker c.put-2.result
    (λ end. as_text (line-is c.args.at) (and_then c.in_ok-put.ensures (and_then c.in_ok-put_place.ensures end)))
    c.put-2.ensures
