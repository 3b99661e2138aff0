use Rattle.std.proofs.Common.{◌≡◌, ℕ, ◌++◌, codes, subst, append_assoc}
use Rattle.std.proofs.lemmas.Result.{on_ok_weaker}
use Rattle.kq_model.specs.declared.why.Why.{Why}
use Rattle.kq_model.specs.Names.{why_name}
use Rattle.kq_text.specs.Adds.{Adds}
use Rattle.kq_text.proofs.Appends.{and_then, as_text}
use Rattle.kq_check.specs.declared.outcome.Outcome.TheVariants.{Impossible}
use Rattle.kqcheck.specs.Texts.{outcome_line, place_text}
use Rattle.kqcheck.proofs.text.put_impossible.Goals as goal

line-is : (at : ℕ) (why : Why) → outcome_line (Impossible at why)
    ≡ codes "impossible: the record at " ++ (place_text at ++ (codes ": " ++ (why_name why ++ codes "\n")))
unfolding outcome_line
line-is at why = simp append_assoc

pub returns : goal.returns
returns c =
    let name = subst (λ name. Adds c.put-2.new.out.items name c.put-3.new.out.items) c.name.ensures c.in_ok-put-3.ensures in
    on_ok_weaker c.put-4.result
    (λ end. as_text (line-is c.args.at c.args.why)
    (and_then c.in_ok-put.ensures (and_then c.in_ok-put_place.ensures (and_then c.in_ok-put-2.ensures (and_then name end)))))
    c.put-4.ensures
