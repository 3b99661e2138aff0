-- After a refusal the number is its, and the pointer is as it was.
use Rattle.std.proofs.Common.{◌∙◌, ap, sym, subst, Err, w32}
use mir.ValLaws.{to_z-of_z}
use Rattle.libkqsim.specs.Kept.{IsNew}
use Rattle.libkqsim.proofs.life.publish.Goals as goal

pub returns-in-Err : goal.returns-in-Err
returns-in-Err c =
    let none = c.none.result in
    let is = c.none.ensures in
    let same = to_z-of_z w32 c.refusal_number.result (record { sfits = c.refusal_number.type_inv }) in
    subst (λ made. IsNew c.args.version c.args.at none.at none.number made) (sym is.2) (
      c.in-Err.refusal,
      is.0 ∙ same ∙ c.refusal_number.ensures,
      (λ argument. c.made.ensures.argument (c.in-Err.is ∙ ap Err argument)),
      is.1,
    )
