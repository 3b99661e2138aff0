use Rattle.std.proofs.Common.{subst, ap, ◌∙◌, [], ◌∷◌, ◌++◌, List, ◌≡◌, rules}
use Rattle.kq_model.specs.Targets.{Posted}
use Rattle.kq_process.specs.Effects.{Tells}
use Rattle.kq_process.proofs.effect.Effect.told.Goals as goal

pub returns : goal.returns
returns c =
    let told : Posted = (c.args.target, c.args.hint) in
    let pushed : c.push.new.self.items ≡ c.take_hints-hints.result.items ++ told ∷ [] = search rules in
    subst (λ hs. Tells hs c.telling.new.self)
    (pushed ∙ ap (λ (hs : List Posted). hs ++ told ∷ []) c.take_hints-hints.ensures) c.telling.ensures
