use Rattle.std.proofs.Common.{subst}
use Rattle.kq_process.specs.Effects.{Tells}
use Rattle.kq_process.proofs.effect.Effect.quiet.Goals as goal

pub returns : goal.returns
returns c = subst (λ hs. Tells hs c.telling.new.self) c.take_hints-hints.ensures c.telling.ensures
