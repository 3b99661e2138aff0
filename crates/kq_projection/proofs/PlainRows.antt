-- One record more: its row, if it is impossible.
use Rattle.std.proofs.Common.{◌≡◌, ◌∙◌, ◌+◌, ℕ, length, [], ◌∷◌, ◌++◌, Result, Ok, Err, refl, sym, ap, subst}
use Rattle.std.proofs.lemmas.Bool.{false≢true}
use Rattle.std.specs.Prelude.{IsOk}
use Rattle.kq_model.specs.declared.event.Event.{Event}
use Rattle.kq_model.specs.declared.why.Why.{Why}
use Rattle.kq_model.specs.Objects.{counted}
use Rattle.kq_model.specs.OwnedRows.{plain_by, plain_from}
use Rattle.kq_model.specs.Plans.{plan}
use Rattle.kq_model.specs.World as model
use Rattle.kq_model.specs.World.{Planned, Impossible, Possible, empty_world}
use Rattle.kq_model.proofs.HistoryPushed.{plain-push}
use Rattle.kq_model.proofs.ListedTrace.{plain-listed}
use Rattle.kq_process.specs.declared.effect.Effect.{Effect}
use Rattle.kq_process.specs.declared.world.World.{World}
use Rattle.kq_process.specs.Effects.{IsEffectOf}
use Rattle.kq_process.specs.World.{world_of, IsEffectBy}
use Rattle.kq_projection.specs.Plain.{plain_row}
use Rattle.kq_projection.specs.Traced.{Traced, longer, plain_rows_of}
use Rattle.kq_projection.proofs.TracedWorlds.{end, now, past, pushed, reached}

row-of : (at : ℕ) (q : Planned) (effect : Effect) → IsEffectOf q effect → plain_by at q ≡ plain_row at effect.verdict
unfolding plain_by
row-of at (Impossible why) effect refused = ap (plain_row at) (sym refused.verdict)
row-of at (Possible p) effect done = nothing effect.verdict done.verdict
  where
    nothing : (v : Result (Unit {0}) Why) → IsOk v → [] ≡ plain_row at v
    nothing (Ok done) is = refl
    nothing (Err why) is = absurd (false≢true is)

pub plain-longer : (t : Traced) (e : Event) (place : ℕ) (w : World) (effect : Effect) → length t.events + 1 ≡ place → world_of w ≡ now t e
    → IsEffectBy (plan place e) w effect → plain_rows_of (longer t e) ≡ plain_rows_of t ++ plain_row place effect.verdict
plain-longer t e place w effect at same of =
    plain-listed t.version (t.events ++ e ∷ []) ∙ ap (plain_from 1) (pushed t e)
    ∙ plain-push 1 (end t e) (past t e) (plan (end t e) e (now t e)) (reached t e)
    ∙ ap (λ rows. plain_from 1 (past t e) ++ rows)
    (row-of (end t e) (plan (end t e) e (now t e)) effect
    (subst (λ n. IsEffectOf (plan n e (now t e)) effect) (sym at) (subst (λ (x : model.World counted). IsEffectOf (plan place e x) effect) same of))
    ∙ ap (λ n. plain_row n effect.verdict) at)
    ∙ ap (λ rows. rows ++ plain_row place effect.verdict) (sym (plain-listed t.version t.events))
