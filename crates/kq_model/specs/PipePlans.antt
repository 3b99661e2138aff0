-- The plans of the records about pipes. `place` is that of the record that made the pipe.
use Rattle.std.specs.Prelude.{ℕ, not, [], ◌∷◌, Option, Some, None, Ok, Err, if◌then◌else◌}
use Rattle.kq_model.specs.declared.doing.Doing.TheVariants.{ToPipe}
use Rattle.kq_model.specs.declared.doing.PipeRecord.TheVariants.{Made}
use Rattle.kq_model.specs.declared.object.Target.TheVariants as target
use Rattle.kq_model.specs.declared.why.Why.TheVariants.{WrongKind, TooMany}
use Rattle.kq_model.specs.ObjectPlan.{Planned, hints_for}
use Rattle.kq_model.specs.PipeSteps.{PipeStep}
use Rattle.kq_model.specs.Pipes.{PipeState}
use Rattle.kq_model.specs.SocketSteps.{is_capacity}

unfoldable pub plan_pipe : ℕ → ℕ → Planned
plan_pipe place cap =
    if not (is_capacity cap) then Err TooMany
    else Ok (record { doings = ToPipe place (Made cap) ∷ []; hints = [] })

-- what one step at a pipe comes to
unfoldable pub pipe_plan : ℕ → PipeStep → Planned
pipe_plan place (Err why) = Err why
pipe_plan place (Ok (told, hint)) = Ok (record {
  doings = ToPipe place told ∷ [];
  hints = hints_for (target.Pipe place) hint;
})

unfoldable pub plan_at_pipe : (PipeState → PipeStep) → ℕ → Option PipeState → Planned
plan_at_pipe step place None = Err WrongKind
plan_at_pipe step place (Some s) = pipe_plan place (step s)
