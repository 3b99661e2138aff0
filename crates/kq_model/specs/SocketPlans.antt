-- The plans of the records about sockets. `place` is that of the socket: where a record makes one, its own.
use Rattle.std.specs.Prelude.{ℕ, not, ◌&&◌, [], ◌∷◌, Option, Some, None, Result, Ok, Err}
use Rattle.std.specs.Prelude.{if◌then◌else◌}
use Rattle.kq_model.specs.declared.doing.Doing.TheVariants.{ToSocket}
use Rattle.kq_model.specs.declared.doing.SocketRecord.TheVariants.{Made, Connected}
use Rattle.kq_model.specs.declared.object.Named.{Named}
use Rattle.kq_model.specs.declared.object.Named.TheVariants as named
use Rattle.kq_model.specs.declared.object.Target.TheVariants as target
use Rattle.kq_model.specs.declared.why.Why.{Why}
use Rattle.kq_model.specs.declared.why.Why.TheVariants.{WrongKind, TooMany}
use Rattle.kq_model.specs.ObjectPlan.{Planned, hints_for}
use Rattle.kq_model.specs.Objects.{Objects, counted}
use Rattle.kq_model.specs.SocketSteps.{SocketStep, is_capacity, accept}
use Rattle.kq_model.specs.Sockets.{SocketState}

unfoldable pub plan_socket : ℕ → ℕ → ℕ → Planned
plan_socket place receive_buffer send_buffer =
    if not (is_capacity receive_buffer && is_capacity send_buffer) then Err TooMany
    else Ok (record { doings = ToSocket place (Made receive_buffer send_buffer) ∷ []; hints = [] })

unfoldable pub socket_found : ℕ → Option SocketState → Result (ℕ × SocketState) Why
socket_found place None = Err WrongKind
socket_found place (Some s) = Ok (place, s)

-- the socket that a descriptor names, with its place
unfoldable pub socket_at : Named → Objects counted → Result (ℕ × SocketState) Why
socket_at (named.Socket place) o = socket_found place (o.socket place)
socket_at _ o = Err WrongKind

-- what one step at a socket comes to
unfoldable pub socket_plan : ℕ → SocketStep → Planned
socket_plan place (Err why) = Err why
socket_plan place (Ok (told, hint)) = Ok (record {
  doings = ToSocket place told ∷ [];
  hints = hints_for (target.Socket place) hint;
})

unfoldable pub step_of : (SocketState → SocketStep) → Result (ℕ × SocketState) Why → Planned
step_of step (Err why) = Err why
step_of step (Ok (place, s)) = socket_plan place (step s)

unfoldable pub plan_at_socket : (SocketState → SocketStep) → Named → Objects counted → Planned
plan_at_socket step on o = step_of step (socket_at on o)

-- the new socket is made, connected, and then taken from those that wait
unfoldable pub accepted : ℕ → ℕ → ℕ → Planned → Planned
accepted place receive_buffer send_buffer (Err why) = Err why
accepted place receive_buffer send_buffer (Ok p) = Ok (record {
  doings = ToSocket place (Made receive_buffer send_buffer) ∷ ToSocket place Connected ∷ p.doings;
  hints = p.hints;
})

unfoldable pub plan_accept : ℕ → Named → ℕ → ℕ → Objects counted → Planned
plan_accept place on receive_buffer send_buffer o =
    accepted place receive_buffer send_buffer (plan_at_socket (accept receive_buffer send_buffer) on o)
