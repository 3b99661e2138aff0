-- What a record comes to at one pipe: the first reason why it is impossible, or what is noted of the pipe
-- and which hint its knotes get.
-- Source: pipe(2); a write without a reader, which would raise SIGPIPE, is impossible (this project's
-- choice).
use Rattle.std.specs.Prelude.{ℕ, pos, int_lt, not, Option, Some, Result, Ok, Err, if◌then◌else◌}
use Rattle.kq_model.specs.declared.doing.PipeRecord.{PipeRecord}
use Rattle.kq_model.specs.declared.doing.PipeRecord.TheVariants as pipe
use Rattle.kq_model.specs.declared.object.Hint.{Hint}
use Rattle.kq_model.specs.declared.object.Hint.TheVariants.{Readable, Writable}
use Rattle.kq_model.specs.declared.why.Why.{Why}
use Rattle.kq_model.specs.declared.why.Why.TheVariants.{WrongKind, TooMany}
use Rattle.kq_model.specs.Pipes.{PipeState, has_reader, pipe_space}

abbrev pub PipeStep : Type 0
PipeStep = Result (PipeRecord × Option Hint) Why

unfoldable pub read_pipe : ℕ → PipeState → PipeStep
read_pipe bytes s = if int_lt s.bytes (pos bytes) then Err TooMany else Ok (pipe.Read bytes, Some Writable)

unfoldable pub write_pipe : ℕ → PipeState → PipeStep
write_pipe bytes s =
    if not (has_reader s) then Err WrongKind
    else if int_lt (pipe_space s) (pos bytes) then Err TooMany
    else Ok (pipe.Written bytes, Some Readable)
