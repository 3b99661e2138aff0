-- What a split keeps of a trace: what was seen of the world, what the records say, and the rows of impossible ones.
use Rattle.std.specs.Prelude.{◌≡◌, ◌<◌, ◌^◌, List, length}
use Rattle.kq_model.specs.declared.row.Row.{Row}
use Rattle.kq_projection.specs.declared.history.trace_messages.TraceMessages.{TraceMessages}
use Rattle.kq_projection.specs.declared.history.seen.Seen.{Seen}
use Rattle.kq_projection.specs.Messages.{AreMessagesOf}
use Rattle.kq_projection.specs.Seen.{seen_by, Shows}
use Rattle.kq_projection.specs.Traced.{Traced, plain_rows_of, seen_at}

pub record IsSplit (t : Traced) (seen : Seen) (heard : TraceMessages) (plain : List Row) : Type 0 where
  pub shows : Shows (seen_at t) (seen_by seen)
  pub said : AreMessagesOf t heard
  pub plain_is : plain ≡ plain_rows_of t
  -- of the type of traces
  pub countable : length t.events < 2 ^ 31
