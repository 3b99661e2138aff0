-- The kind that the record names.
use Rattle.kq_line.proofs.RecordKinds.{kind_read}
use Rattle.kq_line.proofs.records.event_from.Goals as goal

pub returns : goal.returns
returns c = kind_read c.args.found.now c.in_ok-text_at.field-0.now c.in_ok-kind.kind c.event_as.result c.in_ok-text_at.ensures c.in_ok-kind.ensures c.event_as.ensures
