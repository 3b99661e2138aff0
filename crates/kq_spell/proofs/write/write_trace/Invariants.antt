-- The text so far stands before that of the events that are left.
use Rattle.std.proofs.Common.{◌≡◌, ◌++◌, drop, take}
use Rattle.kq_model.specs.Spelling.{records_text, spelling}
use Rattle.kq_spell.proofs.ReadAgain.{FitRecords}
use Rattle.kq_spell.proofs.write.write_trace.Given as goal

abbrev pub invariant-loop-event : goal.invariant-loop-event
invariant-loop-event l = record {
  so_far : spelling l.trace.version l.trace.events ≡ l.text.items ++ records_text (drop l.event-index l.event-items);
  fits : FitRecords (take l.event-index l.event-items);
}
