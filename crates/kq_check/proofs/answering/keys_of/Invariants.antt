-- The keys so far are those of the events so far.
use Rattle.std.proofs.Common.{◌≡◌, map, take}
use Rattle.kq_model.specs.CallLaws.{key_of_event}
use Rattle.kq_check.proofs.answering.keys_of.Given as goal

abbrev pub invariant-loop-event : goal.invariant-loop-event
invariant-loop-event l = l.keys.items ≡ map key_of_event (take l.event-index l.events)
