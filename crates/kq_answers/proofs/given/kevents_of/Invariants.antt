-- The events so far are those of the changes so far.
use Rattle.std.proofs.Common.{◌≡◌, map, take}
use Rattle.kq_answers.specs.AnswerText.{kevent_of}
use Rattle.kq_answers.proofs.given.kevents_of.Given as goal

abbrev pub invariant-loop-change : goal.invariant-loop-change
invariant-loop-change l = l.events.items ≡ map kevent_of (take l.change-index l.changes)
