-- The answers so far stand before those of the rest.
use Rattle.std.proofs.Common.{◌≡◌, ◌≤◌, ◌+◌, length}
use Rattle.kq_trace.specs.Rest.{lines_behind}
use Rattle.kq_answers.specs.Answers.{answers_from, answers_in}
use Rattle.kq_answers.specs.Read.{behind_answers}
use Rattle.kq_answers.proofs.reading.read_answers.Given as goal

abbrev pub invariant-lines : goal.invariant-lines
invariant-lines l = record {
  so_far : answers_in l.text ≡ behind_answers l.answers.items (answers_from l.number l.before (lines_behind l.rest));
  counted : l.number + length l.rest ≤ length l.text + 1;
}

abbrev pub decreases-lines : goal.decreases-lines
decreases-lines l = length l.rest
