-- The lines so far stand before those of the rest.
use Rattle.std.proofs.Common.{◌≡◌, ◌≤◌, ◌++◌, length, vec_len}
use Rattle.kq_trace.specs.Rest.{lines_behind, texts}
use Rattle.kq_trace.proofs.line.lines_up_to.Given as goal

abbrev pub invariant-lines : goal.invariant-lines
invariant-lines l = record {
  all : lines_behind l.text ≡ texts l.lines.items ++ lines_behind l.rest;
  few : vec_len l.lines ≤ l.most;
}

abbrev pub decreases-lines : goal.decreases-lines
decreases-lines l = length l.rest
