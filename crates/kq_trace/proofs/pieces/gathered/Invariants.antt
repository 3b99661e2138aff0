-- The records so far, and the batches ahead.
use Rattle.std.proofs.Common.{ℕ, ◌≤◌, List, length}
use Rattle.kq_trace.specs.Batches.{AreReadAs}
use Rattle.kq_trace.proofs.PieceLines.{IsGathered}
use Rattle.kq_trace.proofs.pieces.gathered.Given as goal

abbrev pub invariant-batches : goal.invariant-batches
invariant-batches l = record {
  read : (lines : List (List ℕ)) → AreReadAs lines l.fn.batches.items → IsGathered lines l.part l.ahead.items;
  few : length l.part ≤ l.most;
}

abbrev pub decreases-batches : goal.decreases-batches
decreases-batches l = length l.ahead.items
