-- The lines in the pieces so far stand before those of the rest.
use Rattle.std.proofs.Common.{◌≡◌, ◌++◌, length}
use Rattle.kq_trace.specs.Rest.{lines_behind, lines_in}
use Rattle.kq_trace.proofs.pieces.pieces_of.Given as goal

abbrev pub invariant-pieces : goal.invariant-pieces
invariant-pieces l = lines_behind l.text ≡ lines_in l.pieces.items ++ lines_behind l.rest

abbrev pub decreases-pieces : goal.decreases-pieces
decreases-pieces l = length l.rest
