-- The members that are left decide.
use Rattle.std.proofs.Common.{◌≡◌, drop}
use Rattle.kq_line.specs.Shows.{piece_in}
use Rattle.kq_line.proofs.found.Found.piece.Given as goal

abbrev pub invariant-loop-member : goal.invariant-loop-member
invariant-loop-member l = piece_in l.member-items l.name ≡ piece_in (drop l.member-index l.member-items) l.name
