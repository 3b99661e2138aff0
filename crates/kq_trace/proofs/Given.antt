-- What came of a source, one piece behind the other.
use Rattle.std.proofs.Common.{ℕ, List, [], ◌++◌, refl, arith, length-append}
use Rattle.std.proofs.KnownBytes.{Consumes-all, Consumes-nil, Consumes-trans}
use Rattle.std.specs.Io.KnownBytes.{IsAtEnd}
use Rattle.kq_trace.specs.Source.{Ahead, Gives, Had}

pub gives_none : (a : Ahead) → Gives a a []
gives_none a = record { bytes = Consumes-nil a.known; most = omega arith }

pub gives_more : (a b c : Ahead) (first later : List ℕ) → Gives a b first → Gives b c later → Gives a c (first ++ later)
gives_more a b c first later gave gives = record {
  bytes = Consumes-trans a.known b.known c.known first later gave.bytes gives.bytes;
  most = omega (arith, gave.most, gives.most, length-append first later);
}

-- the source is at its end
pub gave_all : (a b : Ahead) (bytes : List ℕ) → Gives a b bytes → IsAtEnd b.known → Had a bytes
gave_all a b bytes gave end = (Consumes-all a.known b.known bytes [] bytes gave.bytes end refl, omega (arith, gave.most))
