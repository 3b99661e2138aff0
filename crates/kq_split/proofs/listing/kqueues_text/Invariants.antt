-- What is written, with the lines of the kqueues that are left behind it.
use Rattle.std.proofs.Common.{◌≡◌, ◌++◌, ℕ, List, drop}
use Rattle.kq_projection.specs.Traced.{places_of}
use Rattle.kq_split.specs.Texts.{AreKqueueLines}
use Rattle.kq_split.proofs.listing.kqueues_text.Given as goal

abbrev pub invariant-loop-kqueue : goal.invariant-loop-kqueue
invariant-loop-kqueue l = (rest : List ℕ) → AreKqueueLines l.split (drop l.kqueue-index (places_of l.split)) rest
    → AreKqueueLines l.split (places_of l.split) (l.text.items ++ rest)
