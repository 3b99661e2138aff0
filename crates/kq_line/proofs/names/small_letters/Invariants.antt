-- Each byte so far is a letter.
use Rattle.std.proofs.Common.{ℕ, ◌<◌, get_or}
use Rattle.kq_line.specs.Names.{IsLetter}
use Rattle.kq_line.proofs.names.small_letters.Given as goal

abbrev pub invariant-loop-count : goal.invariant-loop-count
invariant-loop-count l = (k : ℕ) → k < l.count → IsLetter (get_or l.text k 0)
