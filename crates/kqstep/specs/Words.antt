-- The words behind the program's name.
use Rattle.std.specs.Prelude.{ℕ, Bool, true, false, List, [], ◌∷◌, codes, Result, Ok, Err, nat_eq}
use Rattle.std.specs.Prelude.{if◌then◌else◌}
use Rattle.std.specs.Cmp.Lexicographic.{pointwise}
use Rattle.kq_step.specs.declared.fault.Fault.{Fault}
use Rattle.kq_step.specs.declared.fault.Fault.TheVariants.{Usage}
use Rattle.kqstep.specs.declared.order.Order.{Order}
use Rattle.kqstep.specs.declared.order.Order.TheVariants.{Answers, Help}

-- no word at all, or a request for help
abbrev pub order_of : List (List ℕ) → Result Order Fault
order_of [] = Ok Answers
order_of (word ∷ []) = if pointwise nat_eq word (codes "--help") then Ok Help else Err Usage
order_of (word ∷ next ∷ rest) = Err Usage
