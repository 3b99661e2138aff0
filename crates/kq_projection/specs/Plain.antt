-- The rows of impossible records.
use Rattle.std.specs.Prelude.{ℕ, List, [], ◌∷◌, Result, Ok, Err}
use Rattle.kq_model.specs.declared.reply.Reply.TheVariants.{Impossible}
use Rattle.kq_model.specs.declared.row.Row.{Row}
use Rattle.kq_model.specs.declared.why.Why.{Why}

-- that of the record at a place, if it is impossible
abbrev pub plain_row : ℕ → Result (Unit {0}) Why → List Row
plain_row at (Ok done) = []
plain_row at (Err why) = record { at = at; reply = Impossible why } ∷ []
