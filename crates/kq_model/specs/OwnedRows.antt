-- The rows of the fold, each with the kqueue whose row it is.
use Rattle.std.specs.Prelude.{◌<◌, ℕ, ◌+◌, ◌==◌, Bool, true, false, List, [], ◌∷◌, ◌++◌}
use Rattle.std.specs.Prelude.{map, filter, All, Option, Some}
use Rattle.std.specs.Prelude.{None}
use Rattle.kq_model.specs.declared.reply.Reply.TheVariants as reply
use Rattle.kq_model.specs.declared.row.Row.{Row}
use Rattle.kq_model.specs.Hearing.{Hearing}
use Rattle.kq_model.specs.Objects.{Keeping}
use Rattle.kq_model.specs.System.{System, Stepped, step_by, row_of}
use Rattle.kq_model.specs.World.{Planned, Impossible, Possible}

pub record OwnedRow : Type 0 where
  -- the place of its birth; none for the row of an impossible record
  pub kqueue : Option ℕ
  pub row : Row

unfoldable pub same_kqueue : Option ℕ → Option ℕ → Bool
same_kqueue None None = true
same_kqueue (Some place) (Some other) = other == place
same_kqueue _ _ = false

abbrev pub owned_by : Option ℕ → List Row → List OwnedRow
owned_by kqueue rows = map (λ (r : Row). record { kqueue = kqueue; row = r }) rows

module _ {S A B C D : Type 0} {h : Hearing S} {k : Keeping A B C D} where
  abbrev pub owned_in : ℕ → Stepped h k → List OwnedRow
  owned_in place stepped = owned_by stepped.kqueue (row_of place stepped.reply)

  -- of the records with these plans, the first of which stands at `place`
  unfoldable pub owned_rows : ℕ → System h k → List Planned → List OwnedRow
  owned_rows place s [] = []
  owned_rows place s (q ∷ qs) =
      owned_in place (step_by place q s) ++ owned_rows (place + 1) (step_by place q s).system qs

-- those of one kqueue, or of none, in their order
abbrev pub rows_of : Option ℕ → List OwnedRow → List Row
rows_of kqueue rows = map (λ (r : OwnedRow). r.row) (filter (λ (r : OwnedRow). same_kqueue kqueue r.kqueue) rows)

abbrev pub all_rows : List OwnedRow → List Row
all_rows rows = map (λ (r : OwnedRow). r.row) rows

-- ---- the rows of impossible records, which no kqueue has part in

unfoldable pub plain_by : ℕ → Planned → List Row
plain_by place (Impossible why) = record { at = place; reply = reply.Impossible why } ∷ []
plain_by place (Possible p) = []

unfoldable pub plain_from : ℕ → List Planned → List Row
plain_from place [] = []
plain_from place (q ∷ qs) = plain_by place q ++ plain_from (place + 1) qs

-- each row stands before those of later places, and no place stands twice
abbrev pub Rise : List Row → Type 0
Rise [] = Unit {0}
Rise (row ∷ rest) = All (λ later. row.at < later.at) rest × Rise rest
