-- The table of open descriptors, in rising order of pid and number.
use Rattle.std.specs.Prelude.{◌≡◌, ℕ, ◌==◌, Bool, true, not, ◌&&◌, ◌||◌, List, []}
use Rattle.std.specs.Prelude.{◌∷◌, filter, nat_lt, Option, Some}
use Rattle.std.specs.Prelude.{None, if◌then◌else◌, All}
use Rattle.kq_model.specs.declared.object.Named.{Named}
use Rattle.kq_model.specs.Close.{Pair, has_pair}

-- an open descriptor
pub record Descriptor : Type 0 where
  pub pid : ℕ
  pub number : ℕ
  pub named : Named

unfoldable pub named_among : ℕ → ℕ → List Descriptor → Option Named
named_among pid number [] = None
named_among pid number (d ∷ ds) =
    if (d.pid == pid) && (d.number == number) then Some d.named else named_among pid number ds

-- by pid, then by number
unfoldable pub is_before : Descriptor → Descriptor → Bool
is_before a b = nat_lt a.pid b.pid || ((a.pid == b.pid) && nat_lt a.number b.number)

-- one more, before the first that comes after it
unfoldable pub with_descriptor : Descriptor → List Descriptor → List Descriptor
with_descriptor d [] = d ∷ []
with_descriptor d (e ∷ es) = if is_before d e then d ∷ e ∷ es else e ∷ with_descriptor d es

unfoldable pub with_descriptors : List Descriptor → List Descriptor → List Descriptor
with_descriptors [] table = table
with_descriptors (d ∷ ds) table = with_descriptors ds (with_descriptor d table)

abbrev pub without_closed : List Pair → List Descriptor → List Descriptor
without_closed closed table = filter (λ d. not (has_pair d.pid d.number closed)) table

-- each comes before all later ones
abbrev pub IsRising : List Descriptor → Type 0
IsRising [] = Unit {0}
IsRising (d ∷ ds) = All (λ e. is_before d e ≡ true) ds × IsRising ds
