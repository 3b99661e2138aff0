-- Names that stand in a line as they are: their bytes are letters.
use Rattle.std.specs.Prelude.{ℕ, ◌≤◌, ◌<◌, ◌⊎◌, List, length, slice_index}

abbrev pub IsLetter : ℕ → Type 0
IsLetter byte = ((97 ≤ byte) × (byte ≤ 122)) ⊎ ((65 ≤ byte) × (byte ≤ 90))

abbrev pub IsName : List ℕ → Type 0
IsName name = (k : ℕ) → k < length name → IsLetter (slice_index name k)
