-- What gives the bytes of a text.
use Rattle.std.specs.Prelude.{◌≡◌, ◌≤◌, ◌+◌, ℕ, List, length, Option, Some, IfSome}
use Rattle.std.specs.Io.KnownBytes.{Consumes}
use Rattle.kq_trace.specs.declared.source.Lent.{Lent}
use Rattle.kq_trace.specs.declared.source.Input.{Input}

-- what a source still has
pub record Ahead : Type 0 where
  -- the bytes, where they are known
  pub known : Option (List ℕ)
  -- no more than so many bytes come
  pub most : ℕ

-- these bytes came
pub record Gives (before after : Ahead) (more : List ℕ) : Type 0 where
  pub bytes : Consumes before.known after.known more
  pub most : after.most + length more ≡ before.most

-- these bytes are what the input had, where that is known
abbrev pub WereGiven : Option (List ℕ) → List ℕ → Type 0
WereGiven given bytes = IfSome given (λ xs. bytes ≡ xs)

-- all that comes are these bytes
abbrev pub Had : Ahead → List ℕ → Type 0
Had ahead bytes = WereGiven ahead.known bytes × (length bytes ≤ ahead.most)

abbrev pub lent_ahead : Lent → Ahead
lent_ahead s = record { known = Some s.rest.now; most = length s.rest.now }

abbrev pub input_ahead : {I : Type 0} → (I → Option (List ℕ)) → Input I → Ahead
input_ahead remaining s = record { known = remaining s.reader.now; most = s.left }
