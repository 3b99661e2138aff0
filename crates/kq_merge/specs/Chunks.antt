-- A text in chunks.
use Rattle.std.specs.Prelude.{ℕ, List}
use Rattle.std.specs.Global.{Vec}
use Rattle.std.specs.List.{flat_map}

-- the whole of it
abbrev pub text_in : List (Vec ℕ) → List ℕ
text_in chunks = flat_map (λ (chunk : Vec ℕ). chunk.items) chunks
