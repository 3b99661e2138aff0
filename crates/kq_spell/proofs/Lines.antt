-- The lines of a text, and the version that its first one names.
use Rattle.std.proofs.Common.{◌≡◌, ℕ, ◌≤◌, ◌^◌, Bool, true, false, ◌==◌, cond, List, [], ◌∷◌, length, Some, Ok, refl, sym}
use Rattle.std.proofs.lemmas.Bool.{le-ltb}
use Rattle.kq_model.specs.Lines.{onto_first, pieces_of, without_empty_end}
use Rattle.kq_model.specs.Reading.{header_of, header_version, json_of, version_on}

some_onto : (b : ℕ) (pieces : List (List ℕ)) → (q : List ℕ) × (qs : List (List ℕ)) × (onto_first b pieces ≡ q ∷ qs)
unfolding onto_first
some_onto b [] = (b ∷ [], [], refl)
some_onto b (piece ∷ pieces) = (b ∷ piece, pieces, refl)

some_if : (c : Bool) (b : ℕ) (pieces : List (List ℕ)) → (q : List ℕ) × (qs : List (List ℕ)) × (cond c ([] ∷ pieces) (onto_first b pieces) ≡ q ∷ qs)
some_if true b pieces = ([], pieces, refl)
some_if false b pieces = some_onto b pieces

-- there is always a piece
pub some_piece : (text : List ℕ) → (q : List ℕ) × (qs : List (List ℕ)) × (pieces_of text ≡ q ∷ qs)
unfolding pieces_of
some_piece [] = ([], [], refl)
some_piece (b ∷ bs) = some_if (b == 10) b (pieces_of bs)

keeps_at : (piece q : List ℕ) (qs : List (List ℕ)) → without_empty_end (piece ∷ q ∷ qs) ≡ piece ∷ without_empty_end (q ∷ qs)
unfolding without_empty_end
keeps_at [] q qs = refl
keeps_at (b ∷ bs) q qs = refl

pub keeps : (piece text : List ℕ) → without_empty_end (piece ∷ pieces_of text) ≡ piece ∷ without_empty_end (pieces_of text)
keeps piece text = let some = some_piece text in rw some.2 (keeps_at piece some.0 some.1)

pub right_header : (line : List ℕ) (version : ℕ) → length line ≤ 2 ^ 20 → Some version ≡ header_version (json_of line) → version_on line ≡ Ok version
unfolding version_on header_of
right_header line version short right = rw (le-ltb (2 ^ 20) (length line) short, sym right) refl
