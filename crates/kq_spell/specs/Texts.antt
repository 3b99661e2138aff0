-- Parts of the canonical text.
use denote.Ref.{Bor}
use Rattle.std.specs.Prelude.{ℕ, Bool, true, ◌&&◌, List, [], ◌∷◌, ◌++◌, codes, map, nat_lt}
use Rattle.std.specs.List.{list_all}
use Rattle.serde_json.specs.Written.{comma_if, compact_text, members_text}
use Rattle.kq_model.specs.declared.change.Change.{Change}
use Rattle.kq_model.specs.Spelling.{Changes, Integer, Name, Number, Truth, Value, change_data, members_data}
use Rattle.kq_model.specs.Spelling.{fd, op, pid}
use Rattle.kq_spell.specs.declared.members.Spelled.{Spelled}
use Rattle.kq_spell.specs.declared.members.Spelled.TheVariants as spelled

-- the changes, each behind a comma where one stands before, and the closing bracket
unfoldable pub changes_text : Bool → List Change → List ℕ
changes_text later [] = 93 ∷ []
changes_text later (c ∷ cs) = comma_if later ++ (compact_text (change_data c) ++ changes_text true cs)

-- ---- members

-- small letters of ASCII alone
abbrev pub is_word : List ℕ → Bool
is_word name = list_all (λ b. nat_lt 96 b && nat_lt b 123) name

abbrev pub value_of : Spelled → Value
value_of (spelled.Number n) = Number n
value_of (spelled.Integer z) = Integer z
value_of (spelled.Truth b) = Truth b
value_of (spelled.Name name) = Name name.now
value_of (spelled.Changes changes) = Changes changes.now

-- any name in it is a word
abbrev pub is_spelled_by_words : Spelled → Bool
is_spelled_by_words (spelled.Number n) = true
is_spelled_by_words (spelled.Integer z) = true
is_spelled_by_words (spelled.Truth b) = true
is_spelled_by_words (spelled.Name name) = is_word name.now
is_spelled_by_words (spelled.Changes changes) = true

abbrev pub member_of : Bor (List ℕ) × Spelled → List ℕ × Value
member_of m = (m.0.now, value_of m.1)

abbrev pub are_words : List (Bor (List ℕ) × Spelled) → Bool
are_words members = list_all (λ m. is_word m.0.now && is_spelled_by_words m.1) members

-- the members, each behind a comma where one stands before, and the closing brace
abbrev pub members_rest : Bool → List (Bor (List ℕ) × Spelled) → List ℕ
members_rest later members = members_text later (members_data (map member_of members))

-- the members of a record of a descriptor that has no further ones
abbrev pub plain_members : List ℕ → ℕ → ℕ → List (List ℕ × Value)
plain_members kind p f = fd f ∷ op kind ∷ pid p ∷ []

-- the members of a record of so many bytes at a descriptor
abbrev pub amount_members : List ℕ → ℕ → ℕ → ℕ → List (List ℕ × Value)
amount_members kind p f n = fd f ∷ (codes "n", Number n) ∷ op kind ∷ pid p ∷ []
