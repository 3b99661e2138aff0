-- Values of a record, as they stand in its line.
use Rattle.std.specs.Prelude.{◌≡◌, ℕ, true, List, ◌∷◌, Some}
use Rattle.serde_json.specs.Data.{Data, Items}
use Rattle.kq_model.specs.declared.change.Change.{Change}
use Rattle.kq_model.specs.ChangeText.{are_changes, change_of, changes_of, flags_in, is_change}
use Rattle.kq_line.specs.declared.found.Found.{Found}
use Rattle.kq_line.specs.declared.piece.Piece.{Piece}
use Rattle.kq_line.specs.Shows.{Holds, IsPiece}
use Rattle.kq_line.specs.Spells.{AreItems, IsValue}

-- a number, a name, true or false: whatever list of changes stands beside it
abbrev pub IsScalar : List ℕ → Piece → List ℕ → Type 0
IsScalar text piece tail = (d : Data) × IsValue 0 text tail d × ((changes : List Change) → Holds changes piece d)

-- the value of a member of a change
abbrev pub IsPartOfChange : List ℕ → Piece → List ℕ → Type 0
IsPartOfChange text piece tail =
    (d : Data) × IsValue 1 text tail d × ((changes : List Change) → Holds changes piece d)

-- the value of a member of a record, beside what was found of it
abbrev pub IsPartOfRecord : Found → List ℕ → Piece → List ℕ → Type 0
IsPartOfRecord found text piece tail = (d : Data) × IsValue 3 text tail d × IsPiece found piece d

-- names of flags, from behind the bracket of their list
abbrev pub AreFlagNames : List ℕ → ℕ → List ℕ → Type 0
AreFlagNames text bits tail = (d : Data) × IsValue 1 (91 ∷ text) tail d × (flags_in d ≡ Some bits)

abbrev pub IsChange : List ℕ → Change → List ℕ → Type 0
IsChange text change tail =
    (d : Data) × IsValue 2 text tail d × (is_change d ≡ true) × (change_of d ≡ Some change)

-- changes, from behind the bracket of their list
abbrev pub IsChangeList : List ℕ → List Change → List ℕ → Type 0
IsChangeList text changes tail =
    (ds : Items) × AreItems 2 text tail ds × (are_changes ds ≡ true) × (changes_of ds ≡ Some changes)
