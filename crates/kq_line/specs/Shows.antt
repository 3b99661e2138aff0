-- How the members that were found of an object stand for the members that it has.
use Rattle.std.specs.Prelude.{◌≡◌, ◌<◌, ◌^◌, ℕ, true, negsuc, List, [], ◌∷◌, length}
use Rattle.std.specs.Prelude.{bytes_eq, Option, Some, None}
use Rattle.std.specs.Prelude.{if◌then◌else◌}
use Rattle.serde_json.specs.Data.{Data, Members, boolean, negative, number, string, unsigned}
use Rattle.serde_json.specs.Find.{get_member}
use Rattle.kq_model.specs.declared.change.Change.{Change}
use Rattle.kq_model.specs.ChangeText.{change_list, flags_in, is_change_list}
use Rattle.kq_model.specs.Members.{member_count}
use Rattle.kq_line.specs.declared.found.Found.{Found}
use Rattle.kq_line.specs.declared.piece.Member.{Member}
use Rattle.kq_line.specs.declared.piece.Piece.{Piece}
use Rattle.kq_line.specs.declared.piece.Piece.TheVariants.{Number, Below, Truth, Name, Flags, Changes}

-- the piece stands for the value, where the list of changes is this one
abbrev pub Holds : List Change → Piece → Data → Type 0
Holds changes (Number n) d = (d ≡ number (unsigned n)) × (n < 2 ^ 64)
Holds changes (Below n) d = (d ≡ number (negative (negsuc n))) × (n < 2 ^ 63)
Holds changes (Truth b) d = d ≡ boolean b
Holds changes (Name s) d = d ≡ string s.now
Holds changes (Flags flags) d = flags_in d ≡ Some flags.0
Holds changes Changes d = (is_change_list d ≡ true) × (change_list d ≡ Some changes)

-- the piece of this name
abbrev pub piece_in : List Member → List ℕ → Option Piece
piece_in [] name = None
piece_in (m ∷ ms) name = if bytes_eq m.name.now name then Some m.piece else piece_in ms name

abbrev pub Agree : List Change → Option Piece → Option Data → Type 0
Agree changes None None = Unit {0}
Agree changes (Some piece) (Some d) = Holds changes piece d
Agree changes None (Some d) = ⊥
Agree changes (Some piece) None = ⊥

-- the same names, the same values
pub record AreShown (changes : List Change) (found : List Member) (ms : Members) : Type 0 where
  pub each : (name : List ℕ) → Agree changes (piece_in found name) (get_member name ms)
  pub count : length found ≡ member_count ms

-- what a list of changes can be, beside what was found: that list, or any where there is none
abbrev pub CanBe : Found → List Change → Type 0
CanBe found changes = found.has_changes ≡ true → changes ≡ found.changes.items

abbrev pub IsPiece : Found → Piece → Data → Type 0
IsPiece found piece d = (changes : List Change) → CanBe found changes → Holds changes piece d

-- what was found is what the object has
unfoldable pub Shows : Found → Members → Type 0
Shows found ms = (changes : List Change) → CanBe found changes → AreShown changes found.members.items ms
