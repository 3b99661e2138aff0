-- The members of a change or a record, one at a time, and what they show.
use Rattle.std.proofs.Common.{◌≡◌, ℕ, ◌≤◌, Bool, true, false, List, [], ◌∷◌, ◌++◌, length, Option, Some, None, IfSome, Ok, Bor, refl, sym, ap, ◌∙◌, subst, arith}
use Rattle.std.specs.Option.{is_some}
use Rattle.json.specs.Spaced.{IsGap}
use Rattle.serde_json.specs.Data.{Data, Members, no_members, object, put}
use Rattle.kq_model.specs.declared.change.Change.{Change}
use Rattle.kq_model.specs.declared.event.Event.{Event}
use Rattle.kq_model.specs.declared.event_flags.EvFlags.{EvFlags}
use Rattle.kq_model.specs.ChangeText.{change_of, is_change}
use Rattle.kq_model.specs.Reading.{event_of, json_of}
use Rattle.kq_line.specs.declared.found.Found.{Found}
use Rattle.kq_line.specs.declared.piece.Member.{Member}
use Rattle.kq_line.specs.declared.piece.Piece.{Piece}
use Rattle.kq_line.specs.declared.piece.Piece.TheVariants.{Changes, Flags}
use Rattle.kq_line.specs.Names.{IsName}
use Rattle.kq_line.specs.Shows.{AreShown, IsPiece, Shows, piece_in}
use Rattle.kq_line.specs.Spells.{AreMembers, IsValue}
use Rattle.kq_line.specs.Values.{AreFlagNames, IsChange, IsChangeList, IsPartOfChange, IsPartOfRecord, IsScalar}
use Rattle.kq_line.proofs.Lists.{changes_value}
use Rattle.kq_line.proofs.Owed.{MemberNext, MembersOwed, members_begin, members_end, members_more, members_next, members_value}
use Rattle.kq_line.proofs.Pieces.{shows_more, shows_none}
use Rattle.kq_line.proofs.Written.{line_read}

-- what was found before the member that begins at `rest`
abbrev pub PartsSoFar : ℕ → List ℕ → List ℕ → Found → Type 0
PartsSoFar n start rest found = (ms : Members) × MemberNext n start rest ms × Shows found ms

-- what was found behind the member that ends at `rest`
abbrev pub PartsBehind : ℕ → List ℕ → List ℕ → Found → Type 0
PartsBehind n start rest found = (ms : Members) × MembersOwed n start rest true ms × Shows found ms

pub parts_begin : (n : ℕ) (start : List ℕ) (found : Found) → found.members.items ≡ [] → PartsSoFar n start start found
parts_begin n start found none = (no_members, members_begin n start, shows_none found none)

-- a name and its value, as they stand in the text
abbrev pub IsKeyThen : List ℕ → List ℕ → List ℕ → Type 0
IsKeyThen rest name value = (gap : List ℕ) × IsGap gap × (rest ≡ 34 ∷ (name ++ 34 ∷ 58 ∷ (gap ++ value)))

not_found : (o : Option Piece) (b : Bool) → b ≡ is_some o → b ≡ false → o ≡ None
not_found None b is none = refl
not_found (Some p) b is none = let bad : true ≡ false = sym is ∙ none in cc

-- `before` is what was found before the value was read, `with_list` what then, and `after` what behind it
pub parts_more : (n : ℕ) (start rest value tail : List ℕ) (before with_list after : Found) (m : Member) (b : Bool) → PartsSoFar n start rest before
    → IsKeyThen rest m.name.now value → IsName m.name.now
    → ((d : Data) × IsValue n value tail d × IsPiece with_list m.piece d) → ((ms : Members) → Shows before ms → Shows with_list ms)
    → b ≡ is_some (piece_in with_list.members.items m.name.now) → b ≡ false
    → after.members.items ≡ with_list.members.items ++ m ∷ [] → after.changes.items ≡ with_list.changes.items → after.has_changes ≡ with_list.has_changes
    → PartsBehind n start tail after
parts_more n start rest value tail before with_list after m b so_far key letters part keeps is none added same_changes same_has = (
  put m.name.now part.0 so_far.0,
  members_more n start rest m.name.now key.0 value tail so_far.0 part.0 so_far.1 letters key.1 key.2 part.1,
  shows_more with_list after so_far.0 m part.0 (keeps so_far.0 so_far.2) added same_changes same_has
      (not_found (piece_in with_list.members.items m.name.now) b is none) part.2,
)

pub parts_next : (n : ℕ) (start text rest gap behind : List ℕ) (found : Found) → PartsBehind n start text found → IsGap gap → text ≡ 44 ∷ behind
    → behind ≡ gap ++ rest → PartsSoFar n start rest found
parts_next n start text rest gap behind found so_far blank comma cut =
    (so_far.0, members_next n start text rest gap behind so_far.0 so_far.1 blank comma cut, so_far.2)

pub parts_end : (n : ℕ) (start text tail : List ℕ) (found : Found) → PartsBehind n start text found → text ≡ 125 ∷ tail
    → (ms : Members) × AreMembers n start tail ms × Shows found ms
parts_end n start text tail found so_far cut = (so_far.0, members_end n start text tail so_far.0 so_far.1 cut, so_far.2)

-- a value that nests less
pub nests_more : (n k : ℕ) (text tail : List ℕ) (d : Data) → n ≤ k → IsValue n text tail d → IsValue k text tail d
nests_more n k text tail d le v = record { written = v.written; means = v.means; nests = omega (arith, v.nests, le); spelled = v.spelled }

-- ---- the value of a member

pub flags_part : (text names tail : List ℕ) (flags : EvFlags) → text ≡ 91 ∷ names → AreFlagNames names flags.0 tail → IsPartOfChange text (Flags flags) tail
flags_part text names tail flags cut all = (all.0, subst (λ t. IsValue 1 t tail all.0) (sym cut) all.1, λ changes. all.2)

pub scalar_part : (text : List ℕ) (r : Option (Piece × Bor (List ℕ))) → IfSome r (λ r. IsScalar text r.0 r.1.now) → IfSome r (λ r. IsPartOfChange text r.0 r.1.now)
scalar_part text None is = tt
scalar_part text (Some r) is = (is.0, nests_more 0 1 text r.1.now is.0 (omega arith) is.1, is.2)

pub scalar_of_record : (found : Found) (text : List ℕ) (r : Option (Piece × Bor (List ℕ))) → IfSome r (λ r. IsScalar text r.0 r.1.now) → IfSome r (λ r. IsPartOfRecord found text r.0 r.1.now)
scalar_of_record found text None is = tt
scalar_of_record found text (Some r) is = (is.0, nests_more 0 3 text r.1.now is.0 (omega arith) is.1, λ changes can. is.2 changes)

pub changes_part : (found : Found) (text items tail : List ℕ) (changes : List Change) → text ≡ 91 ∷ items → IsChangeList items changes tail
    → found.changes.items ≡ changes → found.has_changes ≡ true → IsPartOfRecord found text Changes tail
changes_part found text items tail changes cut all same has =
    let v = changes_value text items tail changes cut all in
    (v.0, v.1, λ others can. (v.2, v.3 ∙ ap Some (sym same ∙ sym (can has))))

-- a list of changes beside members that had none
pub shows_list : (before after : Found) → before.has_changes ≡ false → after.members.items ≡ before.members.items → (ms : Members) → Shows before ms → Shows after ms
unfolding Shows
shows_list before after none same ms shows = λ changes can.
    subst (λ l. AreShown changes l ms) (sym same) (shows changes (λ has. let bad : true ≡ false = sym has ∙ none in cc))

-- ---- a change, and a line

pub change_value : (text members tail : List ℕ) (found : Found) (c : Change) → text ≡ 123 ∷ members → ((ms : Members) × AreMembers 1 members tail ms × Shows found ms)
    → ((ms : Members) → Shows found ms → (is_change (object ms) ≡ true) × (change_of (object ms) ≡ Some c)) → IsChange text c tail
change_value text members tail found c cut all known =
    let is = known all.0 all.2 in (object all.0, members_value 1 text members tail all.0 cut all.1, is.0, is.1)

pub no_tail : (tail : List ℕ) → length tail ≡ 0 → tail ≡ []
no_tail [] none = refl
no_tail (b ∷ bs) none = absurd (omega (arith, none))

pub line_event : (line members tail : List ℕ) (found : Found) (r : Option Event) → line ≡ 123 ∷ members → length tail ≡ 0
    → ((ms : Members) × AreMembers 3 members tail ms × Shows found ms)
    → IfSome r (λ e. (ms : Members) → Shows found ms → event_of (Some (object ms)) ≡ Ok e) → IfSome r (λ e. event_of (json_of line) ≡ Ok e)
line_event line members tail found None cut none all known = tt
line_event line members tail found (Some e) cut none all known =
    let whole : IsValue 4 line [] (object all.0) = subst (λ t. IsValue 4 line t (object all.0)) (no_tail tail none) (members_value 3 line members tail all.0 cut all.1) in
    ap event_of (line_read 4 line (object all.0) (omega arith) whole) ∙ known all.0 all.2
