-- Members that stand one behind the other, as far as they were read.
use Rattle.std.specs.Prelude.{◌≡◌, ◌≤◌, ℕ, ℤ, pos, negsuc, List, [], ◌∷◌, ◌++◌, Bool}
use Rattle.std.specs.Prelude.{true, ◌&&◌, codes, nat_lt}
use Rattle.std.specs.Prelude.{Option, Some, None, Ok}
use Rattle.json.specs.Json as json
use Rattle.json.specs.Spaced.{IsGap}
use Rattle.json.specs.Tree as tree
use Rattle.serde_json.specs.Data.{Data, Members, negative, no_members, number, put, string, unsigned}
use Rattle.serde_json.specs.Read.{of_members}
use Rattle.kq_model.specs.declared.event.Event.{Event}
use Rattle.kq_model.specs.declared.record_kind.RecordKind.{RecordKind}
use Rattle.kq_model.specs.Kinds.{kind_named}
use Rattle.kq_model.specs.Reading.{event_of, json_of}
use Rattle.kq_line.specs.Spells.{AreMembers, Spells}

-- each is a small letter of ASCII
abbrev pub are_letters : List ℕ → Bool
are_letters [] = true
are_letters (b ∷ bs) = nat_lt 96 b && nat_lt b 123 && are_letters bs

-- a name in quotation marks, a colon and a blank or none
pub record IsKey (text name value : List ℕ) : Type 0 where
  pub gap : List ℕ
  pub blank : IsGap gap
  pub cut : text ≡ 34 ∷ (name ++ 34 ∷ 58 ∷ (gap ++ value))

-- the same behind a comma
pub record IsNextKey (text name value : List ℕ) : Type 0 where
  pub gap : List ℕ
  pub rest : List ℕ
  pub blank : IsGap gap
  pub comma : text ≡ 44 ∷ (gap ++ rest)
  pub key : IsKey rest name value

-- the members from `start` up to `rest` are these: with those that are written behind them they are an object's
pub record AreMembersUpTo (n : ℕ) (start rest : List ℕ) (ms : Members) : Type 0 where
  pub more : (written : json.Members) (all : Members) (tail : List ℕ)
      → Spells true (tree.members_tokens written) rest tail → of_members written ms ≡ Some all
      → tree.members_depth written ≤ n → AreMembers n start tail all

-- the line is an object that has these members up to `rest`
pub record IsLineUpTo (line rest : List ℕ) (ms : Members) : Type 0 where
  pub start : List ℕ
  pub brace : line ≡ 123 ∷ start
  pub members : AreMembersUpTo 3 start rest ms

-- the name of a kind alone, and behind it the number of a process
abbrev pub with_op : List ℕ → Members
with_op op = put (codes "op") (string op) no_members

abbrev pub with_pid : ℕ → List ℕ → Members
with_pid pid op = put (codes "pid") (number (unsigned pid)) (with_op op)

-- a line that names this kind and has these members up to `rest` is the event
abbrev pub IsEventFrom : RecordKind → (List ℕ → Members) → List ℕ → Event → Type 0
IsEventFrom kind members rest e =
    (line op : List ℕ) → kind_named op ≡ Some kind → IsLineUpTo line rest (members op)
    → event_of (json_of line) ≡ Ok e

-- the members, and this one, if it is there
abbrev pub put_if : List ℕ → Option Data → Members → Members
put_if name None ms = ms
put_if name (Some d) ms = put name d ms

-- a whole number as a value
abbrev pub whole : ℤ → Data
whole (pos n) = number (unsigned n)
whole (negsuc n) = number (negative (negsuc n))

abbrev pub value_or : {A : Type 0} → A → Option A → A
value_or missing None = missing
value_or missing (Some x) = x
