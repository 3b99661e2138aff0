-- A text that spells a JSON value and goes on with a tail. Its tokens stand one behind the other, each behind
-- blanks that say nothing, and commas and colons stand where they are due.
use Rattle.std.specs.Prelude.{◌≡◌, ◌≤◌, ℕ, List, ◌++◌, Bool, false, map, Some}
use Rattle.std.specs.Str.{IsUtf8}
use Rattle.json.specs.Json as json
use Rattle.json.specs.Print.{ArePrintable}
use Rattle.json.specs.Spaced.{AreGaps, print_spaced}
use Rattle.json.specs.Token.{Token}
use Rattle.json.specs.Tree as tree
use Rattle.serde_json.specs.Data.{Data, Items, Members, no_members}
use Rattle.serde_json.specs.Read.{of_json, of_items, of_members}

-- these tokens, behind a value or not
pub record Spells (after_value : Bool) (ts : List Token) (text tail : List ℕ) : Type 0 where
  pub printed : List (List ℕ × Token)
  pub gaps : AreGaps printed
  pub same : map (λ p. p.1) printed ≡ ts
  pub printable : ArePrintable ts
  pub utf8 : IsUtf8 (print_spaced after_value printed)
  pub cut : text ≡ print_spaced after_value printed ++ tail

-- a value that nests at most n levels
pub record IsValue (n : ℕ) (text tail : List ℕ) (d : Data) : Type 0 where
  pub written : json.Json
  pub means : of_json written ≡ Some d
  pub nests : tree.depth written ≤ n
  pub spelled : Spells false (tree.json_tokens written) text tail

-- the items of a list, from behind its bracket
pub record AreItems (n : ℕ) (text tail : List ℕ) (ds : Items) : Type 0 where
  pub written : json.Items
  pub mean : of_items written ≡ Some ds
  pub nest : tree.items_depth written ≤ n
  pub spelled : Spells false (tree.items_tokens written) text tail

-- the members of an object, from behind its brace
pub record AreMembers (n : ℕ) (text tail : List ℕ) (ms : Members) : Type 0 where
  pub written : json.Members
  pub mean : of_members written no_members ≡ Some ms
  pub nest : tree.members_depth written ≤ n
  pub spelled : Spells false (tree.members_tokens written) text tail
