-- The line of each item of a private list, and that of a kqueue. Each line is the compact text of one JSON value with
-- its members in the order of their names' bytes (this project's choice).
use Rattle.std.specs.Prelude.{ℕ, ◌+◌, List, [], ◌∷◌, ◌++◌, codes, length}
use Rattle.serde_json.specs.Data.{Data, string, object, no_members, member}
use Rattle.kq_model.specs.declared.object.Hint.{Hint}
use Rattle.kq_model.specs.declared.object.Hint.TheVariants as hint
use Rattle.kq_model.specs.declared.object.Target.{Target}
use Rattle.kq_model.specs.declared.object.Target.TheVariants as target
use Rattle.kq_model.specs.Spelling.{line_text, natural}
use Rattle.kq_projection.specs.declared.history.item.Item.{Item}
use Rattle.kq_projection.specs.declared.history.item.What.{What}
use Rattle.kq_projection.specs.declared.history.item.What.TheVariants as what

-- ---- items

abbrev pub one_member : List ℕ → ℕ → Data
one_member name number = object (member name (natural number) no_members)

abbrev pub two_members : List ℕ → ℕ → List ℕ → ℕ → Data
two_members name number other more = object (member name (natural number) (member other (natural more) no_members))

-- what is watched; a socket, a pipe and an open file description are named by the place that made them
unfoldable pub target_data : Target → Data
target_data (target.Socket place) = one_member (codes "socket") place
target_data (target.Pipe place) = one_member (codes "pipe") place
target_data (target.Open place) = one_member (codes "open") place
target_data (target.File number) = one_member (codes "file") number
target_data (target.Process pid) = one_member (codes "pid") pid
target_data (target.Signal pid signal) = two_members (codes "pid") pid (codes "sig") signal
target_data target.Own = string (codes "own")

-- what is told
unfoldable pub hint_data : Hint → Data
hint_data hint.Readable = string (codes "readable")
hint_data hint.Writable = string (codes "writable")
hint_data (hint.Note bits) = one_member (codes "note") bits
hint_data hint.Delivered = string (codes "delivered")
hint_data (hint.Child pid) = one_member (codes "child") pid

-- where the record of an item stands, and what it is
abbrev pub line_with : ℕ → List ℕ → Data → List ℕ
line_with place name said = line_text (object (member (codes "at") (natural place) (member name said no_members)))

-- a close of a number, a hint for a target, a step of the clock, or a call of the kqueue of a place
unfoldable pub what_line : ℕ → What → List ℕ
what_line place (what.Closed pid number) =
    line_with place (codes "close") (two_members (codes "fd") number (codes "pid") pid)
what_line place (what.Told target hint) = line_text (object (
    member (codes "at") (natural place) (
    member (codes "hint") (hint_data hint) (
    member (codes "target") (target_data target) no_members))))
what_line place (what.Clocked from to) =
    line_with place (codes "clock") (two_members (codes "from") from (codes "to") to)
what_line place (what.Called kqueue) = line_with place (codes "call") (natural kqueue)

abbrev pub item_line : Item → List ℕ
item_line i = what_line i.place i.what

unfoldable pub item_lines : List Item → List ℕ
item_lines [] = []
item_lines (i ∷ rest) = item_line i ++ item_lines rest

-- ---- a kqueue

unfoldable pub calls_in : What → ℕ
calls_in (what.Closed pid number) = 0
calls_in (what.Told target hint) = 0
calls_in (what.Clocked from to) = 0
calls_in (what.Called kqueue) = 1

unfoldable pub call_count : List Item → ℕ
call_count [] = 0
call_count (i ∷ rest) = calls_in i.what + call_count rest

-- made at a place, with its owner's number for it; how many calls and items its private list has
unfoldable pub kqueue_line : ℕ → ℕ → ℕ → List Item → List ℕ
kqueue_line place owner number items = line_text (object (
    member (codes "at") (natural place) (
    member (codes "calls") (natural (call_count items)) (
    member (codes "fd") (natural number) (
    member (codes "items") (natural (length items)) (
    member (codes "pid") (natural owner) no_members))))))
