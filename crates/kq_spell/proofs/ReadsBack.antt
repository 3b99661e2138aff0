-- The compact text of a header or a record is read as its value.
use Rattle.std.proofs.Common.{◌≡◌, ℕ, suc, ◌^◌, ◌<◌, ◌≤◌, ℤ, pos, negsuc, List, [], ◌∷◌, map, Some, option_and_then, IsUtf8, refl, sym, ap, ◌∙◌, append-nil, arith}
use Rattle.std.proofs.lemmas.Str.{is_utf8-from_IsUtf8}
use Rattle.json.specs.Json.{Json, if_last}
use Rattle.json.specs.Json as json
use Rattle.json.specs.Lex.{tokens}
use Rattle.json.specs.Print.{IsNumber}
use Rattle.json.specs.Tree.{HasNumbers, ItemsHaveNumbers, MembersHaveNumbers, depth, items_depth, json_tokens, members_depth}
use Rattle.json.proofs.Printed.Decimals.{IsNumber-decimal, IsNumber-signed_decimal}
use Rattle.json.proofs.Printed.Tokens.{tokens-print}
use Rattle.json.proofs.Printed.Trees.{ArePrintable-json_tokens, value-json_tokens}
use Rattle.serde_json.specs.Data.{Data, string, unsigned}
use Rattle.serde_json.specs.Find.{of_integer}
use Rattle.serde_json.specs.Read.{of_items, of_json, read}
use Rattle.serde_json.specs.View.{items_of}
use Rattle.serde_json.specs.Written.{compact_text, items_outline, members_outline, number_text, outline}
use Rattle.serde_json.proofs.Numbers.{number_of-decimal, number_of-negative}
use Rattle.serde_json.proofs.Texts.{print-outline}
use Rattle.kq_model.specs.declared.change.Change.{Change}
use Rattle.kq_model.specs.declared.event.Event.{Event}
use Rattle.kq_model.specs.declared.event.Event.TheVariants as event
use Rattle.kq_model.specs.Names.{names_of}
use Rattle.kq_model.specs.Reading.{json_of}
use Rattle.kq_model.specs.Spelling.{Changes, Integer, Name, Number, Truth, Value, change_data, flags_data, header_data, integer, members_data, members_of, natural, record_data, value_data}
use Rattle.kq_spell.specs.Again.{FitMembers, FitsChange, FitsChanges, FitsInteger, FitsRecord, FitsValue}
use Rattle.kq_spell.proofs.Visible.{header_visible, record_visible, visible_utf8}

abbrev pub ReadsBack : Data → Type 0
ReadsBack d = json_of (compact_text d) ≡ Some d

-- ---- a value that its tokens give back

pub json_of_read : (line : List ℕ) (d : Data) → IsUtf8 line → read line ≡ Some d → json_of line ≡ Some d
unfolding json_of
json_of_read line d text reads = rw (is_utf8-from_IsUtf8 line text) reads

pub value_read : (d : Data) → HasNumbers (outline d) → depth (outline d) ≤ 127 → of_json (outline d) ≡ Some d → read (compact_text d) ≡ Some d
value_read d numbers shallow means =
    let lexed : tokens (compact_text d) ≡ json_tokens (outline d) =
    ap tokens (sym (print-outline d)) ∙ tokens-print (json_tokens (outline d)) (ArePrintable-json_tokens (outline d) numbers) in
    ap (λ ts. option_and_then of_json (option_and_then (λ p. if_last p.0 p.1) (json.value 127 ts))) (lexed ∙ sym (append-nil (json_tokens (outline d))))
    ∙ ap (λ o. option_and_then of_json (option_and_then (λ p. if_last p.0 p.1) o)) (value-json_tokens (outline d) 127 [] shallow) ∙ means

-- ---- numbers

pub natural_is : (n : ℕ) → n < 2 ^ 64 → IsNumber (number_text (unsigned n))
natural_is n fits = IsNumber-decimal n fits

integer_is : (z : ℤ) → FitsInteger z → IsNumber (number_text (of_integer z))
integer_is (pos n) fits = IsNumber-decimal n (omega arith)
integer_is (negsuc n) fits = IsNumber-signed_decimal (negsuc n) fits

pub natural_read : (n : ℕ) → n < 2 ^ 64 → of_json (outline (natural n)) ≡ Some (natural n)
unfolding natural
natural_read n fits = rw (number_of-decimal n fits) refl

integer_read : (z : ℤ) → FitsInteger z → of_json (outline (integer z)) ≡ Some (integer z)
unfolding integer
integer_read (pos n) fits = let small : n < 2 ^ 64 = omega arith in rw (number_of-decimal n small) refl
integer_read (negsuc n) fits = rw (number_of-negative n fits) refl

pub small : (n : ℕ) → n < 2 ^ 32 → n < 2 ^ 64
small n fits = omega arith

-- ---- names

names_read : (names : List (List ℕ)) → of_items (items_outline (items_of (map string names))) ≡ Some (items_of (map string names))
names_read [] = refl
names_read (name ∷ names) = rw (names_read names) refl

names_numbers : (names : List (List ℕ)) → ItemsHaveNumbers (items_outline (items_of (map string names)))
names_numbers [] = tt
names_numbers (name ∷ names) = (tt, names_numbers names)

names_depth : (names : List (List ℕ)) → items_depth (items_outline (items_of (map string names))) ≡ 0
names_depth [] = refl
names_depth (name ∷ names) = rw (names_depth names) refl

-- ---- changes

change_read : (c : Change) → FitsChange c → of_json (outline (change_data c)) ≡ Some (change_data c)
unfolding change_data flags_data
change_read c fits =
    rw (integer_read c.datum fits.datum, natural_read c.fflags (small c.fflags fits.fflags), names_read (names_of c.flags), natural_read c.ident fits.ident, natural_read c.udata fits.udata) refl

change_numbers : (c : Change) → FitsChange c → HasNumbers (outline (change_data c))
unfolding change_data flags_data integer natural
change_numbers c fits = (
  integer_is c.datum fits.datum,
  (natural_is c.fflags (small c.fflags fits.fflags), (tt, (names_numbers (names_of c.flags), (natural_is c.ident fits.ident, (natural_is c.udata fits.udata, tt))))),
)

change_depth : (c : Change) → depth (outline (change_data c)) ≡ 2
unfolding change_data flags_data natural integer
change_depth c = rw (names_depth (names_of c.flags)) refl

pub changes_read : (cs : List Change) → FitsChanges cs → of_items (items_outline (items_of (map change_data cs))) ≡ Some (items_of (map change_data cs))
changes_read [] fits = refl
changes_read (c ∷ cs) fits = rw (change_read c fits.0, changes_read cs fits.1) refl

pub changes_numbers : (cs : List Change) → FitsChanges cs → ItemsHaveNumbers (items_outline (items_of (map change_data cs)))
changes_numbers [] fits = tt
changes_numbers (c ∷ cs) fits = (change_numbers c fits.0, changes_numbers cs fits.1)

pub changes_depth : (cs : List Change) → items_depth (items_outline (items_of (map change_data cs))) ≤ 2
changes_depth [] = omega arith
changes_depth (c ∷ cs) = omega (arith, change_depth c, changes_depth cs)

-- ---- records

value_numbers : (v : Value) → FitsValue v → HasNumbers (outline (value_data v))
unfolding natural integer
value_numbers (Number n) fits = natural_is n (small n fits)
value_numbers (Integer z) fits = integer_is z fits
value_numbers (Truth b) fits = tt
value_numbers (Name name) fits = tt
value_numbers (Changes changes) fits = changes_numbers changes fits

value_depth : (v : Value) → depth (outline (value_data v)) ≤ 3
unfolding natural integer
value_depth (Number n) = omega arith
value_depth (Integer z) = omega arith
value_depth (Truth b) = omega arith
value_depth (Name name) = omega arith
value_depth (Changes changes) = omega (arith, changes_depth changes)

members_numbers : (ms : List (List ℕ × Value)) → FitMembers ms → MembersHaveNumbers (members_outline (members_data ms))
members_numbers [] fits = tt
members_numbers (m ∷ ms) fits = (value_numbers m.1 fits.1, members_numbers ms fits.2)

members_shallow : (ms : List (List ℕ × Value)) → members_depth (members_outline (members_data ms)) ≤ 3
members_shallow [] = omega arith
members_shallow (m ∷ ms) = omega (arith, value_depth m.1, members_shallow ms)

record_numbers : (e : Event) → FitsRecord e → HasNumbers (outline (record_data e))
unfolding record_data FitsRecord
record_numbers e fits = members_numbers (members_of e) fits

shallow_object : (n : ℕ) → n ≤ 3 → suc n ≤ 127
shallow_object n few = omega arith

record_depth : (e : Event) → depth (outline (record_data e)) ≤ 127
unfolding record_data
record_depth e = shallow_object _ (members_shallow (members_of e))

-- the members of a record stand in order, so they stay as they are
record_read : (e : Event) → FitsRecord e → of_json (outline (record_data e)) ≡ Some (record_data e)
unfolding record_data members_of FitsRecord
record_read (event.Proc pid) fits = rw (natural_read pid (small pid fits.2.1)) refl
record_read (event.Fork pid child) fits = rw (natural_read child (small child fits.1), natural_read pid (small pid fits.2.2.1)) refl
record_read (event.Exit pid status) fits = rw (natural_read pid (small pid fits.2.1), natural_read status (small status fits.2.2.1)) refl
record_read (event.Kqueue pid fd) fits = rw (natural_read fd (small fd fits.1), natural_read pid (small pid fits.2.2.1)) refl
record_read (event.Dup pid fd to) fits = rw (natural_read fd (small fd fits.1), natural_read pid (small pid fits.2.2.1), natural_read to (small to fits.2.2.2.1)) refl
record_read (event.Close pid fd) fits = rw (natural_read fd (small fd fits.1), natural_read pid (small pid fits.2.2.1)) refl
record_read (event.Socket pid fd rcv snd) fits = rw (natural_read fd (small fd fits.1), natural_read pid (small pid fits.2.2.1), natural_read rcv (small rcv fits.2.2.2.1), natural_read snd (small snd fits.2.2.2.2.1)) refl
record_read (event.Listen pid fd backlog) fits = rw (natural_read backlog (small backlog fits.1), natural_read fd (small fd fits.2.1), natural_read pid (small pid fits.2.2.2.1)) refl
record_read (event.Arrive pid fd) fits = rw (natural_read fd (small fd fits.1), natural_read pid (small pid fits.2.2.1)) refl
record_read (event.Accept pid fd to rcv snd) fits = rw (natural_read fd (small fd fits.1), natural_read pid (small pid fits.2.2.1), natural_read rcv (small rcv fits.2.2.2.1), natural_read snd (small snd fits.2.2.2.2.1), natural_read to (small to fits.2.2.2.2.2.1)) refl
record_read (event.Connect pid fd) fits = rw (natural_read fd (small fd fits.1), natural_read pid (small pid fits.2.2.1)) refl
record_read (event.Rx pid fd n) fits = rw (natural_read fd (small fd fits.1), natural_read n (small n fits.2.1), natural_read pid (small pid fits.2.2.2.1)) refl
record_read (event.Tx pid fd n) fits = rw (natural_read fd (small fd fits.1), natural_read n (small n fits.2.1), natural_read pid (small pid fits.2.2.2.1)) refl
record_read (event.Shut pid fd side error) fits = rw (natural_read error (small error fits.1), natural_read fd (small fd fits.2.1), natural_read pid (small pid fits.2.2.2.1)) refl
record_read (event.Lowat pid fd side n) fits = rw (natural_read fd (small fd fits.1), natural_read n (small n fits.2.1), natural_read pid (small pid fits.2.2.2.1)) refl
record_read (event.Pipe pid rfd wfd cap) fits = rw (natural_read cap (small cap fits.1), natural_read pid (small pid fits.2.2.1), natural_read rfd (small rfd fits.2.2.2.1), natural_read wfd (small wfd fits.2.2.2.2.1)) refl
record_read (event.Read pid fd n) fits = rw (natural_read fd (small fd fits.1), natural_read n (small n fits.2.1), natural_read pid (small pid fits.2.2.2.1)) refl
record_read (event.Write pid fd n) fits = rw (natural_read fd (small fd fits.1), natural_read n (small n fits.2.1), natural_read pid (small pid fits.2.2.2.1)) refl
record_read (event.Exec pid) fits = rw (natural_read pid (small pid fits.2.1)) refl
record_read (event.Sigset pid sig ignore) fits = rw (natural_read pid (small pid fits.2.2.1), natural_read sig (small sig fits.2.2.2.1)) refl
record_read (event.Sig pid sig) fits = rw (natural_read pid (small pid fits.2.1), natural_read sig (small sig fits.2.2.1)) refl
record_read (event.File file size) fits = rw (natural_read file (small file fits.1), integer_read size fits.2.2.1) refl
record_read (event.Open pid fd file mode) fits = rw (natural_read fd (small fd fits.1), natural_read file (small file fits.2.1), natural_read pid (small pid fits.2.2.2.2.1)) refl
record_read (event.Seek pid fd offset) fits = rw (natural_read fd (small fd fits.1), integer_read offset fits.2.1, natural_read pid (small pid fits.2.2.2.1)) refl
record_read (event.Truncate file size) fits = rw (natural_read file (small file fits.1), integer_read size fits.2.2.1) refl
record_read (event.Note file note) fits = rw (natural_read file (small file fits.1)) refl
record_read (event.Clock ns) fits = rw (integer_read ns fits.1) refl
record_read (event.Kevent pid fd changes room) fits = rw (changes_read changes fits.1, natural_read fd (small fd fits.2.1), natural_read pid (small pid fits.2.2.2.1), natural_read room (small room fits.2.2.2.2.1)) refl

pub record_reads_back : (e : Event) → FitsRecord e → ReadsBack (record_data e)
record_reads_back e fits =
    json_of_read (compact_text (record_data e)) (record_data e) (visible_utf8 _ (record_visible e fits))
    (value_read (record_data e) (record_numbers e fits) (record_depth e) (record_read e fits))

-- ---- the header

header_read : (version : ℕ) → version < 2 ^ 64 → of_json (outline (header_data version)) ≡ Some (header_data version)
unfolding header_data
header_read version fits = rw (natural_read version fits) refl

header_numbers : (version : ℕ) → version < 2 ^ 64 → HasNumbers (outline (header_data version))
unfolding header_data natural
header_numbers version fits = (natural_is version fits, tt)

header_depth : (version : ℕ) → depth (outline (header_data version)) ≤ 127
unfolding header_data natural
header_depth version = omega arith

pub header_reads_back : (version : ℕ) → version < 2 ^ 64 → ReadsBack (header_data version)
header_reads_back version fits =
    json_of_read (compact_text (header_data version)) (header_data version) (visible_utf8 _ (header_visible version fits))
    (value_read (header_data version) (header_numbers version fits) (header_depth version) (header_read version fits))
