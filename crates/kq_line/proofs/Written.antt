-- The tokens of a value, as the text of a line.
use Rattle.std.proofs.Common.{◌≡◌, ℕ, ◌≤◌, Bool, true, false, List, [], ◌∷◌, ◌++◌, Some, option_and_then, IsUtf8, refl, sym, ap, ◌∙◌, subst, append-nil, arith}
use Rattle.std.proofs.lemmas.Str.{is_utf8-from_IsUtf8}
use Rattle.json.specs.Json.{Json, null, boolean, number, string, array, object, Items, no_items, item, Members, no_members, member, if_last}
use Rattle.json.specs.Json as json
use Rattle.json.specs.Lex.{tokens}
use Rattle.json.specs.Print.{ArePrintable, ends}
use Rattle.json.specs.Spaced.{IsGap, print_spaced}
use Rattle.json.specs.Token.{Token}
use Rattle.json.specs.Tree.{json_tokens, items_tokens, members_tokens, depth}
use Rattle.json.proofs.Printed.Tokens.{tokens-print_spaced}
use Rattle.json.proofs.Printed.Trees.{value-json_tokens}
use Rattle.serde_json.specs.Data.{Data}
use Rattle.serde_json.specs.Read.{of_json, read}
use Rattle.kq_model.specs.Reading.{json_of}
use Rattle.kq_line.specs.Spells.{IsValue, Spells}
use Rattle.kq_line.proofs.Spelled.{comma_behind, ends_after, spells_behind, tokens_of}

-- ---- a value has ended behind its tokens

ends_append : (c : Bool) (ts us : List Token) → ends_after c (ts ++ us) ≡ ends_after (ends_after c ts) us
ends_append c [] us = refl
ends_append c (t ∷ ts) us = ends_append (ends t) ts us

ends_items : (w : Items) (c : Bool) → ends_after c (items_tokens w) ≡ true
ends_items no_items c = refl
ends_items (item j w) c = ends_append c (json_tokens j) (items_tokens w) ∙ ends_items w (ends_after c (json_tokens j))

ends_members : (w : Members) (c : Bool) → ends_after c (members_tokens w) ≡ true
ends_members no_members c = refl
ends_members (member k j w) c = ends_append false (json_tokens j) (members_tokens w) ∙ ends_members w (ends_after false (json_tokens j))

pub ends_json : (j : Json) (c : Bool) → ends_after c (json_tokens j) ≡ true
ends_json null c = refl
ends_json (boolean b) c = refl
ends_json (number s) c = refl
ends_json (string s) c = refl
ends_json (array w) c = ends_items w false
ends_json (object w) c = ends_members w false

-- ---- a value behind a comma and a gap

pub json_behind : (after : Bool) (gap : List ℕ) (j : Json) (rest tail : List ℕ) → IsGap gap
    → Spells false (json_tokens j) rest tail → Spells after (json_tokens j) (comma_behind after ++ (gap ++ rest)) tail
json_behind after gap null rest tail blank spelled = spells_behind after gap Token.null [] rest tail blank refl spelled
json_behind after gap (boolean b) rest tail blank spelled = spells_behind after gap (Token.boolean b) [] rest tail blank refl spelled
json_behind after gap (number s) rest tail blank spelled = spells_behind after gap (Token.number s) [] rest tail blank refl spelled
json_behind after gap (string s) rest tail blank spelled = spells_behind after gap (Token.string s) [] rest tail blank refl spelled
json_behind after gap (array w) rest tail blank spelled = spells_behind after gap Token.begin_array (items_tokens w) rest tail blank refl spelled
json_behind after gap (object w) rest tail blank spelled = spells_behind after gap Token.begin_object (members_tokens w) rest tail blank refl spelled

-- ---- a line is read as the value that it spells

tokens_read : (text : List ℕ) (j : Json) (d : Data) → tokens text ≡ json_tokens j → depth j ≤ 127 → of_json j ≡ Some d → read text ≡ Some d
tokens_read text j d lexed shallow means =
    ap (λ ts. option_and_then of_json (option_and_then (λ p. if_last p.0 p.1) (json.value 127 ts))) (lexed ∙ sym (append-nil (json_tokens j)))
    ∙ ap (λ o. option_and_then of_json (option_and_then (λ p. if_last p.0 p.1) o)) (value-json_tokens j 127 [] shallow) ∙ means

json_of_read : (line : List ℕ) (d : Data) → IsUtf8 line → read line ≡ Some d → json_of line ≡ Some d
unfolding json_of
json_of_read line d text reads = rw (is_utf8-from_IsUtf8 line text) reads

pub line_read : (n : ℕ) (line : List ℕ) (d : Data) → n ≤ 127 → IsValue n line [] d → json_of line ≡ Some d
line_read n line d small v =
    let s = v.spelled in
    let whole : line ≡ print_spaced false s.printed = s.cut ∙ append-nil (print_spaced false s.printed) in
    let printable : ArePrintable (tokens_of s.printed) = subst ArePrintable (sym s.same) s.printable in
    let lexed : tokens line ≡ json_tokens v.written = ap tokens whole ∙ tokens-print_spaced s.printed s.gaps printable ∙ s.same in
    let shallow : depth v.written ≤ 127 = omega (arith, v.nests, small) in
    json_of_read line d (subst IsUtf8 (sym whole) s.utf8) (tokens_read line v.written d lexed shallow v.means)
