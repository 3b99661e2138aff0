-- Items and members, one after the other. What was passed is kept as what the rest still owes: if the rest
-- spells these items, then the text from its start spells those before them too.
use Rattle.std.proofs.Common.{◌≡◌, ℕ, suc, ◌≤◌, Bool, true, false, List, [], ◌∷◌, ◌++◌, Some, option_and_then, option_map, refl, sym, ap, ◌∙◌, subst, arith, append_assoc}
use Rattle.json.specs.Json as json
use Rattle.json.specs.Print.{quoted}
use Rattle.json.specs.Spaced.{IsGap}
use Rattle.json.specs.Token.{Token}
use Rattle.json.specs.Tree.{json_tokens, items_tokens, members_tokens, items_depth, members_depth}
use Rattle.json.proofs.Printed.Utf8.{IsUtf8-are_ascii, IsUtf8-key}
use Rattle.serde_json.specs.Data.{Data, Items, Members, array, item, no_items, no_members, object, put}
use Rattle.serde_json.specs.Read.{of_items, of_members}
use Rattle.kq_line.specs.Names.{IsName}
use Rattle.kq_line.specs.Spells.{AreItems, AreMembers, IsValue, Spells}
use Rattle.kq_line.proofs.Letters.{name_utf8}
use Rattle.kq_line.proofs.Scalar.{name_text}
use Rattle.kq_line.proofs.Spelled.{comma_behind, ends_after, spells_append, spells_first, spells_none}
use Rattle.kq_line.proofs.Written.{ends_json, json_behind}

-- ---- items

abbrev pub ItemsOwed : ℕ → List ℕ → List ℕ → Bool → (Items → Items) → Type 0
ItemsOwed n start rest later onto =
    (written : json.Items) (ds : Items) (tail : List ℕ) → Spells later (items_tokens written) rest tail → of_items written ≡ Some ds
    → items_depth written ≤ n → AreItems n start tail (onto ds)

-- an item begins here, behind its comma and a gap
abbrev pub ItemNext : ℕ → List ℕ → List ℕ → (Items → Items) → Type 0
ItemNext n start rest onto = (later : Bool) × (gap : List ℕ) × IsGap gap × ItemsOwed n start (comma_behind later ++ (gap ++ rest)) later onto

pub items_begin : (n : ℕ) (start : List ℕ) → ItemNext n start start (λ ds. ds)
items_begin n start = (false, [], tt, λ written ds tail spelled mean nest. record { written = written; mean = mean; nest = nest; spelled = spelled })

pub items_more : (n : ℕ) (start rest tail : List ℕ) (onto : Items → Items) (d : Data) → ItemNext n start rest onto → IsValue n rest tail d
    → ItemsOwed n start tail true (λ ds. onto (item d ds))
items_more n start rest tail onto d next v = λ written ds end spelled mean nest.
    let later = next.0 in
    let gap = next.1 in
    let j = v.written in
    let first : Spells later (json_tokens j) (comma_behind later ++ (gap ++ rest)) tail = json_behind later gap j rest tail next.2 v.spelled in
    let behind : Spells (ends_after later (json_tokens j)) (items_tokens written) tail end =
    subst (λ b. Spells b (items_tokens written) tail end) (sym (ends_json j later)) spelled in
    next.3 (json.item j written) (item d ds) end
    (spells_append later (json_tokens j) (items_tokens written) _ tail end first behind)
    (ap (option_and_then (λ e. option_map (item e) (of_items written))) v.means ∙ ap (option_map (item d)) mean)
    (omega (arith, v.nests, nest))

pub items_next : (n : ℕ) (start text rest gap behind : List ℕ) (onto : Items → Items) → ItemsOwed n start text true onto → IsGap gap
    → text ≡ 44 ∷ behind → behind ≡ gap ++ rest → ItemNext n start rest onto
items_next n start text rest gap behind onto owed blank comma cut =
    (true, gap, blank, subst (λ t. ItemsOwed n start t true onto) (comma ∙ ap (λ r. 44 ∷ r) cut) owed)

end_array_text : (later : Bool) (text tail : List ℕ) → text ≡ 93 ∷ tail → Spells later (Token.end_array ∷ []) text tail
end_array_text true text tail cut = spells_first true [] Token.end_array [] text tail tail tt tt (IsUtf8-are_ascii (93 ∷ []) refl) cut (spells_none true tail)
end_array_text false text tail cut = spells_first false [] Token.end_array [] text tail tail tt tt (IsUtf8-are_ascii (93 ∷ []) refl) cut (spells_none true tail)

pub items_end : (n : ℕ) (start text tail : List ℕ) (later : Bool) (onto : Items → Items) → ItemsOwed n start text later onto → text ≡ 93 ∷ tail
    → AreItems n start tail (onto no_items)
items_end n start text tail later onto owed cut = owed json.no_items no_items tail (end_array_text later text tail cut) refl (omega arith)

pub no_items_there : (n : ℕ) (text tail : List ℕ) → text ≡ 93 ∷ tail → AreItems n text tail no_items
no_items_there n text tail cut =
    record { written = json.no_items; mean = refl; nest = omega arith; spelled = end_array_text false text tail cut }

pub items_value : (n : ℕ) (text items tail : List ℕ) (ds : Items) → text ≡ 91 ∷ items → AreItems n items tail ds → IsValue (suc n) text tail (array ds)
items_value n text items tail ds cut all = record {
  written = json.array all.written;
  means = ap (option_map array) all.mean;
  nests = omega (arith, all.nest);
  spelled = spells_first false [] Token.begin_array (items_tokens all.written) text items tail tt tt (IsUtf8-are_ascii (91 ∷ []) refl) cut all.spelled;
}

-- ---- members

abbrev pub MembersOwed : ℕ → List ℕ → List ℕ → Bool → Members → Type 0
MembersOwed n start rest later found =
    (written : json.Members) (ms : Members) (tail : List ℕ) → Spells later (members_tokens written) rest tail → of_members written found ≡ Some ms
    → members_depth written ≤ n → AreMembers n start tail ms

-- a member begins here, behind its comma and a gap
abbrev pub MemberNext : ℕ → List ℕ → List ℕ → Members → Type 0
MemberNext n start rest found = (later : Bool) × (gap : List ℕ) × IsGap gap × MembersOwed n start (comma_behind later ++ (gap ++ rest)) later found

pub members_begin : (n : ℕ) (start : List ℕ) → MemberNext n start start no_members
members_begin n start = (false, [], tt, λ written ms tail spelled mean nest. record { written = written; mean = mean; nest = nest; spelled = spelled })

key_cut : (later : Bool) (name gap inner rest value : List ℕ) → IsName name → rest ≡ 34 ∷ (name ++ 34 ∷ 58 ∷ (inner ++ value))
    → comma_behind later ++ (gap ++ rest) ≡ comma_behind later ++ (gap ++ ((quoted name ++ 58 ∷ []) ++ (inner ++ value)))
key_cut later name gap inner rest value letters cut =
    ap (λ r. comma_behind later ++ (gap ++ r))
    (cut ∙ sym (name_text name (58 ∷ (inner ++ value)) letters) ∙ sym (append_assoc (quoted name) (58 ∷ []) (inner ++ value)))

key_behind : (later : Bool) (name gap inner rest value tail : List ℕ) (ts : List Token) → IsName name → IsGap gap
    → rest ≡ 34 ∷ (name ++ 34 ∷ 58 ∷ (inner ++ value)) → Spells false ts (inner ++ value) tail
    → Spells later (Token.key name ∷ ts) (comma_behind later ++ (gap ++ rest)) tail
key_behind true name gap inner rest value tail ts letters blank cut spelled =
    spells_first true gap (Token.key name) ts _ (inner ++ value) tail blank tt (IsUtf8-key name (name_utf8 name letters))
    (key_cut true name gap inner rest value letters cut) spelled
key_behind false name gap inner rest value tail ts letters blank cut spelled =
    spells_first false gap (Token.key name) ts _ (inner ++ value) tail blank tt (IsUtf8-key name (name_utf8 name letters))
    (key_cut false name gap inner rest value letters cut) spelled

pub members_more : (n : ℕ) (start rest name inner value tail : List ℕ) (found : Members) (d : Data) → MemberNext n start rest found
    → IsName name → IsGap inner → rest ≡ 34 ∷ (name ++ 34 ∷ 58 ∷ (inner ++ value)) → IsValue n value tail d
    → MembersOwed n start tail true (put name d found)
members_more n start rest name inner value tail found d next letters blank cut v = λ written ms end spelled mean nest.
    let later = next.0 in
    let gap = next.1 in
    let j = v.written in
    let first : Spells false (json_tokens j) (inner ++ value) tail = json_behind false inner j value tail blank v.spelled in
    let behind : Spells (ends_after false (json_tokens j)) (members_tokens written) tail end =
    subst (λ b. Spells b (members_tokens written) tail end) (sym (ends_json j false)) spelled in
    let both : Spells false (json_tokens j ++ members_tokens written) (inner ++ value) end =
    spells_append false (json_tokens j) (members_tokens written) (inner ++ value) tail end first behind in
    next.3 (json.member name j written) ms end
    (key_behind later name gap inner rest value end (json_tokens j ++ members_tokens written) letters next.2 cut both)
    (ap (option_and_then (λ e. of_members written (put name e found))) v.means ∙ mean)
    (omega (arith, v.nests, nest))

pub members_next : (n : ℕ) (start text rest gap behind : List ℕ) (found : Members) → MembersOwed n start text true found → IsGap gap
    → text ≡ 44 ∷ behind → behind ≡ gap ++ rest → MemberNext n start rest found
members_next n start text rest gap behind found owed blank comma cut =
    (true, gap, blank, subst (λ t. MembersOwed n start t true found) (comma ∙ ap (λ r. 44 ∷ r) cut) owed)

pub members_end : (n : ℕ) (start text tail : List ℕ) (found : Members) → MembersOwed n start text true found → text ≡ 125 ∷ tail
    → AreMembers n start tail found
members_end n start text tail found owed cut =
    owed json.no_members found tail
    (spells_first true [] Token.end_object [] text tail tail tt tt (IsUtf8-are_ascii (125 ∷ []) refl) cut (spells_none true tail))
    refl (omega arith)

pub members_value : (n : ℕ) (text members tail : List ℕ) (ms : Members) → text ≡ 123 ∷ members → AreMembers n members tail ms → IsValue (suc n) text tail (object ms)
members_value n text members tail ms cut all = record {
  written = json.object all.written;
  means = ap (option_map object) all.mean;
  nests = omega (arith, all.nest);
  spelled = spells_first false [] Token.begin_object (members_tokens all.written) text members tail tt tt (IsUtf8-are_ascii (123 ∷ []) refl) cut all.spelled;
}
