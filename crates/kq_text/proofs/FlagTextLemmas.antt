-- The list of the names of flags, name by name.
use Rattle.std.proofs.Common.{◌≡◌, ◌∙◌, ℕ, Bool, true, false, List, [], ◌∷◌, ◌++◌, map, refl, sym, ap, subst, codes, append_assoc, arith, ◌+◌, ◌<◌, ◌≤◌, length, drop, get_or, add-one, drop-cons, drop_of_length-le}
use Rattle.std.specs.Prelude.{filter, if◌then◌else◌}
use Rattle.json.specs.Print.{escape, escape_byte}
use Rattle.serde_json.specs.Data.{Data, string}
use Rattle.serde_json.specs.View.{items_of}
use Rattle.serde_json.specs.Written.{compact_text, comma_if, items_text}
use Rattle.bitflags.specs.declared.traits.Flag.{Flag}
use Rattle.kq_model.specs.declared.event_flags.EvFlags.{EvFlags}
use Rattle.kq_model.specs.Bits.{asks, clear, dispatch, eof, oneshot}
use Rattle.kq_model.specs.FlagNames.{flag_table}
use Rattle.kq_model.specs.Names.{names_of}
use Rattle.kq_model.specs.Spelling.{flags_data}
use Rattle.kq_text.specs.Adds.{Adds}
use Rattle.kq_text.specs.FlagText.{mark, names_text, rows_of}

-- no name has anything to escape
abbrev ArePlain : List (List ℕ × ℕ) → Type 0
ArePlain [] = Unit {0}
ArePlain (row ∷ rows) = (escape row.0 ≡ row.0) × ArePlain rows

table_is_plain : ArePlain flag_table
unfolding escape_byte
table_is_plain = (refl, (refl, (refl, (refl, (refl, (refl, (refl, (refl, (refl, (refl, tt))))))))))

abbrev named : EvFlags → List (List ℕ × ℕ) → List Data
named flags rows = map string (map (λ (row : List ℕ × ℕ). row.0) (filter (λ (row : List ℕ × ℕ). asks flags row.1) rows))

begun : (later : Bool) (name rest : List ℕ) → comma_if later ++ ((34 ∷ (name ++ 34 ∷ [])) ++ rest) ≡ mark later ++ (name ++ (34 ∷ rest))
begun true name rest = simp append_assoc
begun false name rest = simp append_assoc

one_name : (flags : EvFlags) (later : Bool) (row : List ℕ × ℕ) (rows : List (List ℕ × ℕ)) (b : Bool) → escape row.0 ≡ row.0
    → ((l : Bool) → items_text l (items_of (named flags rows)) ≡ names_text flags l rows)
    → items_text later (items_of (map string (map (λ (r : List ℕ × ℕ). r.0) (if b then row ∷ filter (λ (r : List ℕ × ℕ). asks flags r.1) rows else filter (λ (r : List ℕ × ℕ). asks flags r.1) rows))))
    ≡ (if b then mark later ++ (row.0 ++ (34 ∷ names_text flags true rows)) else names_text flags later rows)
one_name flags later row rows true plain rest =
    ap (λ name. comma_if later ++ ((34 ∷ (name ++ 34 ∷ [])) ++ items_text true (items_of (named flags rows)))) plain
    ∙ begun later row.0 (items_text true (items_of (named flags rows)))
    ∙ ap (λ after. mark later ++ (row.0 ++ (34 ∷ after))) (rest true)
one_name flags later row rows false plain rest = rest later

names_text-is : (flags : EvFlags) (rows : List (List ℕ × ℕ)) → ArePlain rows → (later : Bool)
    → items_text later (items_of (named flags rows)) ≡ names_text flags later rows
unfolding names_text
names_text-is flags [] plain later = refl
names_text-is flags (row ∷ rows) plain later = one_name flags later row rows (asks flags row.1) plain.0 (names_text-is flags rows plain.1)

-- the list of the flags' names, flag by flag
pub flags_text : (flags : EvFlags) → compact_text (flags_data flags) ≡ 91 ∷ names_text flags false flag_table
unfolding flags_data names_of
flags_text flags = ap (λ rest. 91 ∷ rest) (names_text-is flags flag_table table_is_plain false)

-- one flag at a time: its name is taken, or left out
pub name_taken : (flags : EvFlags) (later : Bool) (items : List (Flag EvFlags)) (i : ℕ) (d : Flag EvFlags) (old new : List ℕ) → i < length items
    → asks flags (get_or items i d).value.0 ≡ true → Adds old (mark later ++ ((get_or items i d).name.now ++ 34 ∷ [])) new
    → new ++ names_text flags true (rows_of (drop (i + 1) items)) ≡ old ++ names_text flags later (rows_of (drop i items))
unfolding names_text
name_taken flags later items i d old new lt hit is =
    rw (is.is, add-one, drop-cons items i d, hit) (simp append_assoc)

pub name_left : (flags : EvFlags) (later : Bool) (items : List (Flag EvFlags)) (i : ℕ) (d : Flag EvFlags) → i < length items
    → asks flags (get_or items i d).value.0 ≡ false
    → names_text flags later (rows_of (drop (i + 1) items)) ≡ names_text flags later (rows_of (drop i items))
unfolding names_text
name_left flags later items i d lt miss = rw (add-one, drop-cons items i d, miss) refl

-- the whole list, once every flag was passed
pub names_ended : (flags : EvFlags) (later : Bool) (items : List (Flag EvFlags)) (i : ℕ) (first before out new : List ℕ) → length items ≤ i
    → rows_of items ≡ flag_table → Adds first (91 ∷ []) before
    → out ++ names_text flags later (rows_of (drop i items)) ≡ before ++ names_text flags false (rows_of items)
    → Adds out (93 ∷ []) new → Adds first (compact_text (flags_data flags)) new
unfolding names_text
names_ended flags later items i first before out new past table begin kept end =
    let none : drop i items ≡ [] = drop_of_length-le items past in
    let closed : names_text flags later (rows_of (drop i items)) ≡ 93 ∷ [] = rw none refl in
    record { is = end.is ∙ ap (λ l. out ++ l) (sym closed) ∙ kept ∙ rw (begin.is, table, flags_text) (simp append_assoc) }

-- how many bytes names and the closing bracket have at most
abbrev pub names_bytes : List (List ℕ × ℕ) → ℕ
names_bytes [] = 1
names_bytes (row ∷ rows) = length row.0 + 3 + names_bytes rows

pub names_bytes-more : (items : List (Flag EvFlags)) (i : ℕ) (d : Flag EvFlags) → i < length items
    → names_bytes (rows_of (drop i items)) ≡ length (get_or items i d).name.now + 3 + names_bytes (rows_of (drop (i + 1) items))
names_bytes-more items i d lt = rw (add-one, drop-cons items i d) refl

pub names_bytes-some : (rows : List (List ℕ × ℕ)) → 1 ≤ names_bytes rows
names_bytes-some [] = omega arith
names_bytes-some (row ∷ rows) = omega arith

pub names_bytes-all : (items : List (Flag EvFlags)) → rows_of items ≡ flag_table → names_bytes (rows_of items) ≡ 88
names_bytes-all items table = ap names_bytes table

-- the list of the names of flags that are known
flags_text-of : (n : ℕ) (flags : EvFlags) (text : List ℕ) → compact_text (flags_data (record { 0 = n })) ≡ text → flags.0 ≡ n
    → text ≡ compact_text (flags_data flags)
flags_text-of n flags text is bits = subst (λ k. text ≡ compact_text (flags_data (record { 0 = k }))) (sym bits) (sym is)

pub no_names : (flags : EvFlags) → flags.0 ≡ 0 → codes "[]" ≡ compact_text (flags_data flags)
unfolding flags_data names_of
no_names flags bits = flags_text-of 0 flags (codes "[]") refl bits

pub clear_name : (flags : EvFlags) → flags.0 ≡ clear → codes "[\"CLEAR\"]" ≡ compact_text (flags_data flags)
unfolding flags_data names_of escape_byte
clear_name flags bits = flags_text-of clear flags (codes "[\"CLEAR\"]") refl bits

pub eof_name : (flags : EvFlags) → flags.0 ≡ eof → codes "[\"EOF\"]" ≡ compact_text (flags_data flags)
unfolding flags_data names_of escape_byte
eof_name flags bits = flags_text-of eof flags (codes "[\"EOF\"]") refl bits

pub oneshot_name : (flags : EvFlags) → flags.0 ≡ oneshot → codes "[\"ONESHOT\"]" ≡ compact_text (flags_data flags)
unfolding flags_data names_of escape_byte
oneshot_name flags bits = flags_text-of oneshot flags (codes "[\"ONESHOT\"]") refl bits

pub dispatch_name : (flags : EvFlags) → flags.0 ≡ dispatch → codes "[\"DISPATCH\"]" ≡ compact_text (flags_data flags)
unfolding flags_data names_of escape_byte
dispatch_name flags bits = flags_text-of dispatch flags (codes "[\"DISPATCH\"]") refl bits
