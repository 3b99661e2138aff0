-- Each byte of a line of the canonical text is a letter, a digit or a mark of ASCII.
use Rattle.std.proofs.Common.{◌≡◌, ℕ, suc, ◌+◌, ◌%◌, ◌^◌, ◌<◌, ◌≤◌, ◌==◌, ℤ, pos, negsuc, Bool, true, false, not, ◌&&◌, cond, List, [], ◌∷◌, ◌++◌, map, decimal, nat_lt, IsUtf8, refl, ap, ◌∙◌, arith, lt-ltb, ltb-true, ne_eqb}
use Rattle.std.proofs.lemmas.Bool.{and_from, and_parts, true≢false}
use Rattle.std.proofs.lemmas.Fmt.{decimal_by_steps}
use Rattle.std.specs.List.{list_all}
use Rattle.std.specs.Prelude.{filter}
use Rattle.json.proofs.Printed.Utf8.{are_ascii, IsUtf8-are_ascii}
use Rattle.serde_json.proofs.OnLiterals.{serde_json_on_literals}
use Rattle.serde_json.specs.Data.{Data, null, boolean, number, string, array, object, Items, no_items, item, Members, no_members, member}
use Rattle.serde_json.specs.Find.{of_integer}
use Rattle.serde_json.specs.View.{items_of}
use Rattle.serde_json.specs.Written.{comma_if, compact_text, items_text, members_text, number_text}
use Rattle.kq_model.specs.declared.change.Change.{Change}
use Rattle.kq_model.specs.declared.event.Event.{Event}
use Rattle.kq_model.specs.declared.event_flags.EvFlags.{EvFlags}
use Rattle.kq_model.specs.declared.filter.Filter.{Filter}
use Rattle.kq_model.specs.declared.filter.Filter.TheVariants.{Read, Write, Vnode, Proc as ProcFilter, Signal, Timer, User, Aio, Lio, Fs, Procdesc, Sendfile, Empty}
use Rattle.kq_model.specs.Bits.{asks}
use Rattle.kq_model.specs.FlagNames.{flag_table}
use Rattle.kq_model.specs.Names.{filter_name, names_of}
use Rattle.kq_model.specs.Spelling.{Changes, Integer, Name, Number, Truth, Value, change_data, flags_data, header_data, integer, members_data, members_of, natural, record_data, value_data}
use Rattle.kq_spell.specs.Again.{FitMembers, FitsChange, FitsChanges, FitsInteger, FitsRecord, FitsValue}
use Rattle.kq_spell.specs.Texts.{is_word}
use Rattle.kq_spell.proofs.Words.{letter_range, word_text}

abbrev pub is_visible : ℕ → Bool
is_visible b = nat_lt 31 b && nat_lt b 127

abbrev pub are_visible : List ℕ → Bool
are_visible text = list_all is_visible text

regroup : (x y z : Bool) → (x && (y && z)) ≡ (x && y && z)
regroup true y z = refl
regroup false y z = refl

both : (a b : List ℕ) → are_visible (a ++ b) ≡ (are_visible a && are_visible b)
both [] b = refl
both (x ∷ a) b = ap (λ r. is_visible x && r) (both a b) ∙ regroup (is_visible x) (are_visible a) (are_visible b)

joined : (a b : List ℕ) → are_visible a ≡ true → are_visible b ≡ true → are_visible (a ++ b) ≡ true
joined a b first later = both a b ∙ rw (first, later) refl

-- ---- numbers

digit : (n : ℕ) → n < 10 → is_visible (48 + n) ≡ true
digit n small = and_from _ _ (lt-ltb 31 (48 + n) (omega arith)) (lt-ltb (48 + n) 127 (omega arith))

one_digit : (n : ℕ) → n < 10 → are_visible ((48 + n) ∷ []) ≡ true
one_digit n small = rw (digit n small) refl

more_digits : (n : ℕ) (ds : List ℕ) → 10 ≤ n → are_visible ds ≡ true → are_visible (ds ++ ((48 + n % 10) ∷ [])) ≡ true
more_digits n ds large so_far =
    let small : n % 10 < 10 = omega arith in
    joined ds _ so_far (rw (digit (n % 10) small) refl)

natural_seen : (n : ℕ) → n < 2 ^ 64 → are_visible (decimal n) ≡ true
natural_seen n fits = decimal_by_steps (λ k ds. are_visible ds ≡ true) one_digit more_digits n fits

integer_seen : (z : ℤ) → FitsInteger z → are_visible (number_text (of_integer z)) ≡ true
integer_seen (pos n) fits = natural_seen n (omega arith)
integer_seen (negsuc n) fits = natural_seen (suc n) (omega arith)

small : (n : ℕ) → n < 2 ^ 32 → n < 2 ^ 64
small n fits = omega arith

-- ---- names

abbrev pub name_seen : List ℕ → Type 0
name_seen name = are_visible (compact_text (string name)) ≡ true

filter_seen : (f : Filter) → name_seen (filter_name f)
unfolding serde_json_on_literals
filter_seen Read = refl
filter_seen Write = refl
filter_seen Vnode = refl
filter_seen ProcFilter = refl
filter_seen Signal = refl
filter_seen Timer = refl
filter_seen User = refl
filter_seen Aio = refl
filter_seen Lio = refl
filter_seen Fs = refl
filter_seen Procdesc = refl
filter_seen Sendfile = refl
filter_seen Empty = refl

abbrev NamesSeen : List (List ℕ × ℕ) → Type 0
NamesSeen [] = Unit {0}
NamesSeen (row ∷ rows) = name_seen row.0 × NamesSeen rows

table_seen : NamesSeen flag_table
unfolding serde_json_on_literals
table_seen = (refl, (refl, (refl, (refl, (refl, (refl, (refl, (refl, (refl, (refl, tt))))))))))

-- ---- lists and objects

comma_seen : (later : Bool) → are_visible (comma_if later) ≡ true
comma_seen true = refl
comma_seen false = refl

item_seen : (later : Bool) (d : Data) (ds : Items) → are_visible (compact_text d) ≡ true → are_visible (items_text true ds) ≡ true
    → are_visible (items_text later (item d ds)) ≡ true
item_seen later d ds first more = joined (comma_if later) (compact_text d ++ items_text true ds) (comma_seen later) (joined (compact_text d) (items_text true ds) first more)

member_seen : (later : Bool) (k : List ℕ) (d : Data) (ms : Members) → name_seen k → are_visible (compact_text d) ≡ true
    → are_visible (members_text true ms) ≡ true → are_visible (members_text later (member k d ms)) ≡ true
member_seen later k d ms name first more =
    joined (comma_if later) (compact_text (string k) ++ 58 ∷ (compact_text d ++ members_text true ms)) (comma_seen later)
    (joined (compact_text (string k)) (58 ∷ (compact_text d ++ members_text true ms)) name (joined (compact_text d) (members_text true ms) first more))

abbrev mutual
  -- each text in the value is visible
  pub DataSeen : Data → Type 0
  DataSeen null = Unit {0}
  DataSeen (boolean b) = Unit {0}
  DataSeen (number n) = are_visible (number_text n) ≡ true
  DataSeen (string s) = name_seen s
  DataSeen (array ds) = ItemsSeen ds
  DataSeen (object ms) = MembersSeen ms

  pub ItemsSeen : Items → Type 0
  ItemsSeen no_items = Unit {0}
  ItemsSeen (item d ds) = DataSeen d × ItemsSeen ds

  pub MembersSeen : Members → Type 0
  MembersSeen no_members = Unit {0}
  MembersSeen (member k d ms) = name_seen k × DataSeen d × MembersSeen ms

mutual
  pub data_seen : (d : Data) → DataSeen d → are_visible (compact_text d) ≡ true
  data_seen null h = refl
  data_seen (boolean true) h = refl
  data_seen (boolean false) h = refl
  data_seen (number n) h = h
  data_seen (string s) h = h
  data_seen (array ds) h = items_seen false ds h
  data_seen (object ms) h = members_seen false ms h

  items_seen : (later : Bool) (ds : Items) → ItemsSeen ds → are_visible (items_text later ds) ≡ true
  items_seen later no_items h = refl
  items_seen later (item d ds) h = item_seen later d ds (data_seen d h.0) (items_seen true ds h.1)

  members_seen : (later : Bool) (ms : Members) → MembersSeen ms → are_visible (members_text later ms) ≡ true
  members_seen later no_members h = refl
  members_seen later (member k d ms) h = member_seen later k d ms h.0 (data_seen d h.1) (members_seen true ms h.2)

-- ---- changes and records

flags_seen_step : (b : Bool) (row : List ℕ × ℕ) (among : List (List ℕ × ℕ)) → name_seen row.0
    → ItemsSeen (items_of (map string (map (λ r. r.0) among)))
    → ItemsSeen (items_of (map string (map (λ r. r.0) (cond b (row ∷ among) among))))
flags_seen_step true row among name rest = (name, rest)
flags_seen_step false row among name rest = rest

flags_seen : (flags : EvFlags) (rows : List (List ℕ × ℕ)) → NamesSeen rows
    → ItemsSeen (items_of (map string (map (λ r. r.0) (filter (λ r. asks flags r.1) rows))))
flags_seen flags [] seen = tt
flags_seen flags (row ∷ rows) seen =
    flags_seen_step (asks flags row.1) row (filter (λ r. asks flags r.1) rows) seen.0 (flags_seen flags rows seen.1)

flags_data_seen : (flags : EvFlags) → DataSeen (flags_data flags)
unfolding flags_data names_of
flags_data_seen flags = flags_seen flags flag_table table_seen

change_seen : (c : Change) → FitsChange c → DataSeen (change_data c)
unfolding change_data natural integer serde_json_on_literals
change_seen c fits = (
  refl,
  integer_seen c.datum fits.datum,
  (
    refl,
    natural_seen c.fflags (small c.fflags fits.fflags),
    (
      refl,
      filter_seen c.filter,
      (refl, flags_data_seen c.flags, (refl, natural_seen c.ident fits.ident, (refl, natural_seen c.udata fits.udata, tt))),
    ),
  ),
)

changes_seen : (cs : List Change) → FitsChanges cs → ItemsSeen (items_of (map change_data cs))
changes_seen [] fits = tt
changes_seen (c ∷ cs) fits = (change_seen c fits.0, changes_seen cs fits.1)

-- a word between quotes
letter_seen : (b : ℕ) → 96 < b → b < 123 → is_visible b ≡ true
letter_seen b above below = and_from _ _ (lt-ltb 31 b (omega arith)) (lt-ltb b 127 (omega arith))

letters_seen : (name : List ℕ) → is_word name ≡ true → are_visible name ≡ true
letters_seen [] is = refl
letters_seen (b ∷ bs) is =
    let p = and_parts (nat_lt 96 b && nat_lt b 123) (is_word bs) is in
    let r = letter_range b p.0 in
    and_from _ _ (letter_seen b r.0 r.1) (letters_seen bs p.1)

word_seen : (name : List ℕ) → is_word name ≡ true → name_seen name
word_seen name is = ap are_visible (word_text name is) ∙ joined name (34 ∷ []) (letters_seen name is) refl

value_seen : (v : Value) → FitsValue v → DataSeen (value_data v)
unfolding natural integer
value_seen (Number n) fits = natural_seen n (small n fits)
value_seen (Integer z) fits = integer_seen z fits
value_seen (Truth b) fits = tt
value_seen (Name name) fits = word_seen name fits
value_seen (Changes changes) fits = changes_seen changes fits

pub members_data_seen : (ms : List (List ℕ × Value)) → FitMembers ms → MembersSeen (members_data ms)
members_data_seen [] fits = tt
members_data_seen (m ∷ ms) fits = (word_seen m.0 fits.0, value_seen m.1 fits.1, members_data_seen ms fits.2)

record_data_seen : (e : Event) → FitsRecord e → DataSeen (record_data e)
unfolding record_data FitsRecord
record_data_seen e fits = members_data_seen (members_of e) fits

-- a record's line
pub record_visible : (e : Event) → FitsRecord e → are_visible (compact_text (record_data e)) ≡ true
record_visible e fits = data_seen (record_data e) (record_data_seen e fits)

header_data_seen : (version : ℕ) → version < 2 ^ 64 → DataSeen (header_data version)
unfolding header_data natural serde_json_on_literals
header_data_seen version fits = (refl, natural_seen version fits, tt)

pub header_visible : (version : ℕ) → version < 2 ^ 64 → are_visible (compact_text (header_data version)) ≡ true
header_visible version fits = data_seen (header_data version) (header_data_seen version fits)

-- ---- what such a text is

visible_ascii : (text : List ℕ) → are_visible text ≡ true → are_ascii text ≡ true
visible_ascii [] seen = refl
visible_ascii (x ∷ text) seen =
    let p = and_parts (is_visible x) (are_visible text) seen in
    let below : x < 127 = ltb-true x 127 (and_parts (nat_lt 31 x) (nat_lt x 127) p.0).1 in
    and_from _ _ (lt-ltb x 128 (omega arith)) (visible_ascii text p.1)

pub visible_utf8 : (text : List ℕ) → are_visible text ≡ true → IsUtf8 text
visible_utf8 text seen = IsUtf8-are_ascii text (visible_ascii text seen)

abbrev pub has_no_feed : List ℕ → Bool
has_no_feed text = list_all (λ b. not (b == 10)) text

no_feed_by : (b : Bool) → b ≡ false → not b ≡ true
no_feed_by true is = absurd (true≢false is)
no_feed_by false is = refl

-- there is no line feed in it
pub visible_no_feed : (text : List ℕ) → are_visible text ≡ true → has_no_feed text ≡ true
visible_no_feed [] seen = refl
visible_no_feed (x ∷ text) seen =
    let p = and_parts (is_visible x) (are_visible text) seen in
    let above : 31 < x = ltb-true 31 x (and_parts (nat_lt 31 x) (nat_lt x 127) p.0).0 in
    and_from _ _ (no_feed_by (x == 10) (ne_eqb x 10 (λ e. omega arith))) (visible_no_feed text p.1)
