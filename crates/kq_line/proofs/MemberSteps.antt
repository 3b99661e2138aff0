-- One member behind another, where programs write them.
use Rattle.std.proofs.Common.{◌≡◌, ℕ, ◌<◌, ◌≤◌, ◌^◌, zero, suc, ℤ, pos, negsuc, true, List, [], ◌∷◌, ◌++◌, ◌-◌, length, take, drop, get_or, Option, Some, None, IfSome, Bor, option_map, decimal, inl, refl, sym, ap, ap₂, ◌∙◌, subst, arith}
use Rattle.std.proofs.lemmas.Bool.{and_parts, ltb-true}
use Rattle.std.proofs.lemmas.List.{length-drop, take_all}
use Rattle.serde_json.specs.Data.{Data, Members, no_members, number, object, put, unsigned, string}
use Rattle.kq_model.specs.Members.{i64_in, is_whole, moment_in}
use Rattle.kq_model.specs.Reading.{json_of}
use Rattle.kq_line.specs.Names.{IsName}
use Rattle.kq_line.specs.Spells.{AreMembers, IsValue}
use Rattle.kq_line.specs.Usual.{AreMembersUpTo, IsKey, IsLineUpTo, IsNextKey, are_letters, put_if, value_or, whole}
use Rattle.kq_line.proofs.LookUps.{i64_of}
use Rattle.kq_line.proofs.Owed.{members_begin, members_end, members_more, members_next, members_value}
use Rattle.kq_line.proofs.Parts.{nests_more, no_tail}
use Rattle.kq_line.proofs.Scalar.{below_value, name_value, number_value}
use Rattle.kq_line.proofs.SignedLookUps.{moment_of}
use Rattle.kq_line.proofs.Written.{line_read}

-- ---- a text begins with a word

pub word_first : (word text : List ℕ) → length word ≤ length text → ((k : ℕ) → k < length word → get_or text k 0 ≡ get_or word k 0)
    → text ≡ word ++ drop (length word) text
word_first [] text short same = refl
word_first (w ∷ ws) [] short same = absurd (omega (arith, short))
word_first (w ∷ ws) (t ∷ ts) short same =
    ap₂ (λ (b : ℕ) (bs : List ℕ). b ∷ bs) (same 0 (omega arith)) (word_first ws ts (omega (arith, short)) (λ k below. same (suc k) (omega (arith, below))))

-- what is left of a text, as the code cuts it
pub rest_cut : (word text : List ℕ) → length word ≤ length text → ((k : ℕ) → k < length word → get_or text k 0 ≡ get_or word k 0)
    → text ≡ word ++ take (length text - length word) (drop (length word) text)
rest_cut word text short same =
    word_first word text short same
    ∙ ap (λ r. word ++ r) (sym (take_all (length text - length word) (drop (length word) text) (omega (arith, length-drop (length word) text))))

-- ---- names

pub name_of : (name : List ℕ) → are_letters name ≡ true → IsName name
name_of [] letters k below = absurd (omega (arith, below))
name_of (b ∷ bs) letters zero below =
    let h = and_parts _ _ letters in
    let small = and_parts _ _ h.0 in
    inl (omega (arith, ltb-true 96 b small.0), omega (arith, ltb-true b 123 small.1))
name_of (b ∷ bs) letters (suc k) below = name_of bs (and_parts _ _ letters).1 k (omega (arith, below))

-- ---- members

-- the first one
pub first_member : (n : ℕ) (start value tail name : List ℕ) (d : Data) → are_letters name ≡ true → IsKey start name value
    → IsValue n value tail d → AreMembersUpTo n start tail (put name d no_members)
first_member n start value tail name d letters key v = record {
  more = members_more n start start name key.gap value tail no_members d (members_begin n start) (name_of name letters) key.blank key.cut v;
}

-- one more
pub next_member : (n : ℕ) (start text value tail name : List ℕ) (ms : Members) (d : Data) → are_letters name ≡ true
    → AreMembersUpTo n start text ms → IsNextKey text name value → IsValue n value tail d → AreMembersUpTo n start tail (put name d ms)
next_member n start text value tail name ms d letters up next v = record {
  more = members_more n start next.rest name next.key.gap value tail ms d
      (members_next n start text next.rest next.gap (next.gap ++ next.rest) ms up.more next.blank next.comma refl)
      (name_of name letters) next.key.blank next.key.cut v;
}

pub line_value : (line text value tail name : List ℕ) (ms : Members) (d : Data) → are_letters name ≡ true → IsLineUpTo line text ms
    → IsNextKey text name value → IsValue 3 value tail d → IsLineUpTo line tail (put name d ms)
line_value line text value tail name ms d letters up key v =
    record { start = up.start; brace = up.brace; members = next_member 3 up.start text value tail name ms d letters up.members key v }

pub all_members : (n : ℕ) (start text tail : List ℕ) (ms : Members) → AreMembersUpTo n start text ms → text ≡ 125 ∷ tail → AreMembers n start tail ms
all_members n start text tail ms up cut = members_end n start text tail ms up.more cut

pub line_ends : (line text tail : List ℕ) (ms : Members) → IsLineUpTo line text ms → text ≡ 125 ∷ tail → length tail ≡ 0 → json_of line ≡ Some (object ms)
line_ends line text tail ms up cut none =
    let all : AreMembers 3 up.start [] ms = subst (λ t. AreMembers 3 up.start t ms) (no_tail tail none) (all_members 3 up.start text tail ms up.members cut) in
    line_read 4 line (object ms) (omega arith) (members_value 3 line up.start [] ms up.brace all)

-- ---- numbers

pub u32_value : (text tail : List ℕ) (n m : ℕ) → n < 2 ^ 64 → text ≡ decimal n ++ tail → m ≡ n → IsValue 0 text tail (number (unsigned m))
u32_value text tail n m fits cut same = subst (λ k. IsValue 0 text tail (number (unsigned k))) (sym same) (number_value text tail n fits cut)

pub signed_value : (text tail : List ℕ) (n : ℕ) (z : ℤ) → n < 2 ^ 64 → text ≡ decimal n ++ tail → z ≡ pos n → IsValue 0 text tail (whole z)
signed_value text tail n z fits cut same = subst (λ z. IsValue 0 text tail (whole z)) (sym same) (number_value text tail n fits cut)

pub signed_fits : (n : ℕ) (z : ℤ) → n < 2 ^ 63 → z ≡ pos n → i64_in (whole z) ≡ Some z
signed_fits n z fits same = subst (λ z. i64_in (whole z) ≡ Some z) (sym same) (i64_of n fits)

pub far_value : (text digits tail : List ℕ) (size far : ℕ) (z : ℤ) → size ≡ suc far → far < 2 ^ 63 → text ≡ 45 ∷ digits
    → digits ≡ decimal size ++ tail → z ≡ negsuc far → IsValue 0 text tail (whole z)
far_value text digits tail size far z is fits minus cut same =
    subst (λ z. IsValue 0 text tail (whole z)) (sym same) (below_value text digits tail size far is fits minus cut)

pub far_fits : (far : ℕ) (z : ℤ) → z ≡ negsuc far → i64_in (whole z) ≡ Some z
unfolding i64_in
far_fits far z same = subst (λ z. i64_in (whole z) ≡ Some z) (sym same) refl

pub whole_is : (z : ℤ) → is_whole (whole z) ≡ true
unfolding is_whole
whole_is (pos n) = refl
whole_is (negsuc n) = refl

pub moment_fits : (n : ℕ) (z : ℤ) → n < 2 ^ 63 → z ≡ pos n → moment_in (whole z) ≡ Some z
moment_fits n z fits same = subst (λ z. moment_in (whole z) ≡ Some z) (sym same) (moment_of n fits)

-- ---- what the code found

abbrev pub Read : Type 0 → Type 0
Read A = A × Bor (List ℕ)

pub number_read : (text : List ℕ) (r : Option (Read ℕ)) → IfSome r (λ r. text ≡ decimal r.0 ++ r.1.now) → IfSome r (λ r. r.0 < 2 ^ 64)
    → IfSome r (λ r. IsValue 0 text r.1.now (number (unsigned r.0)))
number_read text None cut fits = tt
number_read text (Some r) cut fits = number_value text r.1.now r.0 fits cut

pub name_read : (text : List ℕ) (r : Option (Read (Bor (List ℕ)))) → IfSome r (λ r. text ≡ 34 ∷ (r.0.now ++ 34 ∷ r.1.now)) → IfSome r (λ r. IsName r.0.now)
    → IfSome r (λ r. IsValue 0 text r.1.now (string r.0.now))
name_read text None cut letters = tt
name_read text (Some r) cut letters = name_value text r.0.now r.1.now letters cut

pub line_member : {A : Type 0} (data_of : A → Data) (text value name : List ℕ) (r : Option (Read A)) → are_letters name ≡ true
    → IsNextKey text name value → IfSome r (λ r. IsValue 0 value r.1.now (data_of r.0))
    → IfSome r (λ r. (line : List ℕ) (ms : Members) → IsLineUpTo line text ms → IsLineUpTo line r.1.now (put name (data_of r.0) ms))
line_member data_of text value name None letters key is = tt
line_member data_of text value name (Some r) letters key is = λ line ms up.
    line_value line text value r.1.now name ms (data_of r.0) letters up key (nests_more 0 3 value r.1.now (data_of r.0) (omega arith) is)

pub change_number : {A : Type 0} (missing : A) (data_of : A → Data) (text value name : List ℕ) (r : Option (Read A)) → are_letters name ≡ true
    → IsNextKey text name value → IfSome r (λ r. IsValue 0 value r.1.now (data_of r.0))
    → IfSome r (λ r. (there : Option A) × (r.0 ≡ value_or missing there)
    × ((start : List ℕ) (ms : Members) → AreMembersUpTo 1 start text ms → AreMembersUpTo 1 start r.1.now (put_if name (option_map data_of there) ms)))
change_number missing data_of text value name None letters key is = tt
change_number missing data_of text value name (Some r) letters key is = (
  Some r.0,
  refl,
  λ start ms up. next_member 1 start text value r.1.now name ms (data_of r.0) letters up key (nests_more 0 1 value r.1.now (data_of r.0) (omega arith) is),
)

pub if_some : {A : Type 0} {P Q : A → Type 0} (r : Option A) → ((x : A) → P x → Q x) → IfSome r P → IfSome r Q
if_some None f h = tt
if_some (Some x) f h = f x h
