-- What serde_json finds in a value, by the kinds of a record's members.
use Rattle.std.proofs.Common.{◌≡◌, ℕ, suc, ◌+◌, ◌^◌, Bool, true, false, ◌||◌, ◌&&◌, ◌==◌, List, [], ◌∷◌, length, Some, None, Option, option_and_then, nat_lt, cond, refl, sym, ap, ap₂, ◌∙◌, Bor, map, arith, add-one, ◌<◌, ◌≤◌, Result, Ok, Err}
use Rattle.std.proofs.lemmas.Bool.{lt-ltb, le-ltb}
use Rattle.std.specs.Option.{is_some, option_map_or}
use Rattle.std.specs.Result.{OkIff, result_ok}
use Rattle.std.specs.List.{list_all}
use Rattle.serde_json.specs.Data.{unsigned, negative, float, Data, null, boolean, number, string, array, object, Members, no_members, member}
use Rattle.serde_json.specs.Events.{members_len}
use Rattle.serde_json.specs.Find.{as_number, as_object, as_u64, as_i64, get}
use Rattle.kq_model.specs.Reading.{is_version, version_in}
use Rattle.kq_model.specs.declared.record_kind.MemberType.{MemberType}
use Rattle.kq_model.specs.Members.{has_just, has_member, is_whole, i64_in, required, u32_in, u64_in, width, member_count}
use Rattle.kq_model.specs.RecordText.{is_of, is_record}

pub found_u64 : (d : Data) → option_and_then as_u64 (as_number d) ≡ u64_in d
unfolding u64_in
found_u64 null = refl
found_u64 (boolean b) = refl
found_u64 (number (unsigned n)) = refl
found_u64 (number (negative z)) = refl
found_u64 (number (float x)) = refl
found_u64 (string s) = refl
found_u64 (array ds) = refl
found_u64 (object ms) = refl

pub found_i64 : (d : Data) → option_and_then as_i64 (as_number d) ≡ i64_in d
unfolding i64_in
found_i64 null = refl
found_i64 (boolean b) = refl
found_i64 (number (unsigned n)) = refl
found_i64 (number (negative z)) = refl
found_i64 (number (float x)) = refl
found_i64 (string s) = refl
found_i64 (array ds) = refl
found_i64 (object ms) = refl

not_below : (a b : ℕ) → (a < b → ⊥) → b ≤ a
not_below a b h = omega (arith, h)

-- a number, where it is small enough
abbrev pub within : ℕ → ℕ → Option ℕ
within limit n = cond (nat_lt n limit) (Some n) None

pub found_u32 : (d : Data) → option_and_then (within (2 ^ 32)) (option_and_then as_u64 (as_number d)) ≡ u32_in d
unfolding u32_in
found_u32 null = refl
found_u32 (boolean b) = refl
found_u32 (number (unsigned n)) = refl
found_u32 (number (negative z)) = refl
found_u32 (number (float x)) = refl
found_u32 (string s) = refl
found_u32 (array ds) = refl
found_u32 (object ms) = refl

-- a value is whole where it is seen as a number with a sign or without
pub found_whole : (d : Data) → (is_some (option_and_then as_u64 (as_number d)) || is_some (option_and_then as_i64 (as_number d))) ≡ is_whole d
unfolding is_whole
found_whole null = refl
found_whole (boolean b) = refl
found_whole (number (unsigned n)) = refl
found_whole (number (negative z)) = refl
found_whole (number (float x)) = refl
found_whole (string s) = refl
found_whole (array ds) = refl
found_whole (object ms) = refl

pub whole_there : (d : Data) (u : Bool) → u ≡ true → u ≡ is_some (option_and_then as_u64 (as_number d)) → u ≡ is_whole d
whole_there d u holds e =
    holds ∙ ap (λ b. b || is_some (option_and_then as_i64 (as_number d))) (sym holds ∙ e) ∙ found_whole d

pub signed_there : (d : Data) (u i : Bool) → u ≡ false → u ≡ is_some (option_and_then as_u64 (as_number d))
    → i ≡ is_some (option_and_then as_i64 (as_number d)) → i ≡ is_whole d
signed_there d u i fails e f =
    f ∙ ap (λ b. b || is_some (option_and_then as_i64 (as_number d))) (sym fails ∙ e) ∙ found_whole d

within_ok : {E : Type 0} (n : ℕ) (r : Result ℕ E) → OkIff r (n < 2 ^ 32) n → result_ok r ≡ within (2 ^ 32) n
within_ok n (Ok x) h = rw (lt-ltb n (2 ^ 32) h.0, h.1) refl
within_ok n (Err e) h = rw (le-ltb n (2 ^ 32) (not_below n (2 ^ 32) h)) refl

-- a number of 64 bits that was found, tried at 32 bits
pub narrow : {E : Type 0} (d : Data) (n : ℕ) (r : Result ℕ E) → OkIff r (n < 2 ^ 32) n → Some n ≡ option_and_then as_u64 (as_number d) → result_ok r ≡ u32_in d
narrow d n r h found = within_ok n r h ∙ ap (option_and_then (within (2 ^ 32))) found ∙ found_u32 d

pub no_u32 : (d : Data) → None ≡ option_and_then as_u64 (as_number d) → None ≡ u32_in d
no_u32 d missing = ap (option_and_then (within (2 ^ 32))) missing ∙ found_u32 d

pub member_count-len : (ms : Members) → members_len ms ≡ member_count ms
unfolding member_count
member_count-len no_members = refl
member_count-len (member k d ms) = ap suc (member_count-len ms) ∙ sym (add-one (member_count ms))

-- an object's members, counted
pub found_width : (d : Data) → option_map_or members_len (as_object d) 0 ≡ width d
unfolding width
found_width null = refl
found_width (boolean b) = refl
found_width (number n) = refl
found_width (string s) = refl
found_width (array ds) = refl
found_width (object ms) = member_count-len ms

-- a test of each of these names
pub all_at : {A B : Type 0} (f : A → B) (test : B → Bool) (xs : List A) → list_all (λ x. test (f x)) xs ≡ list_all test (map f xs)
all_at f test [] = refl
all_at f test (x ∷ xs) = ap (λ b. test (f x) && b) (all_at f test xs)

same_len : {A B : Type 0} (f : A → B) (xs : List A) → length (map f xs) ≡ length xs
same_len f [] = refl
same_len f (x ∷ xs) = ap suc (same_len f xs)

-- every name is there: then the members are just these where there are as many
pub just : (names : List (Bor (List ℕ))) (d : Data) (n : ℕ) → true ≡ list_all (λ name. has_member d name.now) names → n ≡ width d
    → (n == length names) ≡ has_just (map (λ name. name.now) names) d
unfolding has_just
just names d n all count = rw (← all_at (λ name. name.now) (has_member d) names, ← all, ← count, same_len (λ (name : Bor (List ℕ)). name.now) names) refl

pub not_just : (names : List (Bor (List ℕ))) (d : Data) → false ≡ list_all (λ name. has_member d name.now) names → false ≡ has_just (map (λ name. name.now) names) d
unfolding has_just
not_just names d all = rw (← all_at (λ name. name.now) (has_member d) names, ← all) refl

-- each member of a record is there: then there are no others where there is one more of them
abbrev typed : Bor (List ℕ) × MemberType → List ℕ × MemberType
typed m = (m.0.now, m.1)

abbrev is_there : Data → List ℕ × MemberType → Bool
is_there d m = required (is_of m.1) (get m.0 d)

pub whole_record : (members : List (Bor (List ℕ) × MemberType)) (d : Data) (n : ℕ)
    → true ≡ list_all (λ m. required (is_of m.1) (get m.0.now d)) members → n ≡ width d
    → (n == length members + 1) ≡ is_record (map (λ m. (m.0.now, m.1)) members) d
unfolding is_record
whole_record members d n all count = rw (← all_at typed (is_there d) members, ← all, ← count, same_len typed members) refl

pub other_record : (members : List (Bor (List ℕ) × MemberType)) (d : Data)
    → false ≡ list_all (λ m. required (is_of m.1) (get m.0.now d)) members → false ≡ is_record (map (λ m. (m.0.now, m.1)) members) d
unfolding is_record
other_record members d all = rw (← all_at typed (is_there d) members, ← all) refl

version_of : ℕ → Option ℕ
version_of n = cond (is_version n) (Some n) None

found_version : (d : Data) → option_and_then version_of (option_and_then as_u64 (as_number d)) ≡ version_in d
unfolding version_in version_of
found_version null = refl
found_version (boolean b) = refl
found_version (number (unsigned n)) = refl
found_version (number (negative z)) = refl
found_version (number (float x)) = refl
found_version (string s) = refl
found_version (array ds) = refl
found_version (object ms) = refl

pub version_there : (d : Data) (n version : ℕ) → Some n ≡ option_and_then as_u64 (as_number d) → n ≡ version → is_version version ≡ true
    → Some version ≡ version_in d
unfolding version_of
version_there d n version found same known =
    ap (λ b. cond b (Some version) None) (sym known) ∙ ap (option_and_then version_of) (ap Some (sym same) ∙ found) ∙ found_version d

pub other_there : (d : Data) (n : ℕ) → Some n ≡ option_and_then as_u64 (as_number d) → (n == 1) ≡ false → (n == 2) ≡ false
    → None ≡ version_in d
unfolding version_of
other_there d n found first second =
    ap₂ (λ a b. cond (a || b) (Some n) None) (sym first) (sym second) ∙ ap (option_and_then version_of) found ∙ found_version d

pub none_there : (d : Data) → None ≡ option_and_then as_u64 (as_number d) → None ≡ version_in d
unfolding version_of
none_there d missing = ap (option_and_then version_of) missing ∙ found_version d
