-- The members of a record, one at a time.
use denote.Ref.{Bor}
use Rattle.std.proofs.Common.{◌≡◌, ℕ, zero, suc, ◌+◌, ◌<◌, ◌≤◌, Bool, true, false, ◌&&◌, List, [], ◌∷◌, ◌++◌, map, length, take, drop, get_or, refl, sym, ap, ◌∙◌, subst, add-one, append_assoc, arith, drop-cons, drop_of_length-le}
use Rattle.std.proofs.lemmas.Bool.{and_parts}
use Rattle.std.proofs.lemmas.List.{take_all}
use Rattle.serde_json.specs.Data.{array, string}
use Rattle.serde_json.specs.View.{items_of}
use Rattle.serde_json.specs.Written.{comma_if, compact_text, items_text}
use Rattle.kq_model.specs.declared.change.Change.{Change}
use Rattle.kq_model.specs.Spelling.{change_data, value_data}
use Rattle.kq_text.specs.Adds.{Adds}
use Rattle.kq_spell.specs.declared.members.Spelled.{Spelled}
use Rattle.kq_spell.specs.Again.{FitsValue, FitMembers}
use Rattle.kq_spell.specs.Texts.{are_words, changes_text, is_spelled_by_words, is_word, member_of, members_rest, value_of}

-- a list of changes, with its brackets
pub list_text : (later : Bool) (cs : List Change) → items_text later (items_of (map change_data cs)) ≡ changes_text later cs
unfolding changes_text
list_text later [] = refl
list_text later (c ∷ cs) = ap (λ rest. comma_if later ++ (compact_text (change_data c) ++ rest)) (list_text true cs)

pub whole_list : (cs : List Change) → compact_text (array (items_of (map change_data cs))) ≡ 91 ∷ changes_text false cs
whole_list cs = ap (λ text. 91 ∷ text) (list_text false cs)

-- ---- each member has words for names

abbrev is_by_words : Bor (List ℕ) × Spelled → Bool
is_by_words m = is_word m.0.now && is_spelled_by_words m.1

words_at : (members : List (Bor (List ℕ) × Spelled)) (i : ℕ) (d : Bor (List ℕ) × Spelled) → i < length members → are_words members ≡ true
    → is_by_words (get_or members i d) ≡ true
words_at [] i d lt are = absurd (omega arith)
words_at (m ∷ ms) zero d lt are = (and_parts (is_by_words m) (are_words ms) are).0
words_at (m ∷ ms) (suc i) d lt are = words_at ms i d (omega arith) (and_parts (is_by_words m) (are_words ms) are).1

pub words_of : (members : List (Bor (List ℕ) × Spelled)) (i : ℕ) (d : Bor (List ℕ) × Spelled) → i < length members → are_words members ≡ true
    → (is_word (get_or members i d).0.now ≡ true) × (is_spelled_by_words (get_or members i d).1 ≡ true)
words_of members i d lt are =
    let m = get_or members i d in
    let p = and_parts (is_word m.0.now) (is_spelled_by_words m.1) (words_at members i d lt are) in (p.0, p.1)

-- ---- the members so far

pub member_taken : (later : Bool) (members : List (Bor (List ℕ) × Spelled)) (i : ℕ) (d : Bor (List ℕ) × Spelled) (old new : List ℕ)
    → i < length members
    → Adds old (comma_if later ++ (compact_text (string (get_or members i d).0.now) ++ 58 ∷ compact_text (value_data (value_of (get_or members i d).1)))) new
    → new ++ members_rest true (drop (i + 1) members) ≡ old ++ members_rest later (drop i members)
member_taken later members i d old new lt is = rw (is.is, add-one, drop-cons members i d lt) (simp append_assoc)

pub members_ended : (later : Bool) (members : List (Bor (List ℕ) × Spelled)) (i : ℕ) (first out new : List ℕ) → length members ≤ i
    → out ++ members_rest later (drop i members) ≡ first ++ members_rest false members → Adds out (125 ∷ 10 ∷ []) new
    → Adds first (members_rest false members ++ 10 ∷ []) new
members_ended later members i first out new past kept end =
    let none : drop i members ≡ [] = drop_of_length-le members past in
    let closed : members_rest later (drop i members) ≡ 125 ∷ [] = rw none refl in
    record {
      is = end.is ∙ sym (append_assoc out (125 ∷ []) (10 ∷ [])) ∙ ap (λ l. (out ++ l) ++ 10 ∷ []) (sym closed)
          ∙ ap (λ l. l ++ 10 ∷ []) kept ∙ append_assoc first (members_rest false members) (10 ∷ []);
    }

-- ---- what fits

more : (members : List (Bor (List ℕ) × Spelled)) (i : ℕ) (d : Bor (List ℕ) × Spelled) → i < length members
    → FitMembers (map member_of (take i members)) → is_word (get_or members i d).0.now ≡ true → FitsValue (value_of (get_or members i d).1)
    → FitMembers (map member_of (take (suc i) members))
more [] i d lt so_far name new = absurd (omega arith)
more (m ∷ ms) zero d lt so_far name new = (name, new, tt)
more (m ∷ ms) (suc i) d lt so_far name new = (so_far.0, so_far.1, more ms i d (omega arith) so_far.2 name new)

pub members_fit_more : (members : List (Bor (List ℕ) × Spelled)) (i : ℕ) (d : Bor (List ℕ) × Spelled) → i < length members
    → FitMembers (map member_of (take i members)) → is_word (get_or members i d).0.now ≡ true → FitsValue (value_of (get_or members i d).1)
    → FitMembers (map member_of (take (i + 1) members))
members_fit_more members i d lt so_far name new = rw (add-one i) (more members i d lt so_far name new)

pub members_fit_all : (members : List (Bor (List ℕ) × Spelled)) (i : ℕ) → length members ≤ i → FitMembers (map member_of (take i members))
    → FitMembers (map member_of members)
members_fit_all members i end so_far = subst (λ ms. FitMembers (map member_of ms)) (take_all i members end) so_far
