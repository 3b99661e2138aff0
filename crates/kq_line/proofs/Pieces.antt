-- The members that were found, one more at a time.
use Rattle.std.proofs.Common.{◌≡◌, ℕ, ◌+◌, ◌<◌, ◌≤◌, Bool, true, false, cond, List, [], ◌∷◌, ◌++◌, length, drop, get_or, bytes_eq, Option, Some, None, Ordering, Less, Equal, Greater, nat_cmp, is_eq, refl, sym, ap, ◌∙◌, subst, add-one, drop-cons, length-append}
use Rattle.std.proofs.lemmas.Bool.{true≢false}
use Rattle.std.proofs.lemmas.List.{drop_all}
use Rattle.std.proofs.lemmas.Slice.Eq.{bytes_eq-Decides}
use Rattle.std.specs.Cmp.Lexicographic.{slice_cmp}
use Rattle.std.specs.Ordering.{match_ordering}
use Rattle.serde_json.specs.Data.{Data, Members, member, no_members, put}
use Rattle.serde_json.specs.Find.{get_member}
use Rattle.serde_json.proofs.Views.{get_member-put, get_member-put_other}
use Rattle.kq_model.specs.declared.change.Change.{Change}
use Rattle.kq_model.specs.Members.{member_count}
use Rattle.kq_line.specs.declared.found.Found.{Found}
use Rattle.kq_line.specs.declared.piece.Member.{Member}
use Rattle.kq_line.specs.declared.piece.Piece.{Piece}
use Rattle.kq_line.specs.Shows.{Agree, AreShown, CanBe, Holds, IsPiece, Shows, piece_in}

-- ---- a look-up, from the front

pub found_here : (ms : List Member) (i : ℕ) (m : Member) (name : List ℕ) → i < length ms → bytes_eq (get_or ms i m).name.now name ≡ true
    → piece_in (drop i ms) name ≡ Some (get_or ms i m).piece
found_here ms i m name lt same = ap (λ l. piece_in l name) (drop-cons ms i m lt) ∙ rw same refl

pub not_here : (ms : List Member) (i : ℕ) (m : Member) (name : List ℕ) → i < length ms → bytes_eq (get_or ms i m).name.now name ≡ false
    → piece_in (drop i ms) name ≡ piece_in (drop (i + 1) ms) name
not_here ms i m name lt other = ap (λ l. piece_in l name) (drop-cons ms i m lt) ∙ rw (other, add-one i) refl

pub not_there : (ms : List Member) (i : ℕ) (name : List ℕ) → length ms ≤ i → piece_in (drop i ms) name ≡ None
not_there ms i name end = ap (λ l. piece_in l name) (drop_all i ms end)

-- ---- behind one more member

push_other : (found : List Member) (m : Member) (name : List ℕ) → bytes_eq m.name.now name ≡ false → piece_in (found ++ m ∷ []) name ≡ piece_in found name
push_other [] m name other = rw other refl
push_other (x ∷ found) m name other = ap (cond (bytes_eq x.name.now name) (Some x.piece)) (push_other found m name other)

some_none : (p : Piece) → Some p ≡ None → ⊥
some_none p e = cc

push_same_by : (b : Bool) (x : Piece) (before after : Option Piece) (p : Piece) → cond b (Some x) before ≡ None → (before ≡ None → after ≡ Some p) → cond b (Some x) after ≡ Some p
push_same_by true x before after p none rest = absurd (some_none x none)
push_same_by false x before after p none rest = rest none

push_same : (found : List Member) (m : Member) (name : List ℕ) → bytes_eq m.name.now name ≡ true → piece_in found name ≡ None → piece_in (found ++ m ∷ []) name ≡ Some m.piece
push_same [] m name same none = rw same refl
push_same (x ∷ found) m name same none =
    push_same_by (bytes_eq x.name.now name) x.piece (piece_in found name) (piece_in (found ++ m ∷ []) name) m.piece none (push_same found m name same)

-- ---- as many members

missing_of : (changes : List Change) (o : Option Data) → Agree changes None o → o ≡ None
missing_of changes None h = refl
missing_of changes (Some d) h = absurd h

count_at : (o : Ordering) (k l : List ℕ) (d e : Data) (ms : Members) → is_eq o ≡ false → member_count (put k d ms) ≡ member_count ms + 1
    → member_count (match_ordering o (member k d (member l e ms)) (member l d ms) (member l e (put k d ms))) ≡ member_count ms + 1 + 1
unfolding member_count
count_at Less k l d e ms other rest = refl
count_at Equal k l d e ms other rest = absurd (true≢false other)
count_at Greater k l d e ms other rest = ap (λ n. n + 1) rest

apart : (o : Ordering) (e : Data) (r : Option Data) → match_ordering o r (Some e) r ≡ None → (is_eq o ≡ false) × (r ≡ None)
apart Less e r none = (refl, none)
apart Equal e r none = absurd (let bad : Some e ≡ None = none in cc)
apart Greater e r none = (refl, none)

count_put : (k : List ℕ) (d : Data) (ms : Members) → get_member k ms ≡ None → member_count (put k d ms) ≡ member_count ms + 1
unfolding member_count
count_put k d no_members none = refl
count_put k d (member l e ms) none =
    let split = apart (slice_cmp nat_cmp k l) e (get_member k ms) none in
    count_at (slice_cmp nat_cmp k l) k l d e ms split.0 (count_put k d ms split.1)

-- ---- one more member is shown

agree_same : (changes : List Change) (p q : Option Piece) (o r : Option Data) → p ≡ q → o ≡ r → Agree changes p o → Agree changes q r
agree_same changes p q o r e f h = subst (λ x. Agree changes q x) f (subst (λ x. Agree changes x o) e h)

shown_at : (b : Bool) (changes : List Change) (found : List Member) (ms : Members) (m : Member) (d : Data) (name : List ℕ) → bytes_eq m.name.now name ≡ b
    → AreShown changes found ms → piece_in found m.name.now ≡ None → Holds changes m.piece d
    → Agree changes (piece_in (found ++ m ∷ []) name) (get_member name (put m.name.now d ms))
shown_at true changes found ms m d name is shown none holds =
    let same : m.name.now ≡ name = (bytes_eq-Decides m.name.now name).0 is in
    let here : piece_in found name ≡ None = ap (piece_in found) (sym same) ∙ none in
    let there : get_member name (put m.name.now d ms) ≡ Some d = ap (λ k. get_member k (put m.name.now d ms)) (sym same) ∙ get_member-put m.name.now d ms in
    agree_same changes (Some m.piece) _ (Some d) _ (sym (push_same found m name is here)) (sym there) holds
shown_at false changes found ms m d name is shown none holds =
    let other : name ≡ m.name.now → ⊥ = λ e. true≢false (sym ((bytes_eq-Decides m.name.now name).1 (sym e)) ∙ is) in
    agree_same changes (piece_in found name) _ (get_member name ms) _ (sym (push_other found m name is)) (sym (get_member-put_other name m.name.now d ms other)) (shown.each name)

shown_more : (changes : List Change) (found : List Member) (ms : Members) (m : Member) (d : Data) → AreShown changes found ms → piece_in found m.name.now ≡ None
    → Holds changes m.piece d → AreShown changes (found ++ m ∷ []) (put m.name.now d ms)
shown_more changes found ms m d shown none holds =
    let missing : get_member m.name.now ms ≡ None = missing_of changes (get_member m.name.now ms) (subst (λ p. Agree changes p (get_member m.name.now ms)) none (shown.each m.name.now)) in
    record {
      each = λ name. shown_at (bytes_eq m.name.now name) changes found ms m d name refl shown none holds;
      count = length-append found (m ∷ []) ∙ ap (λ n. n + 1) shown.count ∙ sym (count_put m.name.now d ms missing);
    }

pub shows_none : (found : Found) → found.members.items ≡ [] → Shows found no_members
unfolding Shows member_count
shows_none found none = λ changes can. rw none (record { each = λ name. tt; count = refl })

pub shows_more : (before after : Found) (ms : Members) (m : Member) (d : Data) → Shows before ms → after.members.items ≡ before.members.items ++ m ∷ []
    → after.changes.items ≡ before.changes.items → after.has_changes ≡ before.has_changes → piece_in before.members.items m.name.now ≡ None
    → IsPiece before m.piece d → Shows after (put m.name.now d ms)
unfolding Shows
shows_more before after ms m d shows added same_changes same_has none piece = λ changes can.
    let was : CanBe before changes = λ has. can (same_has ∙ has) ∙ same_changes in
    subst (λ l. AreShown changes l (put m.name.now d ms)) (sym added) (shown_more changes before.members.items ms m d (shows changes was) none (piece changes was))
