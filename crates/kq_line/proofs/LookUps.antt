-- A piece that was found, by its type.
use Rattle.std.proofs.Common.{◌≡◌, ℕ, ℤ, pos, negsuc, ◌^◌, ◌<◌, Bool, true, List, length, Option, Some, None, IfSome, option_and_then, Result, Ok, Err, Bor, refl, sym, ap, ◌∙◌, subst, lt-ltb}
use Rattle.std.specs.Option.{is_some}
use Rattle.std.specs.Result.{OkIff, result_ok}
use Rattle.serde_json.specs.Data.{Data, Members, negative, number, object, unsigned}
use Rattle.serde_json.specs.Find.{get_member}
use Rattle.kq_model.specs.declared.change.Change.{Change}
use Rattle.kq_model.specs.declared.filter.Filter.{Filter}
use Rattle.kq_model.specs.declared.mode.Mode.{Mode}
use Rattle.kq_model.specs.declared.note.Note.{Note}
use Rattle.kq_model.specs.declared.record_kind.MemberType.TheVariants.{SideName, ModeName, NoteName}
use Rattle.kq_model.specs.declared.side.Side.{Side}
use Rattle.kq_model.specs.ChangeText.{change_list, filter_in, flags_in, is_change_list}
use Rattle.kq_model.specs.Members.{has_member, i64_in, is_whole, member_count, optional, or_else, required, u32_in, u64_in}
use Rattle.kq_model.specs.Names.{filter_named, mode_named, note_named, side_named}
use Rattle.kq_model.specs.RecordText.{is_of, mode_in, note_in, side_in}
use Rattle.kq_line.specs.declared.found.Found.{Found}
use Rattle.kq_line.specs.declared.piece.Piece.{Piece}
use Rattle.kq_line.specs.declared.piece.Piece.TheVariants.{Number, Below, Name, Changes}
use Rattle.kq_line.specs.Shows.{Agree, Holds, Shows, piece_in}
use Rattle.kq_line.specs.Typed.{AreChanges, AreFlags, IsFilter, IsI64OrZero, IsMode, IsNote, IsSide, IsText, IsU32, IsU32OrZero, IsU64, IsU64OrZero}

-- ---- the value of a member that was found

there_of : (changes : List Change) (p : Piece) (o : Option Data) → Agree changes (Some p) o → (d : Data) × (o ≡ Some d) × Holds changes p d
there_of changes p None h = absurd h
there_of changes p (Some d) h = (d, refl, h)

missing_of : (changes : List Change) (o : Option Data) → Agree changes None o → o ≡ None
missing_of changes None h = refl
missing_of changes (Some d) h = absurd h

pub held : (found : Found) (ms : Members) (name : List ℕ) (p : Piece) → Shows found ms → Some p ≡ piece_in found.members.items name
    → (d : Data) × (get_member name ms ≡ Some d) × Holds found.changes.items p d
unfolding Shows
held found ms name p shows is =
    there_of found.changes.items p (get_member name ms)
    (subst (λ o. Agree found.changes.items o (get_member name ms)) (sym is) ((shows found.changes.items (λ has. refl)).each name))

missing : (found : Found) (ms : Members) (name : List ℕ) → Shows found ms → None ≡ piece_in found.members.items name → get_member name ms ≡ None
unfolding Shows
missing found ms name shows is =
    missing_of found.changes.items (get_member name ms)
    (subst (λ o. Agree found.changes.items o (get_member name ms)) (sym is) ((shows found.changes.items (λ has. refl)).each name))

pub number_there : (found : Found) (ms : Members) (name : List ℕ) (n : ℕ) → Shows found ms → Some (Number n) ≡ piece_in found.members.items name
    → get_member name ms ≡ Some (number (unsigned n))
number_there found ms name n shows is = let h = held found ms name (Number n) shows is in h.1 ∙ ap Some h.2.0

pub below_there : (found : Found) (ms : Members) (name : List ℕ) (n : ℕ) → Shows found ms → Some (Below n) ≡ piece_in found.members.items name
    → get_member name ms ≡ Some (number (negative (negsuc n)))
below_there found ms name n shows is = let h = held found ms name (Below n) shows is in h.1 ∙ ap Some h.2.0

-- ---- numbers

pub u32_of : (n : ℕ) → n < 2 ^ 32 → u32_in (number (unsigned n)) ≡ Some n
unfolding u32_in
u32_of n fits = rw (lt-ltb n (2 ^ 32) fits) refl

pub i64_of : (n : ℕ) → n < 2 ^ 63 → i64_in (number (unsigned n)) ≡ Some (pos n)
unfolding i64_in
i64_of n fits = rw (lt-ltb n (2 ^ 63) fits) refl

pub u32_found : (found : Found) (name : List ℕ) (n m : ℕ) → Some (Number n) ≡ piece_in found.members.items name → m ≡ n → m < 2 ^ 32
    → (ms : Members) → Shows found ms → IsU32 ms name m
unfolding required is_whole
u32_found found name n m is same fits = λ ms shows.
    let at : get_member name ms ≡ Some (number (unsigned m)) = number_there found ms name n shows is ∙ ap (λ k. Some (number (unsigned k))) (sym same) in
    record { there = ap is_some at; whole = ap (required is_whole) at; value = ap (option_and_then u32_in) at ∙ u32_of m fits }

pub u64_found : (found : Found) (name : List ℕ) (n : ℕ) → Some (Number n) ≡ piece_in found.members.items name → (ms : Members) → Shows found ms → IsU64 ms name n
unfolding required is_whole u64_in
u64_found found name n is = λ ms shows.
    let at : get_member name ms ≡ Some (number (unsigned n)) = number_there found ms name n shows is in
    record { there = ap is_some at; whole = ap (required is_whole) at; value = ap (option_and_then u64_in) at }

pub u32_or_found : (found : Found) (name : List ℕ) (n m : ℕ) → Some (Number n) ≡ piece_in found.members.items name → m ≡ n → m < 2 ^ 32
    → (ms : Members) → Shows found ms → IsU32OrZero ms name m
unfolding optional is_whole or_else
u32_or_found found name n m is same fits = λ ms shows.
    let at : get_member name ms ≡ Some (number (unsigned m)) = number_there found ms name n shows is ∙ ap (λ k. Some (number (unsigned k))) (sym same) in
    record { whole = ap (optional is_whole) at; value = ap (or_else 0 u32_in) at ∙ u32_of m fits }

pub u32_or_missing : (found : Found) (name : List ℕ) → None ≡ piece_in found.members.items name → (ms : Members) → Shows found ms → IsU32OrZero ms name 0
unfolding optional or_else
u32_or_missing found name is = λ ms shows.
    let at = missing found ms name shows is in record { whole = ap (optional is_whole) at; value = ap (or_else 0 u32_in) at }

pub u64_or_found : (found : Found) (name : List ℕ) (n : ℕ) → Some (Number n) ≡ piece_in found.members.items name → (ms : Members) → Shows found ms → IsU64OrZero ms name n
unfolding optional is_whole or_else u64_in
u64_or_found found name n is = λ ms shows.
    let at : get_member name ms ≡ Some (number (unsigned n)) = number_there found ms name n shows is in
    record { whole = ap (optional is_whole) at; value = ap (or_else 0 u64_in) at }

pub u64_or_missing : (found : Found) (name : List ℕ) → None ≡ piece_in found.members.items name → (ms : Members) → Shows found ms → IsU64OrZero ms name 0
unfolding optional or_else
u64_or_missing found name is = λ ms shows.
    let at = missing found ms name shows is in record { whole = ap (optional is_whole) at; value = ap (or_else 0 u64_in) at }

pub i64_or_found : (found : Found) (name : List ℕ) (n : ℕ) (z : ℤ) → Some (Number n) ≡ piece_in found.members.items name → z ≡ pos n → n < 2 ^ 63
    → (ms : Members) → Shows found ms → IsI64OrZero ms name z
unfolding optional is_whole or_else
i64_or_found found name n z is same fits = λ ms shows.
    let at : get_member name ms ≡ Some (number (unsigned n)) = number_there found ms name n shows is in
    record { whole = ap (optional is_whole) at; value = ap (or_else (pos 0) i64_in) at ∙ i64_of n fits ∙ ap Some (sym same) }

pub i64_or_below : (found : Found) (name : List ℕ) (n : ℕ) (z : ℤ) → Some (Below n) ≡ piece_in found.members.items name → z ≡ negsuc n
    → (ms : Members) → Shows found ms → IsI64OrZero ms name z
unfolding optional is_whole or_else i64_in
i64_or_below found name n z is same = λ ms shows.
    let at : get_member name ms ≡ Some (number (negative (negsuc n))) = below_there found ms name n shows is in
    record { whole = ap (optional is_whole) at; value = ap (or_else (pos 0) i64_in) at ∙ ap Some (sym same) }

pub i64_or_missing : (found : Found) (name : List ℕ) (z : ℤ) → z ≡ pos 0 → None ≡ piece_in found.members.items name → (ms : Members) → Shows found ms → IsI64OrZero ms name z
unfolding optional or_else
i64_or_missing found name z zero is = λ ms shows.
    let at = missing found ms name shows is in record { whole = ap (optional is_whole) at; value = ap (or_else (pos 0) i64_in) at ∙ ap Some (sym zero) }

-- ---- names and lists

pub text_found : (found : Found) (name : List ℕ) (s : Bor (List ℕ)) → Some (Name s) ≡ piece_in found.members.items name → (ms : Members) → Shows found ms → IsText ms name s.now
text_found found name s is = λ ms shows. let h = held found ms name (Name s) shows is in h.1 ∙ ap Some h.2

pub filter_found : (ms : Members) (name text : List ℕ) (filter : Filter) → IsText ms name text → filter_named text ≡ Some filter → IsFilter ms name filter
unfolding filter_in
filter_found ms name text filter at named = record { there = ap is_some at; value = ap (option_and_then filter_in) at ∙ named }

pub side_found : (ms : Members) (name text : List ℕ) (side : Side) → IsText ms name text → side_named text ≡ Some side → IsSide ms name side
unfolding side_in is_of required
side_found ms name text side at named =
    record { there = ap (required (is_of SideName)) at ∙ ap is_some named; value = ap (option_and_then side_in) at ∙ named }

pub mode_found : (ms : Members) (name text : List ℕ) (mode : Mode) → IsText ms name text → mode_named text ≡ Some mode → IsMode ms name mode
unfolding mode_in is_of required
mode_found ms name text mode at named =
    record { there = ap (required (is_of ModeName)) at ∙ ap is_some named; value = ap (option_and_then mode_in) at ∙ named }

pub note_found : (ms : Members) (name text : List ℕ) (note : Note) → IsText ms name text → note_named text ≡ Some note → IsNote ms name note
unfolding note_in is_of required
note_found ms name text note at named =
    record { there = ap (required (is_of NoteName)) at ∙ ap is_some named; value = ap (option_and_then note_in) at ∙ named }

pub flags_found : (found : Found) (name : List ℕ) (flags : ℕ) (p : Piece) → Some p ≡ piece_in found.members.items name
    → ((d : Data) → Holds found.changes.items p d → flags_in d ≡ Some flags) → (ms : Members) → Shows found ms → AreFlags ms name flags
flags_found found name flags p is holds = λ ms shows.
    let h = held found ms name p shows is in
    record { there = ap is_some h.1; value = ap (option_and_then flags_in) h.1 ∙ holds h.0 h.2 }

pub changes_found : (found : Found) (name : List ℕ) (changes : List Change) → Some Changes ≡ piece_in found.members.items name → changes ≡ found.changes.items
    → (ms : Members) → Shows found ms → AreChanges ms name changes
unfolding required
changes_found found name changes is same = λ ms shows.
    let h = held found ms name Changes shows is in
    record {
      there = ap is_some h.1;
      listed = ap (required is_change_list) h.1 ∙ h.2.0;
      value = ap (option_and_then change_list) h.1 ∙ h.2.1 ∙ ap Some (sym same);
    }

pub has_there : (found : Found) (name : List ℕ) (o : Option Piece) (b : Bool) → o ≡ piece_in found.members.items name → b ≡ is_some o
    → (ms : Members) → Shows found ms → b ≡ has_member (object ms) name
has_there found name None b is some = λ ms shows. some ∙ ap is_some (sym (missing found ms name shows is))
has_there found name (Some p) b is some = λ ms shows. some ∙ ap is_some (sym (held found ms name p shows is).1)

-- as many members as were found
pub width_there : (found : Found) (ms : Members) (n : ℕ) → Shows found ms → n ≡ length found.members.items → n ≡ member_count ms
unfolding Shows
width_there found ms n shows is = is ∙ (shows found.changes.items (λ has. refl)).count

-- ---- a name that is known

pub known_alike : {A : Type 0} (named : List ℕ → Option A) (name other : List ℕ) (a : A) (b : Bool) → b ≡ true → (b ≡ true → name ≡ other)
    → named other ≡ Some a → named name ≡ Some a
known_alike named name other a b holds same known = ap named (same holds) ∙ known

pub named_alike : (name other : List ℕ) (filter : Filter) (b : Bool) → b ≡ true → (b ≡ true → name ≡ other) → filter_named other ≡ Some filter → filter_named name ≡ Some filter
named_alike name other filter b holds same known = ap filter_named (same holds) ∙ known

-- ---- what a conversion gave

pub u32_tried : {E : Type 0} (found : Found) (name : List ℕ) (n : ℕ) (r : Result ℕ E) (o : Option ℕ) → OkIff r (n < 2 ^ 32) n → o ≡ result_ok r
    → Some (Number n) ≡ piece_in found.members.items name → IfSome o (λ m. (ms : Members) → Shows found ms → IsU32 ms name m)
u32_tried found name n (Ok x) o h is p =
    let fits : x < 2 ^ 32 = subst (λ k. k < 2 ^ 32) (sym h.1) h.0 in
    subst (λ q. IfSome q (λ m. (ms : Members) → Shows found ms → IsU32 ms name m)) (sym is) (u32_found found name n x p h.1 fits)
u32_tried found name n (Err e) o h is p = subst (λ q. IfSome q (λ m. (ms : Members) → Shows found ms → IsU32 ms name m)) (sym is) tt

pub u32_or_tried : {E : Type 0} (found : Found) (name : List ℕ) (n : ℕ) (r : Result ℕ E) (o : Option ℕ) → OkIff r (n < 2 ^ 32) n → o ≡ result_ok r
    → Some (Number n) ≡ piece_in found.members.items name → IfSome o (λ m. (ms : Members) → Shows found ms → IsU32OrZero ms name m)
u32_or_tried found name n (Ok x) o h is p =
    let fits : x < 2 ^ 32 = subst (λ k. k < 2 ^ 32) (sym h.1) h.0 in
    subst (λ q. IfSome q (λ m. (ms : Members) → Shows found ms → IsU32OrZero ms name m)) (sym is) (u32_or_found found name n x p h.1 fits)
u32_or_tried found name n (Err e) o h is p = subst (λ q. IfSome q (λ m. (ms : Members) → Shows found ms → IsU32OrZero ms name m)) (sym is) tt

pub i64_or_signed : (found : Found) (name : List ℕ) (n : ℕ) (o : Option ℤ) → IfSome o (λ z. z ≡ pos n) → IfSome o (λ z. n < 2 ^ 63)
    → Some (Number n) ≡ piece_in found.members.items name → IfSome o (λ z. (ms : Members) → Shows found ms → IsI64OrZero ms name z)
i64_or_signed found name n None is fits p = tt
i64_or_signed found name n (Some z) is fits p = i64_or_found found name n z p is fits

pub i64_or_far : (found : Found) (name : List ℕ) (n : ℕ) (o : Option ℤ) → IfSome o (λ z. z ≡ negsuc n)
    → Some (Below n) ≡ piece_in found.members.items name → IfSome o (λ z. (ms : Members) → Shows found ms → IsI64OrZero ms name z)
i64_or_far found name n None is p = tt
i64_or_far found name n (Some z) is p = i64_or_below found name n z p is

pub filter_tried : (found : Found) (name text : List ℕ) (o : Option Filter) → ((ms : Members) → Shows found ms → IsText ms name text)
    → IfSome o (λ filter. filter_named text ≡ Some filter) → IfSome o (λ filter. (ms : Members) → Shows found ms → IsFilter ms name filter)
filter_tried found name text None at named = tt
filter_tried found name text (Some filter) at named = λ ms shows. filter_found ms name text filter (at ms shows) named

pub side_tried : (found : Found) (name text : List ℕ) (o : Option Side) → ((ms : Members) → Shows found ms → IsText ms name text)
    → IfSome o (λ side. side_named text ≡ Some side) → IfSome o (λ side. (ms : Members) → Shows found ms → IsSide ms name side)
side_tried found name text None at named = tt
side_tried found name text (Some side) at named = λ ms shows. side_found ms name text side (at ms shows) named

pub mode_tried : (found : Found) (name text : List ℕ) (o : Option Mode) → ((ms : Members) → Shows found ms → IsText ms name text)
    → IfSome o (λ mode. mode_named text ≡ Some mode) → IfSome o (λ mode. (ms : Members) → Shows found ms → IsMode ms name mode)
mode_tried found name text None at named = tt
mode_tried found name text (Some mode) at named = λ ms shows. mode_found ms name text mode (at ms shows) named

pub note_tried : (found : Found) (name text : List ℕ) (o : Option Note) → ((ms : Members) → Shows found ms → IsText ms name text)
    → IfSome o (λ note. note_named text ≡ Some note) → IfSome o (λ note. (ms : Members) → Shows found ms → IsNote ms name note)
note_tried found name text None at named = tt
note_tried found name text (Some note) at named = λ ms shows. note_found ms name text note (at ms shows) named
