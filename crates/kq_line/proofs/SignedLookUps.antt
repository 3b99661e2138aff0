-- A piece that was found, where it is a number with a sign, a moment, or true or false.
use Rattle.std.proofs.Common.{◌≡◌, ℕ, ℤ, pos, negsuc, ◌^◌, ◌<◌, Bool, cond, List, Option, Some, None, IfSome, option_and_then, sym, ap, ◌∙◌, arith}
use Rattle.std.proofs.lemmas.Bool.{le-ltb}
use Rattle.serde_json.specs.Data.{Members, negative, number, unsigned}
use Rattle.serde_json.specs.Find.{as_bool, get_member}
use Rattle.kq_model.specs.declared.record_kind.MemberType.TheVariants as member_type
use Rattle.kq_model.specs.Members.{from_zero, i64_in, is_whole, moment_in, required}
use Rattle.kq_model.specs.RecordText.{is_of}
use Rattle.kq_line.specs.declared.found.Found.{Found}
use Rattle.kq_line.specs.declared.piece.Piece.TheVariants.{Number, Below, Truth}
use Rattle.kq_line.specs.Shows.{Shows, piece_in}
use Rattle.kq_line.specs.Typed.{IsI64, IsMoment, IsTruth}
use Rattle.kq_line.proofs.LookUps.{below_there, held, i64_of, number_there}

pub i64_signed : (found : Found) (name : List ℕ) (n : ℕ) (o : Option ℤ) → IfSome o (λ z. z ≡ pos n) → IfSome o (λ z. n < 2 ^ 63)
    → Some (Number n) ≡ piece_in found.members.items name → IfSome o (λ z. (ms : Members) → Shows found ms → IsI64 ms name z)
unfolding required is_whole
i64_signed found name n None same fits is = tt
i64_signed found name n (Some z) same fits is = λ ms shows.
    let at : get_member name ms ≡ Some (number (unsigned n)) = number_there found ms name n shows is in
    record { whole = ap (required is_whole) at; value = ap (option_and_then i64_in) at ∙ i64_of n fits ∙ ap Some (sym same) }

pub i64_far : (found : Found) (name : List ℕ) (n : ℕ) (o : Option ℤ) → IfSome o (λ z. z ≡ negsuc n)
    → Some (Below n) ≡ piece_in found.members.items name → IfSome o (λ z. (ms : Members) → Shows found ms → IsI64 ms name z)
unfolding required is_whole i64_in
i64_far found name n None same is = tt
i64_far found name n (Some z) same is = λ ms shows.
    let at : get_member name ms ≡ Some (number (negative (negsuc n))) = below_there found ms name n shows is in
    record { whole = ap (required is_whole) at; value = ap (option_and_then i64_in) at ∙ ap Some (sym same) }

pub moment_of : (n : ℕ) → n < 2 ^ 63 → moment_in (number (unsigned n)) ≡ Some (pos n)
unfolding moment_in from_zero
moment_of n fits =
    ap (option_and_then from_zero) (i64_of n fits) ∙ ap (λ b. cond b None (Some (pos n))) (le-ltb n 0 (omega arith))

pub moment_signed : (found : Found) (name : List ℕ) (n : ℕ) (o : Option ℤ) → IfSome o (λ z. z ≡ pos n) → IfSome o (λ z. n < 2 ^ 63)
    → Some (Number n) ≡ piece_in found.members.items name → IfSome o (λ z. (ms : Members) → Shows found ms → IsMoment ms name z)
unfolding required is_whole
moment_signed found name n None same fits is = tt
moment_signed found name n (Some z) same fits is = λ ms shows.
    let at : get_member name ms ≡ Some (number (unsigned n)) = number_there found ms name n shows is in
    record { whole = ap (required is_whole) at; value = ap (option_and_then moment_in) at ∙ moment_of n fits ∙ ap Some (sym same) }

pub truth_found : (found : Found) (name : List ℕ) (b : Bool) → Some (Truth b) ≡ piece_in found.members.items name
    → (ms : Members) → Shows found ms → IsTruth ms name b
unfolding required is_of
truth_found found name b is = λ ms shows.
    let h = held found ms name (Truth b) shows is in
    let at = h.1 ∙ ap Some h.2 in
    record { there = ap (required (is_of member_type.Truth)) at; value = ap (option_and_then as_bool) at }
