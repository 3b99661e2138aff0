-- A change whose members stand where programs write them.
use Rattle.std.proofs.Common.{◌≡◌, ℕ, ℤ, pos, ◌+◌, ◌<◌, ◌^◌, List, codes, true, Option, Some, None, option_map, option_and_then, refl, sym, ap, ◌∙◌, subst}
use Rattle.std.specs.Option.{is_some}
use Rattle.serde_json.specs.Data.{Data, Members, no_members, number, object, put, string, unsigned}
use Rattle.serde_json.specs.Find.{get_member}
use Rattle.kq_model.specs.declared.filter.Filter.{Filter}
use Rattle.kq_model.specs.ChangeText.{change_of, change_with, extra_width, flags_in, is_change}
use Rattle.kq_model.specs.Members.{i64_in, is_whole, member_count, optional, or_else, required, u32_in, u64_in}
use Rattle.kq_model.specs.Names.{filter_named}
use Rattle.kq_line.specs.Typed.{IsI64OrZero, IsU32OrZero, IsU64OrZero}
use Rattle.kq_line.specs.Usual.{put_if, value_or, whole}
use Rattle.kq_line.proofs.KnownChange.{change_known}
use Rattle.kq_line.proofs.LookUps.{filter_found, u32_of}
use Rattle.kq_line.proofs.MemberSteps.{whole_is}

abbrev pub first_three : ℕ → List ℕ → Data → Members
first_three ident name flags =
    put (codes "flags") flags (put (codes "filter") (string name) (put (codes "ident") (number (unsigned ident)) no_members))

abbrev pub members_of : ℕ → List ℕ → Data → Option Data → Option Data → Option Data → Members
members_of ident name flags fflags datum udata =
    put_if (codes "udata") udata (put_if (codes "data") datum (put_if (codes "fflags") fflags (first_three ident name flags)))

record AreThere (ident : ℕ) (name : List ℕ) (flags : Data) (fflags datum udata : Option Data) (ms : Members) : Type 0 where
  ident_at : get_member (codes "ident") ms ≡ Some (number (unsigned ident))
  filter_at : get_member (codes "filter") ms ≡ Some (string name)
  flags_at : get_member (codes "flags") ms ≡ Some flags
  fflags_at : get_member (codes "fflags") ms ≡ fflags
  datum_at : get_member (codes "data") ms ≡ datum
  udata_at : get_member (codes "udata") ms ≡ udata
  count : member_count ms ≡ 3 + extra_width (object ms)

there : (ident : ℕ) (name : List ℕ) (flags : Data) (fflags datum udata : Option Data)
    → AreThere ident name flags fflags datum udata (members_of ident name flags fflags datum udata)
unfolding member_count extra_width
there ident name flags None None None =
    record { ident_at = refl; filter_at = refl; flags_at = refl; fflags_at = refl; datum_at = refl; udata_at = refl; count = refl }
there ident name flags None None (Some u) =
    record { ident_at = refl; filter_at = refl; flags_at = refl; fflags_at = refl; datum_at = refl; udata_at = refl; count = refl }
there ident name flags None (Some z) None =
    record { ident_at = refl; filter_at = refl; flags_at = refl; fflags_at = refl; datum_at = refl; udata_at = refl; count = refl }
there ident name flags None (Some z) (Some u) =
    record { ident_at = refl; filter_at = refl; flags_at = refl; fflags_at = refl; datum_at = refl; udata_at = refl; count = refl }
there ident name flags (Some f) None None =
    record { ident_at = refl; filter_at = refl; flags_at = refl; fflags_at = refl; datum_at = refl; udata_at = refl; count = refl }
there ident name flags (Some f) None (Some u) =
    record { ident_at = refl; filter_at = refl; flags_at = refl; fflags_at = refl; datum_at = refl; udata_at = refl; count = refl }
there ident name flags (Some f) (Some z) None =
    record { ident_at = refl; filter_at = refl; flags_at = refl; fflags_at = refl; datum_at = refl; udata_at = refl; count = refl }
there ident name flags (Some f) (Some z) (Some u) =
    record { ident_at = refl; filter_at = refl; flags_at = refl; fflags_at = refl; datum_at = refl; udata_at = refl; count = refl }

abbrev pub unsigned_of : Option ℕ → Option Data
unsigned_of o = option_map (λ (n : ℕ). number (unsigned n)) o

u32_there : (ms : Members) (name : List ℕ) (o : Option ℕ) (n : ℕ) → get_member name ms ≡ unsigned_of o → n ≡ value_or 0 o → n < 2 ^ 32
    → IsU32OrZero ms name n
unfolding optional is_whole or_else
u32_there ms name None n at same fits = record { whole = ap (optional is_whole) at; value = ap (or_else 0 u32_in) at ∙ ap Some (sym same) }
u32_there ms name (Some k) n at same fits = record {
  whole = ap (optional is_whole) at;
  value = ap (or_else 0 u32_in) at ∙ u32_of k (subst (λ m. m < 2 ^ 32) same fits) ∙ ap Some (sym same);
}

u64_there : (ms : Members) (name : List ℕ) (o : Option ℕ) (n : ℕ) → get_member name ms ≡ unsigned_of o → n ≡ value_or 0 o → IsU64OrZero ms name n
unfolding optional is_whole or_else u64_in
u64_there ms name None n at same = record { whole = ap (optional is_whole) at; value = ap (or_else 0 u64_in) at ∙ ap Some (sym same) }
u64_there ms name (Some k) n at same = record { whole = ap (optional is_whole) at; value = ap (or_else 0 u64_in) at ∙ ap Some (sym same) }

i64_there : (ms : Members) (name : List ℕ) (o : Option ℤ) (z : ℤ) → get_member name ms ≡ option_map whole o → z ≡ value_or (pos 0) o
    → i64_in (whole z) ≡ Some z → IsI64OrZero ms name z
unfolding optional or_else
i64_there ms name None z at same fits = record { whole = ap (optional is_whole) at; value = ap (or_else (pos 0) i64_in) at ∙ ap Some (sym same) }
i64_there ms name (Some y) z at same fits = record {
  whole = ap (optional is_whole) at ∙ whole_is y;
  value = ap (or_else (pos 0) i64_in) at ∙ subst (λ x. i64_in (whole x) ≡ Some x) same fits ∙ ap Some (sym same);
}

pub change_is : (ident : ℕ) (name : List ℕ) (flags : Data) (filter : Filter) (bits : ℕ) (fflags : ℕ) (datum : ℤ) (udata : ℕ) (a : Option ℕ) (b : Option ℤ) (c : Option ℕ)
    → filter_named name ≡ Some filter → flags_in flags ≡ Some bits → fflags ≡ value_or 0 a → fflags < 2 ^ 32 → datum ≡ value_or (pos 0) b
    → i64_in (whole datum) ≡ Some datum → udata ≡ value_or 0 c
    → (is_change (object (members_of ident name flags (unsigned_of a) (option_map whole b) (unsigned_of c))) ≡ true)
    × (change_of (object (members_of ident name flags (unsigned_of a) (option_map whole b) (unsigned_of c)))
    ≡ change_with (Some ident) (Some filter) (Some bits) (Some fflags) (Some datum) (Some udata))
unfolding required is_whole u64_in
change_is ident name flags filter bits fflags datum udata a b c named listed ea fits eb signed ec =
    let ms = members_of ident name flags (unsigned_of a) (option_map whole b) (unsigned_of c) in
    let s = there ident name flags (unsigned_of a) (option_map whole b) (unsigned_of c) in
    change_known ms ident filter bits fflags datum udata (member_count ms) (extra_width (object ms))
    (record { there = ap is_some s.ident_at; whole = ap (required is_whole) s.ident_at; value = ap (option_and_then u64_in) s.ident_at })
    (filter_found ms (codes "filter") name filter s.filter_at named)
    (record { there = ap is_some s.flags_at; value = ap (option_and_then flags_in) s.flags_at ∙ listed })
    (u32_there ms (codes "fflags") a fflags s.fflags_at ea fits)
    (i64_there ms (codes "data") b datum s.datum_at eb signed)
    (u64_there ms (codes "udata") c udata s.udata_at ec)
    refl s.count refl
