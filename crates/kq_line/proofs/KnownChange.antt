-- The change that these members are.
use Rattle.std.proofs.Common.{◌≡◌, ℕ, ℤ, ◌+◌, ◌==◌, Bool, true, false, cond, Option, Some, None, codes, option_and_then, refl, sym, ap, ◌∙◌, eq-eqb}
use Rattle.std.specs.Option.{is_some}
use Rattle.serde_json.specs.Data.{Data, Members, object}
use Rattle.serde_json.specs.Find.{get_member}
use Rattle.kq_model.specs.declared.filter.Filter.{Filter}
use Rattle.kq_model.specs.ChangeText.{change_of, change_with, extra_width, filter_in, flags_in, is_change}
use Rattle.kq_model.specs.Members.{has_member, member_count, required, width}
use mir.Val.{bool_byte}
use Rattle.kq_line.specs.Typed.{AreFlags, IsFilter, IsI64OrZero, IsU32OrZero, IsU64, IsU64OrZero}

required_some : {X : Type 0} (f : Data → Option X) (o : Option Data) (x : X) → option_and_then f o ≡ Some x → required (λ v. is_some (f v)) o ≡ true
unfolding required
required_some f None x e = cc
required_some f (Some d) x e = ap is_some e

width_is : (ms : Members) (n e : ℕ) → n ≡ member_count ms → n ≡ 3 + e → e ≡ extra_width (object ms) → (width (object ms) == 3 + extra_width (object ms)) ≡ true
unfolding width
width_is ms n e count is extra = eq-eqb (member_count ms) (3 + extra_width (object ms)) (sym count ∙ is ∙ ap (λ k. 3 + k) extra)

pub change_known : (ms : Members) (ident : ℕ) (filter : Filter) (flags fflags : ℕ) (datum : ℤ) (udata n e : ℕ)
    → IsU64 ms (codes "ident") ident → IsFilter ms (codes "filter") filter → AreFlags ms (codes "flags") flags
    → IsU32OrZero ms (codes "fflags") fflags → IsI64OrZero ms (codes "data") datum → IsU64OrZero ms (codes "udata") udata
    → n ≡ member_count ms → n ≡ 3 + e → e ≡ extra_width (object ms)
    → (is_change (object ms) ≡ true)
    × (change_of (object ms) ≡ change_with (Some ident) (Some filter) (Some flags) (Some fflags) (Some datum) (Some udata))
unfolding is_change change_of
change_known ms ident filter flags fflags datum udata n e id fl fs ff da ud count is extra = (
  rw (
    id.whole,
    required_some filter_in (get_member (codes "filter") ms) filter fl.value,
    required_some flags_in (get_member (codes "flags") ms) flags fs.value,
    ff.whole,
    da.whole,
    ud.whole,
    width_is ms n e count is extra,
  )
      refl,
  rw (id.value, fl.value, fs.value, ff.value, da.value, ud.value) refl,
)

byte_is : (b : Bool) → bool_byte b ≡ cond b 1 0
byte_is true = refl
byte_is false = refl

pub extras : (d : Data) (a b c : Bool) (x y z : ℕ) → x ≡ bool_byte a → y ≡ bool_byte b → z ≡ bool_byte c → a ≡ has_member d (codes "fflags")
    → b ≡ has_member d (codes "data") → c ≡ has_member d (codes "udata") → x + y + z ≡ extra_width d
unfolding extra_width
extras d a b c x y z ex ey ez ea eb ec = rw (ex, ey, ez, byte_is a, byte_is b, byte_is c, ea, eb, ec) refl
