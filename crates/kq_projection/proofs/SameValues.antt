-- Two values that the tests find equal are one.
use Rattle.std.proofs.Common.{◌≡◌, ℕ, Bool, nat_eq, true, Option, Some, None, refl, ap, ap₂}
use Rattle.std.specs.Option.{option_eq}
use Rattle.std.specs.Cmp.{booleans_Decides}
use Rattle.std.proofs.lemmas.Bool.{and_parts, eqb-true, false≢true}
use Rattle.std.proofs.lemmas.Bool.Decides.{Decides-int_eq}
use Rattle.kq_model.specs.contracts.object.NamedPartialEq.TheImpl as named_equal
use Rattle.kq_model.specs.contracts.object.ViewPartialEq.TheImpl as view_equal
use Rattle.kq_model.specs.declared.object.Named.{Named}
use Rattle.kq_model.specs.declared.object.Named.TheVariants as named
use Rattle.kq_model.specs.declared.object.View.{View}
use Rattle.kq_model.specs.declared.object.View.TheVariants as view

abbrev pub named_eq : Option Named → Option Named → Bool
named_eq = option_eq named_equal.eq-value.it

abbrev pub view_eq : Option View → Option View → Bool
view_eq = option_eq view_equal.eq-value.it

-- ---- what numbers name

one_name : (a b : Named) → named_equal.eq-value.it a b ≡ true → a ≡ b
one_name (named.Socket a) (named.Socket b) e = ap named.Socket (eqb-true a b e)
one_name (named.PipeRead a) (named.PipeRead b) e = ap named.PipeRead (eqb-true a b e)
one_name (named.PipeWrite a) (named.PipeWrite b) e = ap named.PipeWrite (eqb-true a b e)
one_name (named.Open a f) (named.Open b g) e =
    let parts = and_parts _ _ e in
    ap₂ named.Open (eqb-true a b parts.0) (eqb-true f g parts.1)
one_name (named.Kqueue a) (named.Kqueue b) e = ap named.Kqueue (eqb-true a b e)
one_name _ _ e = absurd (false≢true e)

pub same_named : (a b : Option Named) → named_eq a b ≡ true → a ≡ b
same_named None None e = refl
same_named (Some a) (Some b) e = ap Some (one_name a b e)
same_named _ _ e = absurd (false≢true e)

-- ---- what is seen of targets

same_status : (a b : Option ℕ) → option_eq nat_eq a b ≡ true → a ≡ b
same_status None None e = refl
same_status (Some a) (Some b) e = ap Some (eqb-true a b e)
same_status _ _ e = absurd (false≢true e)

one_view : (a b : View) → view_equal.eq-value.it a b ≡ true → a ≡ b
one_view (view.Listen a) (view.Listen b) e = ap view.Listen ((Decides-int_eq a b).0 e)
one_view (view.Sock a b c d f g h i j) (view.Sock k l m n o p q r s) e =
    let first = and_parts _ _ e in
    let second = and_parts _ _ first.1 in
    let third = and_parts _ _ second.1 in
    let fourth = and_parts _ _ third.1 in
    let fifth = and_parts _ _ fourth.1 in
    let sixth = and_parts _ _ fifth.1 in
    let seventh = and_parts _ _ sixth.1 in
    let eighth = and_parts _ _ seventh.1 in
    let a_is : a ≡ k = (Decides-int_eq a k).0 first.0 in
    let b_is : b ≡ l = (Decides-int_eq b l).0 second.0 in
    let c_is : c ≡ m = (booleans_Decides c m).0 third.0 in
    let d_is : d ≡ n = eqb-true d n fourth.0 in
    let f_is : f ≡ o = (booleans_Decides f o).0 fifth.0 in
    let g_is : g ≡ p = (Decides-int_eq g p).0 sixth.0 in
    let h_is : h ≡ q = (Decides-int_eq h q).0 seventh.0 in
    let i_is : i ≡ r = (booleans_Decides i r).0 eighth.0 in
    let j_is : j ≡ s = eqb-true j s eighth.1 in
    cc
one_view (view.Pipe a b c d) (view.Pipe f g h i) e =
    let first = and_parts _ _ e in
    let second = and_parts _ _ first.1 in
    let third = and_parts _ _ second.1 in
    let a_is : a ≡ f = (Decides-int_eq a f).0 first.0 in
    let b_is : b ≡ g = (Decides-int_eq b g).0 second.0 in
    let c_is : c ≡ h = (booleans_Decides c h).0 third.0 in
    let d_is : d ≡ i = (booleans_Decides d i).0 third.1 in
    cc
one_view (view.Open a b) (view.Open c d) e =
    let both = and_parts _ _ e in
    ap₂ view.Open ((Decides-int_eq a c).0 both.0) ((Decides-int_eq b d).0 both.1)
one_view view.File view.File e = refl
one_view (view.Process a) (view.Process b) e = ap view.Process (same_status a b e)
one_view _ _ e = absurd (false≢true e)

pub same_view : (a b : Option View) → view_eq a b ≡ true → a ≡ b
same_view None None e = refl
same_view (Some a) (Some b) e = ap Some (one_view a b e)
same_view _ _ e = absurd (false≢true e)
