-- What the shares of a system give together.
use Rattle.std.proofs.Common.{Box, Global, ◌≡◌, ◌^◌, append-nil, ◌∙◌, ℕ, suc, ◌+◌, ◌<◌, List, [], ◌∷◌, ◌++◌, length, map, Option, Some, None, refl, sym, ap, ap₂, subst, arith, add-zero}
use Rattle.std.proofs.lemmas.List.{length-map}
use Rattle.std.specs.List.{flat_map, range_with_len}
use Rattle.std.specs.Prelude.{All, Bool}
use Rattle.std.proofs.lemmas.List.Elements.{All-nil, All-cons}
use Rattle.kq_model.specs.declared.rows.Rows.{Rows}
use Rattle.kq_system.specs.declared.sharing.Share.{Share}
use Rattle.kq_model.specs.declared.event.Event.{Event}
use Rattle.kq_model.specs.declared.row.Row.{Row}
use Rattle.kq_model.specs.Shares.{AreDealt, dealt, share, share_after, share_rows}
use Rattle.kq_model.specs.System.{empty_system, system_after, rows_after}
use Rattle.kq_model.specs.Tallied.{System}
use Rattle.kq_model.proofs.Shares.{share-empty, share-goes, shared}
use Rattle.kq_system.specs.declared.dealing.Dealing.{Dealing}
use Rattle.kq_system.specs.Dealing.{mixed, share_for}
use Rattle.kq_system.specs.Sharing.{ShareState, own_of}
use Rattle.kq_system.specs.SystemState.{system_of}
use Rattle.kq_shares.specs.Going.{HasGone, HaveGone}
use Rattle.kq_shares.specs.Whole.{IsShareOf, AreFrom, AreSharesOf}
use Rattle.kq_model.specs.OwnedRows.{Rise}
use Rattle.std.specs.List.Sorted.{IsPermutation}
use Rattle.kq_shares.specs.declared.going.Gone.{Gone}

module _ (number : ℕ) (dealing : Dealing) (applied : ℕ) (s : System) (x y : ShareState) (es : List Event) (rows : List Row) (is : IsShareOf number dealing applied s x) (gone : HasGone x es y rows) where
  abbrev own : Option ℕ → Bool
  own = dealt (share_for dealing) number

  own-is : own_of x ≡ own
  own-is = ap₂ (λ (d : Dealing) (n : ℕ). dealt (share_for d) n) is.dealing_is is.number_is

  -- a share of the system after these events
  pub share-gone : IsShareOf number dealing (applied + length es) (system_after (applied + 1) s es) y
  share-gone = record {
    number_is = gone.number ∙ is.number_is;
    dealing_is = gone.dealing ∙ is.dealing_is;
    applied_is = gone.applied ∙ ap (λ n. n + length es) is.applied_is;
    system_is = gone.system
        ∙ ap₂ (λ (o : Option ℕ → Bool) (t : System). share_after o (x.state.applied + 1) t es) own-is is.system_is
        ∙ ap (λ n. share_after own (n + 1) (share own s) es) is.applied_is
        ∙ share-goes own (applied + 1) s es;
  }

  pub share-gave : rows ≡ share_rows own (applied + 1) (share own s) es
  share-gave =
      gone.gave
      ∙ ap₂ (λ (o : Option ℕ → Bool) (t : System). share_rows o (x.state.applied + 1) t es) own-is is.system_is
      ∙ ap (λ n. share_rows own (n + 1) (share own s) es) is.applied_is

module _ (dealing : Dealing) (applied : ℕ) (s : System) (es : List Event) where
  abbrev given : ℕ → List Row
  given i = share_rows (dealt (share_for dealing) i) (applied + 1) (share (dealt (share_for dealing) i) s) es

  pub all-gone : (number : ℕ) (xs : List ShareState) (gs : List Gone) → AreFrom number dealing applied s xs → HaveGone xs es gs
      → AreFrom number dealing (applied + length es) (system_after (applied + 1) s es) (map (λ (g : Gone). g.share.value) gs)
  all-gone number [] [] are gone = tt
  all-gone number [] (g ∷ gs) are gone = absurd gone
  all-gone number (x ∷ xs) [] are gone = absurd gone
  all-gone number (x ∷ xs) (g ∷ gs) are gone = (
    share-gone number dealing applied s x g.share.value es g.rows.items are.0 gone.0,
    all-gone (number + 1) xs gs are.1 gone.1,
  )

  pub all-gave : (number : ℕ) (xs : List ShareState) (gs : List Gone) → AreFrom number dealing applied s xs → HaveGone xs es gs
      → flat_map (λ (g : Gone). g.rows.items) gs ≡ flat_map given (range_with_len number (length xs))
  all-gave number [] [] are gone = refl
  all-gave number [] (g ∷ gs) are gone = absurd gone
  all-gave number (x ∷ xs) [] are gone = absurd gone
  all-gave number (x ∷ xs) (g ∷ gs) are gone =
      ap₂ (λ ys zs. ys ++ zs) (share-gave number dealing applied s x g.share.value es g.rows.items are.0 gone.0)
      (all-gave (number + 1) xs gs are.1 gone.1)

  pub same-count : (xs : List ShareState) (gs : List Gone) → HaveGone xs es gs → length gs ≡ length xs
  same-count [] [] gone = refl
  same-count [] (g ∷ gs) gone = absurd gone
  same-count (x ∷ xs) [] gone = absurd gone
  same-count (x ∷ xs) (g ∷ gs) gone = ap suc (same-count xs gs gone.1)

-- one more
pub from-push : (number : ℕ) (dealing : Dealing) (applied : ℕ) (s : System) (xs : List ShareState) (x : ShareState) → AreFrom number dealing applied s xs
    → IsShareOf (number + length xs) dealing applied s x → AreFrom number dealing applied s (xs ++ x ∷ [])
from-push number dealing applied s [] x are is = (subst (λ n. IsShareOf n dealing applied s x) (add-zero number) is, tt)
from-push number dealing applied s (y ∷ xs) x are is = (
  are.0,
  from-push (number + 1) dealing applied s xs x are.1
      (let next : number + length (y ∷ xs) ≡ (number + 1) + length xs = omega arith in subst (λ n. IsShareOf n dealing applied s x) next is),
)

-- before the first record
pub share-new : (version number : ℕ) (dealing : Dealing) (x : ShareState) → system_of x.state ≡ empty_system version → x.state.applied ≡ 0
    → x.number ≡ number → x.dealing ≡ dealing → IsShareOf number dealing 0 (empty_system version) x
share-new version number dealing x empty none number_is dealing_is = record {
  number_is = number_is;
  dealing_is = dealing_is;
  applied_is = none;
  system_is = empty ∙ sym (share-empty (dealt (share_for dealing) number) version);
}

-- each kqueue goes to one of them
all-dealt : (d : Dealing) → 0 < d.shares → AreDealt (share_for d) d.shares
unfolding share_for
all-dealt d some None = some
all-dealt d some (Some place) = let m = mixed d.seed place in omega arith

-- all of them are those of the system, and their rows its rows
pub gone-shares : (applied : ℕ) (s : System) (es : List Event) (xs : List ShareState) (gs : List Gone) → AreSharesOf applied s xs → HaveGone xs es gs
    → AreSharesOf (applied + length es) (system_after (applied + 1) s es) (map (λ (g : Gone). g.share.value) gs)
gone-shares applied s es xs gs all gone =
    let same : length (map (λ (g : Gone). g.share.value) gs) ≡ length xs =
    length-map gs (λ (g : Gone). g.share.value) ∙ same-count all.dealing applied s es xs gs gone in
    let some = all.some in
    record {
      dealing = all.dealing;
      some = omega (arith, same, some);
      count = all.count ∙ sym same;
      are = all-gone all.dealing applied s es 0 xs gs all.are gone;
    }

pub gone-rows : (applied : ℕ) (s : System) (es : List Event) (xs : List ShareState) (gs : List Gone) → AreSharesOf applied s xs → HaveGone xs es gs
    → IsPermutation (flat_map (λ (g : Gone). g.rows.items) gs) (rows_after (applied + 1) s es) × Rise (rows_after (applied + 1) s es)
gone-rows applied s es xs gs all gone =
    let d = all.dealing in
    let some = all.some in
    let count = all.count in
    let parts = shared (share_for d) d.shares (all-dealt d (omega (arith, some, count))) (applied + 1) s es in (
      subst (λ ys. IsPermutation ys (rows_after (applied + 1) s es))
          (sym (all-gave d applied s es 0 xs gs all.are gone ∙ ap (λ n. flat_map (given d applied s es) (range_with_len 0 n)) (sym count)))
          parts.0,
      parts.1,
    )

-- ---- as the code has them

abbrev pub value : Box Share Global → ShareState
value b = b.value

pub have-places : (number : ℕ) (dealing : Dealing) (applied count : ℕ) (s : System) (xs : List (Box Share Global)) → AreFrom number dealing applied s (map value xs)
    → applied + count < 2 ^ 31 → All (λ (b : Box Share Global). b.value.state.applied + count < 2 ^ 31) xs
have-places number dealing applied count s [] are few = All-nil (λ (b : Box Share Global). b.value.state.applied + count < 2 ^ 31)
have-places number dealing applied count s (x ∷ xs) are few =
    let here : x.value.state.applied ≡ applied = are.0.applied_is in
    All-cons (λ (b : Box Share Global). b.value.state.applied + count < 2 ^ 31) x xs (omega (arith, here, few))
    (have-places (number + 1) dealing applied count s xs are.1 few)

pub values-of : (gs : List Gone) → map value (map (λ (g : Gone). g.share) gs) ≡ map (λ (g : Gone). g.share.value) gs
values-of [] = refl
values-of (g ∷ gs) = ap (λ xs. g.share.value ∷ xs) (values-of gs)

flat-as : {X : Type 0} (f : X → List Row) (xs : List X) → flat_map f xs ≡ flat_map (λ (ys : List Row). ys) (map f xs)
flat-as f [] = refl
flat-as f (x ∷ xs) = ap (λ ys. f x ++ ys) (flat-as f xs)

-- the rows of the lists, where they are those that were given
pub lists-of : (lists : List Rows) (gs : List Gone) → map (λ (k : Rows). k.rows) lists ≡ map (λ (g : Gone). g.rows.items) gs
    → flat_map (λ (k : Rows). k.rows) lists ++ [] ≡ flat_map (λ (g : Gone). g.rows.items) gs
lists-of lists gs same =
    append-nil _ ∙ flat-as (λ (k : Rows). k.rows) lists ∙ ap (flat_map (λ (ys : List Row). ys)) same
    ∙ sym (flat-as (λ (g : Gone). g.rows.items) gs)
