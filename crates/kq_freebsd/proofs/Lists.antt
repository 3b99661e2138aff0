-- One change more, one event more.
use Rattle.std.proofs.Common.{◌≡◌, ℕ, ◌<◌, ◌≤◌, ◌⊎◌, inl, inr, List, []}
use Rattle.std.proofs.Common.{◌∷◌, ◌++◌, length, take, slice_set, refl, ap, arith, zero, suc}
use Rattle.std.proofs.Math.ListN.{get_or}
use Rattle.kq_freebsd.specs.declared.c_kevent.CKevent.{CKevent}
use Rattle.kq_freebsd.specs.Kevents.{AreChanges, IsMadeOf, as_c, handed_out}
use Rattle.kq_model.specs.declared.change.Change.{Change}
use Rattle.kq_model.specs.declared.kevent.Kevent.{Kevent}

pub are_more : (ks : List CKevent) (cs : List Change) (k : CKevent) (c : Change) → AreChanges ks cs → IsMadeOf k c
    → AreChanges (ks ++ k ∷ []) (cs ++ c ∷ [])
are_more [] [] k c are is = (is, tt)
are_more [] (x ∷ cs) k c are is = absurd are
are_more (y ∷ ks) [] k c are is = absurd are
are_more (y ∷ ks) (x ∷ cs) k c are is = (are.0, are_more ks cs k c are.1 is)

pub none_out : (slots : List CKevent) → handed_out [] slots ≡ slots
unfolding handed_out
none_out slots = refl

pub one_more : (es : List Kevent) (slots : List CKevent) (i : ℕ) (d : Kevent) → i < length es → i < length slots
    → slice_set (handed_out (take i es) slots) i (as_c (get_or es i d)) ≡ handed_out (take (suc i) es) slots
unfolding handed_out
one_more [] slots i d l m = absurd (omega (arith, l))
one_more (e ∷ es) [] i d l m = absurd (omega (arith, m))
one_more (e ∷ es) (s ∷ slots) zero d l m = refl
one_more (e ∷ es) (s ∷ slots) (suc i) d l m = ap (λ xs. as_c e ∷ xs) (one_more es slots i d (omega (arith, l))
    (omega (arith, m)))

pub all_out : (es : List Kevent) (slots : List CKevent) (n : ℕ) → n ≤ length es → (n ≡ length es) ⊎ (n ≡ length slots)
    → handed_out (take n es) slots ≡ handed_out es slots
unfolding handed_out
all_out [] slots zero l is = refl
all_out [] slots (suc n) l is = absurd (omega (arith, l))
all_out (e ∷ es) [] zero l (inl is) = absurd (omega (arith, is))
all_out (e ∷ es) [] zero l (inr is) = refl
all_out (e ∷ es) (s ∷ slots) zero l (inl is) = absurd (omega (arith, is))
all_out (e ∷ es) (s ∷ slots) zero l (inr is) = absurd (omega (arith, is))
all_out (e ∷ es) [] (suc n) l is = refl
all_out (e ∷ es) (s ∷ slots) (suc n) l (inl is) =
    ap (λ xs. as_c e ∷ xs) (all_out es slots n (omega (arith, l)) (inl (omega (arith, is))))
all_out (e ∷ es) (s ∷ slots) (suc n) l (inr is) =
    ap (λ xs. as_c e ∷ xs) (all_out es slots n (omega (arith, l)) (inr (omega (arith, is))))
