-- The close of one number: what is left without its three keys.
use Rattle.std.proofs.Common.{◌≡◌, ℕ, ◌≤◌, Bool, true, false, not, ◌&&◌, ◌||◌, ◌==◌, List, [], ◌∷◌, filter, length, refl, sym, ap, ◌∙◌, subst, arith}
use Rattle.std.proofs.lemmas.Bool.{eq-eqb}
use Rattle.std.proofs.lemmas.List.Filters.{length-filter_both}
use Rattle.kq_model.specs.declared.filter.Filter.TheVariants.{Read, Write, Vnode}
use Rattle.kq_model.specs.declared.key.Key.{Key}
use Rattle.kq_model.specs.Close.{Pair, is_of_number, is_closed, closed}
use Rattle.kq_model.specs.Knote.{watches_number}
use Rattle.kq_model.specs.Kqueue.{IsSound}
use Rattle.kq_model.specs.Registration.{with_removed}
use Rattle.kq_model.specs.Tallied.{Knote, Kqueue}
use Rattle.kq_model.proofs.NumberLaws.{key_by, three_keys, without-number, without-number_keys, filter_same}
use Rattle.kq_kevent.proofs.SoundLaws.{IsSound-removed}

abbrev pub number_of : ℕ → ℕ → List Pair
number_of owner number = record { pid = owner; number = number } ∷ []

or_nothing : (b : Bool) → b || false ≡ b
or_nothing true = refl
or_nothing false = refl

one_number : (owner number : ℕ) (key : Key) → is_of_number number key ≡ is_closed owner (number_of owner number) key
one_number owner number key =
    ap (λ b. watches_number key.filter && b)
    (sym (or_nothing (number == key.ident)) ∙ ap (λ b. (b && (number == key.ident)) || false) (sym (eq-eqb owner owner refl)))

abbrev kqueue : List Knote → List Key → Kqueue
kqueue ks queue = record { knotes = ks; queue = queue }

-- what is left without the keys of the number
pub number-removed : (owner number : ℕ) (kq : Kqueue)
    → kqueue (filter (λ (k : Knote). not (is_of_number number k.key)) kq.knotes) (filter (λ key. not (is_of_number number key)) kq.queue)
    ≡ closed owner (number_of owner number) kq
unfolding closed
number-removed owner number kq =
    ap (λ ks. kqueue ks (filter (λ key. not (is_of_number number key)) kq.queue))
    (filter_same _ _ (λ (k : Knote). ap not (one_number owner number k.key)) kq.knotes)
    ∙ ap (kqueue (filter (λ (k : Knote). not (is_closed owner (number_of owner number) k.key)) kq.knotes))
    (filter_same _ _ (λ key. ap not (one_number owner number key)) kq.queue)

-- the three keys of the number are taken out
three-removed : (owner number : ℕ) (kq : Kqueue)
    → with_removed (key_by number Vnode) (with_removed (key_by number Write) (with_removed (key_by number Read) kq))
    ≡ closed owner (number_of owner number) kq
three-removed owner number kq =
    ap (λ ks. kqueue ks (three_keys number kq.queue)) (without-number number kq.knotes)
    ∙ ap (kqueue (filter (λ (k : Knote). not (is_of_number number k.key)) kq.knotes)) (without-number_keys number kq.queue)
    ∙ number-removed owner number kq

pub IsSound-closed : (owner number : ℕ) (kq : Kqueue) → IsSound kq → IsSound (closed owner (number_of owner number) kq)
IsSound-closed owner number kq sound =
    let read = with_removed (key_by number Read) kq in
    let written = with_removed (key_by number Write) read in
    subst IsSound (three-removed owner number kq)
    (IsSound-removed written (key_by number Vnode)
    (IsSound-removed read (key_by number Write) (IsSound-removed kq (key_by number Read) sound)))

-- no more knotes are left than there were
pub fewer-left : (p : Knote → Bool) (ks : List Knote) → length (filter p ks) ≤ length ks
fewer-left p ks = omega (arith, length-filter_both p (λ k. not (p k)) (λ _. refl) ks)
