-- The close of a number takes out three keys at most: those of READ, WRITE and VNODE.
use Rattle.std.proofs.Common.{◌≡◌, ℕ, Bool, true, false, cond, not, ◌&&◌, ◌==◌, List, [], ◌∷◌, filter, refl, ap, ◌∙◌}
use Rattle.kq_model.specs.declared.filter.Filter.{Filter}
use Rattle.kq_model.specs.declared.filter.Filter.TheVariants.{Read, Write, Vnode, Proc, Signal, Timer, User, Aio, Lio, Fs, Procdesc, Sendfile, Empty}
use Rattle.kq_model.specs.declared.key.Key.{Key}
use Rattle.kq_model.specs.Close.{is_of_number}
use Rattle.kq_model.specs.Hearing.{Hearing}
use Rattle.kq_model.specs.Knote.{Knote, key_eq, filter_eq, watches_number, without_knote, without_key}
use Rattle.kq_model.proofs.KnoteLaws.{by_test}

-- two filters, one after the other, are one
filter_both : {X : Type 0} (p q : X → Bool) (xs : List X) → filter q (filter p xs) ≡ filter (λ x. p x && q x) xs
filter_both p q [] = refl
filter_both p q (x ∷ xs) =
    by_test (λ b. filter q (cond b (x ∷ filter p xs) (filter p xs)) ≡ cond (b && q x) (x ∷ filter (λ y. p y && q y) xs) (filter (λ y. p y && q y) xs)) (p x)
    (λ _. ap (λ rest. cond (q x) (x ∷ rest) rest) (filter_both p q xs)) (λ _. filter_both p q xs)

pub filter_same : {X : Type 0} (p q : X → Bool) → ((x : X) → p x ≡ q x) → (xs : List X) → filter p xs ≡ filter q xs
filter_same p q same [] = refl
filter_same p q same (x ∷ xs) =
    ap (λ b. cond b (x ∷ filter p xs) (filter p xs)) (same x) ∙ ap (λ rest. cond (q x) (x ∷ rest) rest) (filter_same p q same xs)

-- a key that is none of the three is of another filter, or of another number
none_of_three : (here : Bool) (f : Filter) → (not (here && filter_eq Read f) && not (here && filter_eq Write f)) && not (here && filter_eq Vnode f)
    ≡ not (watches_number f && here)
unfolding watches_number
none_of_three true Read = refl
none_of_three true Write = refl
none_of_three true Vnode = refl
none_of_three true Proc = refl
none_of_three true Signal = refl
none_of_three true Timer = refl
none_of_three true User = refl
none_of_three true Aio = refl
none_of_three true Lio = refl
none_of_three true Fs = refl
none_of_three true Procdesc = refl
none_of_three true Sendfile = refl
none_of_three true Empty = refl
none_of_three false Read = refl
none_of_three false Write = refl
none_of_three false Vnode = refl
none_of_three false Proc = refl
none_of_three false Signal = refl
none_of_three false Timer = refl
none_of_three false User = refl
none_of_three false Aio = refl
none_of_three false Lio = refl
none_of_three false Fs = refl
none_of_three false Procdesc = refl
none_of_three false Sendfile = refl
none_of_three false Empty = refl

abbrev pub key_by : ℕ → Filter → Key
key_by number f = record { ident = number; filter = f }

apart : (number : ℕ) (key : Key)
    → (not (key_eq (key_by number Read) key) && not (key_eq (key_by number Write) key)) && not (key_eq (key_by number Vnode) key)
    ≡ not (is_of_number number key)
apart number key = none_of_three (number == key.ident) key.filter

-- the three, taken out one after the other
abbrev pub three_keys : ℕ → List Key → List Key
three_keys number keys = without_key (key_by number Vnode) (without_key (key_by number Write) (without_key (key_by number Read) keys))

pub without-number_keys : (number : ℕ) (keys : List Key) → three_keys number keys ≡ filter (λ key. not (is_of_number number key)) keys
without-number_keys number keys =
    ap (filter (λ key. not (key_eq (key_by number Vnode) key)))
    (filter_both (λ key. not (key_eq (key_by number Read) key)) (λ key. not (key_eq (key_by number Write) key)) keys)
    ∙ filter_both (λ key. not (key_eq (key_by number Read) key) && not (key_eq (key_by number Write) key)) (λ key. not (key_eq (key_by number Vnode) key)) keys
    ∙ filter_same _ _ (apart number) keys

module _ {S : Type 0} {h : Hearing S} where
  abbrev pub three : ℕ → List (Knote h) → List (Knote h)
  three number ks = without_knote (key_by number Vnode) (without_knote (key_by number Write) (without_knote (key_by number Read) ks))

  pub without-number : (number : ℕ) (ks : List (Knote h)) → three number ks ≡ filter (λ (k : Knote h). not (is_of_number number k.key)) ks
  without-number number ks =
      ap (filter (λ (k : Knote h). not (key_eq (key_by number Vnode) k.key)))
      (filter_both (λ (k : Knote h). not (key_eq (key_by number Read) k.key)) (λ (k : Knote h). not (key_eq (key_by number Write) k.key)) ks)
      ∙ filter_both (λ (k : Knote h). not (key_eq (key_by number Read) k.key) && not (key_eq (key_by number Write) k.key)) (λ (k : Knote h). not (key_eq (key_by number Vnode) k.key)) ks
      ∙ filter_same _ _ (λ (k : Knote h). apart number k.key) ks
