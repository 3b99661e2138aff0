-- Closes made one by one are the same closes made together.
use Rattle.std.proofs.Common.{◌≡◌, ◌==◌, ◌&&◌, ◌||◌, ℕ, Bool, true, false, cond, not, List, [], ◌∷◌, filter, refl, ap, ap₂}
use Rattle.std.proofs.lemmas.Bool.{ne_eqb}
use Rattle.kq_model.specs.declared.key.Key.{Key}
use Rattle.kq_model.specs.Close.{Pair, closed, has_pair, is_closed}
use Rattle.kq_model.specs.Knote.{watches_number}
use Rattle.kq_model.specs.Tallied.{Knote, Kqueue}

twice-step : {X : Type 0} (g : X → Bool) (a c : Bool) (x : X) (r r' : List X) → a ≡ (c && g x) → r ≡ filter g r'
    → cond a (x ∷ r) r ≡ filter g (cond c (x ∷ r') r')
twice-step g a true x r r' same rest = rw same (ap (λ l. cond (g x) (x ∷ l) l) rest)
twice-step g a false x r r' same rest = rw same rest

-- what passes two tests passes one after the other
kept-twice : {X : Type 0} (f g h : X → Bool) (xs : List X) → ((x : X) → f x ≡ (h x && g x)) → filter f xs ≡ filter g (filter h xs)
kept-twice f g h [] same = refl
kept-twice f g h (x ∷ xs) same =
    twice-step g (f x) (h x) x (filter f xs) (filter h xs) (same x) (kept-twice f g h xs same)

one-or-more : (watches here later : Bool)
    → not (watches && (here || later)) ≡ (not (watches && (here || false)) && not (watches && later))
one-or-more true true later = refl
one-or-more true false later = refl
one-or-more false here later = refl

pub close-first : (owner : ℕ) (p : Pair) (ps : List Pair) (kq : Kqueue)
    → closed owner (p ∷ ps) kq ≡ closed owner ps (closed owner (p ∷ []) kq)
unfolding closed
close-first owner p ps kq =
    let keeps : Key → Bool = λ key. not (is_closed owner (p ∷ ps) key) in
    ap₂ (λ (ks : List Knote) (queue : List Key). let k : Kqueue = record { knotes = ks; queue = queue } in k)
    (kept-twice (λ (k : Knote). not (is_closed owner (p ∷ ps) k.key)) (λ k. not (is_closed owner ps k.key))
    (λ k. not (is_closed owner (p ∷ []) k.key)) kq.knotes
    (λ k. one-or-more (watches_number k.key.filter) ((p.pid == owner) && (p.number == k.key.ident))
    (has_pair owner k.key.ident ps)))
    (kept-twice keeps (λ key. not (is_closed owner ps key)) (λ key. not (is_closed owner (p ∷ []) key)) kq.queue
    (λ key. one-or-more (watches_number key.filter) ((p.pid == owner) && (p.number == key.ident))
    (has_pair owner key.ident ps)))

not-here : (watches other number : Bool) → other ≡ false → not (watches && ((other && number) || false)) ≡ true
not-here true other number is = rw is refl
not-here false other number is = refl

all-kept : {X : Type 0} (p : X → Bool) (xs : List X) → ((x : X) → p x ≡ true) → filter p xs ≡ xs
all-kept p [] passes = refl
all-kept p (x ∷ xs) passes = rw (passes x) (ap (λ l. x ∷ l) (all-kept p xs passes))

-- a number of another process
pub close-other : (owner : ℕ) (p : Pair) (kq : Kqueue) → (p.pid ≡ owner → ⊥) → closed owner (p ∷ []) kq ≡ kq
unfolding closed
close-other owner p kq other =
    let theirs : (p.pid == owner) ≡ false = ne_eqb p.pid owner other in
    ap₂ (λ (ks : List Knote) (queue : List Key). let k : Kqueue = record { knotes = ks; queue = queue } in k)
    (all-kept (λ (k : Knote). not (is_closed owner (p ∷ []) k.key)) kq.knotes
    (λ k. not-here (watches_number k.key.filter) (p.pid == owner) (p.number == k.key.ident) theirs))
    (all-kept (λ key. not (is_closed owner (p ∷ []) key)) kq.queue
    (λ key. not-here (watches_number key.filter) (p.pid == owner) (p.number == key.ident) theirs))
