-- The first events of those that keys give, a key at a time.
use Rattle.std.proofs.Common.{◌≡◌, ℕ, zero, suc, ◌+◌, ◌≤◌, List, [], ◌∷◌, ◌++◌, length, take, drop, slice_get, Option, Some, None, refl, sym, ap, ◌∙◌, add-one, arith}
use Rattle.std.proofs.lemmas.List.{take_all}
use Rattle.std.proofs.lemmas.Option.{none-some, same_Some}
use Rattle.std.specs.List.{cons_option, filter_map}
use Rattle.kq_check.specs.Stepped.{listed}

take_again : {X : Type 0} (room : ℕ) (F D : List X) → take room (take room F ++ D) ≡ take room (F ++ D)
take_again zero F D = refl
take_again (suc room) [] D = refl
take_again (suc room) (x ∷ F) D = ap (λ r. x ∷ r) (take_again room F D)

pub few : {X : Type 0} (room : ℕ) (F : List X) → length (take room F) ≤ room
few zero F = omega arith
few (suc room) [] = omega arith
few (suc room) (x ∷ F) = omega (arith, few room F)

alone : {X : Type 0} (o : Option X) → cons_option o [] ≡ listed o
alone None = refl
alone (Some x) = refl

in_front : {X : Type 0} (o : Option X) (xs ys : List X) → cons_option o (xs ++ ys) ≡ cons_option o xs ++ ys
in_front None xs ys = refl
in_front (Some x) xs ys = refl

more : {K X : Type 0} (f : K → Option X) (keys : List K) (i : ℕ) (key : K) → slice_get keys i ≡ Some key
    → filter_map f (take (suc i) keys) ≡ filter_map f (take i keys) ++ listed (f key)
more f [] i key there = absurd (none-some key there)
more f (k ∷ keys) zero key there = alone (f k) ∙ ap (λ x. listed (f x)) (same_Some k key there)
more f (k ∷ keys) (suc i) key there =
    ap (cons_option (f k)) (more f keys i key there) ∙ in_front (f k) (filter_map f (take i keys)) (listed (f key))

pub one_key_further : {K X : Type 0} (f : K → Option X) (keys : List K) (room i : ℕ) (key : K) (due : Option X) (xs ys : List X)
    → slice_get keys i ≡ Some key → due ≡ f key → xs ≡ take room (filter_map f (take i keys))
    → ys ≡ take room (xs ++ listed due) → ys ≡ take room (filter_map f (take (i + 1) keys))
one_key_further f keys room i key due xs ys there said so_far added =
    added ∙ ap (λ o. take room (xs ++ listed o)) said ∙ ap (λ x. take room (x ++ listed (f key))) so_far
    ∙ take_again room (filter_map f (take i keys)) (listed (f key))
    ∙ ap (take room) (sym (more f keys i key there)) ∙ rw (add-one i) refl

-- ---- the ends

-- all keys were met
pub all_met : {K X : Type 0} (f : K → Option X) (keys : List K) (room i : ℕ) (xs : List X) → length keys ≤ i
    → xs ≡ take room (filter_map f (take i keys)) → xs ≡ take room (filter_map f keys)
all_met f keys room i xs end so_far = so_far ∙ ap (λ ks. take room (filter_map f ks)) (take_all i keys end)

short : {K : Type 0} (keys : List K) (i : ℕ) → slice_get keys i ≡ None → length keys ≤ i
short [] i none = omega arith
short (k ∷ keys) zero none = absurd (none-some k (sym none))
short (k ∷ keys) (suc i) none = omega (arith, short keys i none)

-- no key stands there
pub none_there : {K X : Type 0} (f : K → Option X) (keys : List K) (room i : ℕ) (xs : List X) → slice_get keys i ≡ None
    → xs ≡ take room (filter_map f (take i keys)) → xs ≡ take room (filter_map f keys)
none_there f keys room i xs none so_far = all_met f keys room i xs (short keys i none) so_far

parts : {K X : Type 0} (f : K → Option X) (keys : List K) (i : ℕ)
    → filter_map f keys ≡ filter_map f (take i keys) ++ filter_map f (drop i keys)
parts f keys zero = refl
parts f [] (suc i) = refl
parts f (k ∷ keys) (suc i) =
    ap (cons_option (f k)) (parts f keys i) ∙ in_front (f k) (filter_map f (take i keys)) (filter_map f (drop i keys))

filled : {X : Type 0} (room : ℕ) (F D : List X) → length (take room F) ≡ room → take room F ≡ take room (F ++ D)
filled zero F D full = refl
filled (suc room) [] D full = absurd (omega (arith, full))
filled (suc room) (x ∷ F) D full =
    let less : length (take room F) ≡ room = omega (arith, full) in
    ap (λ r. x ∷ r) (filled room F D less)

-- the room is full
pub room_full : {K X : Type 0} (f : K → Option X) (keys : List K) (room i : ℕ) (xs : List X) → length xs ≡ room
    → xs ≡ take room (filter_map f (take i keys)) → xs ≡ take room (filter_map f keys)
room_full f keys room i xs full so_far =
    let here : length (take room (filter_map f (take i keys))) ≡ room = sym (ap length so_far) ∙ full in
    so_far ∙ filled room (filter_map f (take i keys)) (filter_map f (drop i keys)) here
    ∙ ap (take room) (sym (parts f keys i))
