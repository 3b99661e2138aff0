-- Seats that own no number together.
use Rattle.std.proofs.Common.{◌≡◌, ◌≢◌, ◌+◌, ◌<◌, false, List, [], ◌∷◌, ◌++◌, sym}
use Rattle.std.proofs.Common.{◌∙◌, subst, arith}
use Rattle.kq_lock.specs.Seats.{Seated, OwnsNumber, AreParted, AllParted, AreHalves, EachSeat}
use Rattle.kq_lock.specs.Seats.{AreApart}
use Rattle.kq_lock.proofs.Numbers.{first_owns, second_owns, owns_own}

module _ {M S A : Type 0} where
  pub each_seat_more : (P : Seated M S A → Type 0) (vs : List (Seated M S A)) (v : Seated M S A)
      → EachSeat P vs → P v → EachSeat P (vs ++ v ∷ [])
  each_seat_more P [] v h p = (p, tt)
  each_seat_more P (x ∷ vs) v h p = (h.0, each_seat_more P vs v h.1 p)

  -- what holds of each seat holds of the last and of those before it
  pub each_seat_split : (P : Seated M S A → Type 0) (vs : List (Seated M S A)) (v : Seated M S A)
      → EachSeat P (vs ++ v ∷ []) → P v × EachSeat P vs
  each_seat_split P [] v h = (h.0, tt)
  each_seat_split P (x ∷ vs) v h = let t = each_seat_split P vs v h.1 in (t.0, (h.0, t.1))

  pub each_seat_of : (P Q : Seated M S A → Type 0) → ((v : Seated M S A) → P v → Q v)
      → (vs : List (Seated M S A)) → EachSeat P vs → EachSeat Q vs
  each_seat_of P Q f [] h = tt
  each_seat_of P Q f (x ∷ vs) h = (f x h.0, each_seat_of P Q f vs h.1)

  pub parted_more : (vs : List (Seated M S A)) (v : Seated M S A) → AllParted vs
      → EachSeat (λ (w : Seated M S A). AreParted w v) vs → OwnsNumber v v.number
      → AllParted (vs ++ v ∷ [])
  parted_more [] v h p own = (own, tt, tt)
  parted_more (x ∷ vs) v h p own =
      (h.0, each_seat_more (AreParted x) vs v h.1 p.0, parted_more vs v h.2 p.1 own)

  -- what is parted from a seat is parted from its halves
  pub parted_halves : (u v first second : Seated M S A) → AreHalves v first second
      → AreParted u v → AreParted u first × AreParted u second
  parted_halves u v first second h p =
      (λ n o q. p n o (h.in_first n q), λ n o q. p n o (h.in_second n q))

  each_owns : (vs : List (Seated M S A)) → AllParted vs
      → EachSeat (λ (v : Seated M S A). OwnsNumber v v.number) vs
  each_owns [] h = tt
  each_owns (v ∷ vs) h = (h.0, each_owns vs h.2)

  -- two seats that own no number together have different numbers
  pub parted_numbers : (v w : Seated M S A) → OwnsNumber v v.number → OwnsNumber w w.number
      → AreParted v w → v.number ≢ w.number
  parted_numbers v w own other p same = p w.number (subst (OwnsNumber v) same own) other

  others_apart : (v : Seated M S A) (vs : List (Seated M S A)) → OwnsNumber v v.number
      → EachSeat (λ (w : Seated M S A). OwnsNumber w w.number) vs → EachSeat (AreParted v) vs
      → EachSeat (λ (w : Seated M S A). v.number ≢ w.number) vs
  others_apart v [] own owns p = tt
  others_apart v (w ∷ vs) own owns p =
      (parted_numbers v w own owns.0 p.0, others_apart v vs own owns.1 p.1)

  -- seats that own no number together have different numbers
  pub apart_of_parted : (vs : List (Seated M S A)) → AllParted vs → AreApart vs
  apart_of_parted [] h = tt
  apart_of_parted (v ∷ vs) h =
      (others_apart v vs h.0 (each_owns vs h.2) h.1, apart_of_parted vs h.2)

  cut_in_two : (v : Seated M S A) → v.number < v.stride → AreHalves v
      (record v { stride = v.stride + v.stride })
      (record v { number = v.number + v.stride; stride = v.stride + v.stride; worn = false })
  cut_in_two v small = record {
    small = small;
    own = (
      owns_own (v.stride + v.stride) v.number (omega arith),
      owns_own (v.stride + v.stride) (v.number + v.stride) (omega arith),
    );
    in_first = λ n o. first_owns n v.stride v.number small o;
    in_second = λ n o. second_owns n v.stride v.number small o;
    parted = λ n o q. omega (arith, sym o ∙ q);
  }

  -- the two seats that a seat is cut into
  pub halves : (v first second : Seated M S A) → v.number < v.stride
      → first ≡ record v { stride = v.stride + v.stride }
      → second ≡ record v {
        number = v.number + v.stride;
        stride = v.stride + v.stride;
        worn =
            false;
      }
      → AreHalves v first second
  halves v first second small is_first is_second =
      subst (λ (z : Seated M S A). AreHalves v z second) (sym is_first)
      (subst (λ (z : Seated M S A). AreHalves v (record v { stride = v.stride + v.stride }) z)
      (sym is_second)
      (cut_in_two v small))
