-- What contracts see of a seat, from what its place at the table says.
use Rattle.std.proofs.Common.{◌≡◌, ◌≢◌, ℕ, ◌+◌, ◌%◌, ◌<◌, ◌≤◌, false, List, [], ◌∷◌, ◌++◌, length}
use Rattle.std.proofs.Common.{map, Some, refl, ap, sym, ◌∙◌, subst, arith}
use Rattle.std.proofs.Common as std
use mathlib.Core.List.{IsPrefix}
use Rattle.atomic_table.specs.Seated.{TableId}
use Rattle.atomic_table.specs.Table.{opening as opening_state}
use Rattle.kq_lock.specs.declared.kept.Kept.{Kept}
use Rattle.kq_lock.specs.declared.view.View.{View}
use Rattle.kq_lock.specs.Calls.{calls_by, longer}
use Rattle.kq_lock.specs.Turns.{Mine, Turned, newcomer}
use Rattle.kq_lock.specs.Seats.{LockName, Seated, own_calls, OwnsNumber, AreParted, AllParted}
use Rattle.kq_lock.specs.Seats.{AreHalves}
use Rattle.kq_lock.specs.Seats.{IsFresh, EachSeat, Ends}
use Rattle.kq_lock.proofs.Numbers.{owns_own}
use Rattle.kq_lock.proofs.Apart.{each_seat_more, each_seat_of, parted_more, parted_halves, halves}
use Rattle.kq_lock.proofs.Resting.{AreJoined}
use Rattle.kq_lock.proofs.Parting.{starts}
use Rattle.kq_lock.proofs.Ending.{Whole}

module _ {M S A : Type 0} where
  -- the seat with this view at this table
  abbrev pub seated : TableId → View M S A → Seated M S A
  seated t v = record {
    lock = record { table = t; opening = v.opening; last = v.last };
    number =
        v.number;
    stride = v.stride;
    seen = v.seen;
    worn = v.worn;
  }

  module _ (t t' u : TableId) (m m' : Mine M S A) (w : View M S A) (a b : Seated M S A)
      (table : t' ≡ t) (all : AreJoined m m' w) (first : seated t m.0 ≡ a)
      (second : seated u w ≡ b) where
    pub joined_same : seated t' m'.0 ≡ record a { seen = longer a.seen b.seen }
    joined_same = (λ i. seated (table i) (all.is i).0)
        ∙ (λ i. record (first i) { seen = longer (first i).seen (second i).seen })

    pub joined_begins : IsPrefix a.seen m'.0.seen
    joined_begins = subst (λ (z : Seated M S A). IsPrefix z.seen m'.0.seen) first all.first

    pub joined_learned : IsPrefix b.seen m'.0.seen
    joined_learned = subst (λ (z : Seated M S A). IsPrefix z.seen m'.0.seen) second all.second

    pub joined_own : m.0.number < m.0.stride → own_calls (seated t' m'.0) ≡ own_calls a
    joined_own small = (λ i. calls_by (all.is i).0.number m'.0.seen)
        ∙ (all.own m.0.number (owns_own m.0.stride m.0.number small) ∙ ap own_calls first)

    pub joined_theirs : w.number < w.stride → calls_by b.number m'.0.seen ≡ own_calls b
    joined_theirs small =
        ap (λ (z : Seated M S A). calls_by z.number m'.0.seen) (sym second)
        ∙ (all.theirs w.number (owns_own w.stride w.number small) ∙ ap own_calls second)

  -- a seat that is cut in two
  pub seated_halves : (t : TableId) (v : View M S A) (a first second : Seated M S A)
      → seated t v ≡ a
      → v.number < v.stride → first ≡ record a { stride = a.stride + a.stride }
      → second ≡ record a {
        number = a.number + a.stride;
        stride = a.stride + a.stride;
        worn =
            false;
      }
      → AreHalves a first second
  seated_halves t v a first second is small =
      halves a first second (subst (λ (z : Seated M S A). z.number < z.stride) is small)

  -- the lock at its start
  pub opens : (leads : M → S → A → M → Type 0) (o : M) (last : ℕ) (k : Kept M S A) (ws : List ℕ)
      (xs : List (std.Option (Kept M S A))) → ws ≡ 0 ∷ 0 ∷ 0 ∷ [] → xs ≡ Some k ∷ [] → k.value ≡ o
      → k.history.items ≡ []
      → Turned leads o last (opening_state ws xs (newcomer o last))
  opens leads o last k ws xs words slots value items = let P : List ℕ
      → List (std.Option (Kept M S A)) → Type 0 = λ ws xs.
      Turned leads o last (opening_state ws xs (newcomer o last)) in
      subst (λ (ws : List ℕ). P ws xs) (sym words)
      (subst (λ (xs : List (std.Option (Kept M S A))). P (0 ∷ 0 ∷ 0 ∷ []) xs) (sym slots)
      (starts leads o last k value items))

  -- the lock at its end
  pub closes : (leads : M → S → A → M → Type 0) (o : M) (last : ℕ) (lock : LockName M)
      (a : Seated M S A) (v : View M S A) (t : TableId) (k : Kept M S A) → Whole leads o last v k
      → lock.opening ≡ Some o → lock.last ≡ last → seated t v ≡ a
      → Ends leads lock a k.value k.history.items
  closes leads o last lock a v t k h opened limit is = record {
    log = h.log;
    is = h.items;
    legal = (o, opened, h.legal);
    seen = subst (λ (z : Seated M S A). IsPrefix z.seen h.log) is h.seen;
    short = let l = h.short in omega arith;
    own = subst (λ (z : Seated M S A). calls_by z.number z.seen ≡ calls_by z.number h.log) is h.own;
  }

  -- The seats that a new lock has made so far, and the one that is cut in two for the next.
  pub record MadeSeats (lock : LockName M) (first : Seated M S A)
      (vs : List (Seated M S A)) : Type 0 where
    pub fresh : IsFresh lock first
    pub own : OwnsNumber first first.number
    pub each : EachSeat (IsFresh lock) vs
    pub from_first : EachSeat (λ (v : Seated M S A). AreParted v first) vs
    pub parted : AllParted vs

  pub more_seats : (lock : LockName M) (first first' next : Seated M S A)
      (vs vs' : List (Seated M S A))
      → MadeSeats lock first vs → first' ≡ record first { stride = first.stride + first.stride }
      → next ≡ record first {
        number = first.number + first.stride;
        stride =
            first.stride + first.stride;
        worn = false;
      }
      → AreHalves first first' next → vs' ≡ vs ++ next ∷ [] → MadeSeats lock first' vs'
  more_seats lock first first' next vs vs' h is is_next cut grown =
      let halves = each_seat_of (λ (v : Seated M S A). AreParted v first)
      (λ (v : Seated M S A). AreParted v first' × AreParted v next)
      (λ v p. parted_halves v first first' next cut p) vs h.from_first in
      let fresh : IsFresh lock next =
      subst (λ (z : Seated M S A). IsFresh lock z) (sym is_next) (h.fresh.0, h.fresh.1, refl) in
      let P : List (Seated M S A) → Type 0 = λ l.
      EachSeat (IsFresh lock) l × EachSeat (λ (v : Seated M S A). AreParted v first') l
      × AllParted l in
      let all : P vs' = subst P (sym grown) (
        each_seat_more (IsFresh lock) vs next h.each fresh,
        each_seat_more (λ (v : Seated M S A). AreParted v first') vs next
            (each_seat_of (λ (v : Seated M S A). AreParted v first' × AreParted v next)
            (λ (v : Seated M S A). AreParted v first') (λ v p. p.0) vs halves)
            (λ n o q. cut.parted n q o),
        parted_more vs next h.parted
            (each_seat_of (λ (v : Seated M S A). AreParted v first' × AreParted v next)
            (λ (v : Seated M S A). AreParted v next) (λ v p. p.1) vs halves) cut.own.1,
      ) in record {
        fresh = subst (λ (z : Seated M S A). IsFresh lock z) (sym is) h.fresh;
        own = cut.own.0;
        each = all.0;
        from_first = all.1;
        parted = all.2;
      }

  pub all_seats : (lock : LockName M) (first : Seated M S A) (vs vs' : List (Seated M S A))
      → MadeSeats lock first vs → vs' ≡ vs ++ first ∷ [] → EachSeat (IsFresh lock) vs'
      × AllParted vs'
  all_seats lock first vs vs' h grown =
      let P : List (Seated M S A) → Type 0 = λ l. EachSeat (IsFresh lock) l × AllParted l in
      subst P (sym grown) (
        each_seat_more (IsFresh lock) vs first h.each h.fresh,
        parted_more vs first h.parted h.from_first h.own,
      )
