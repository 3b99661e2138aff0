-- A seat is cut in two, two seats are made one, and the lock begins and ends.
use Rattle.std.proofs.Common.{◌≡◌, ◌≢◌, ℕ, zero, suc, ◌+◌, ◌%◌, ◌==◌, cond, [], ◌∷◌, ◌++◌, length}
use Rattle.std.proofs.Common.{set, Some, refl, ap, sym, ◌∙◌, subst, arith, length-set}
use Rattle.std.proofs.Common.{length-append, le_refl, ne_eqb, eq-eqb}
use Rattle.std.proofs.lemmas.List.Sums.{sum_by-append}
use mathlib.Core.Option.{some, some-injective, some-ne-none}
use mathlib.Core.Logic.{dite}
use native.Mathlib.Decide.{ℕ_discrete}
use lib.ListN.{get_elem?}
use Rattle.atomic_table.specs.Table.{Splits, Joins}
use Rattle.atomic_table.proofs.Lists.{at_longer, at_last, set_else}
use Rattle.kq_lock.specs.declared.kept.Kept.{Kept}
use Rattle.kq_lock.specs.declared.view.View.{View}
use Rattle.kq_lock.specs.declared.view.Stage.TheVariants.{Idle}
use Rattle.kq_lock.specs.Calls.{calls_by, IsMade, longer}
use Rattle.kq_lock.specs.Turns.{LockState, Owns, tickets, tickets_at, Carries, Stands, Fits, Sits}
use Rattle.kq_lock.specs.Turns.{Turned, newcomer, first_half, second_half, joined, spent}
use Rattle.kq_lock.proofs.Beginnings.{prefix_self, sum_set, both_begin, before_last}
use Rattle.kq_lock.proofs.Logs.{each_of, calls_between}
use Rattle.kq_lock.proofs.Numbers.{first_owns, second_owns}
use Rattle.kq_lock.proofs.Keeping.{sits_all, holder_set, stands_same, fits_on, idle_fits}

module _ {M S A : Type 0} where
  -- the state in which the seat after n others owns the second half of the numbers of the seat v
  abbrev pub parted : LockState M S A → View M S A → ℕ → LockState M S A
  parted x v n = record x {
    owner = λ m. cond (m % (v.stride + v.stride) == v.number + v.stride) n
        (x.owner m);
    made = x.made ++ (v.number + v.stride) ∷ [];
  }

module _ {M S A : Type 0} (leads : M → S → A → M → Type 0) (opening : M) (last : ℕ) where
  parted_owner : (x : LockState M S A) (v : View M S A) (n m : ℕ)
      → m % (v.stride + v.stride) ≢ v.number + v.stride → (parted x v n).owner m ≡ x.owner m
  parted_owner x v n m ne = ap (λ b. cond b n (x.owner m))
      (ne_eqb (m % (v.stride + v.stride)) (v.number + v.stride) ne)

  -- a seat other than the one that is cut in two
  others_part : (x : LockState M S A) (id j n : ℕ) (v u : View M S A) → Fits opening last x id v
      → j ≢ id → Sits opening last x j u → Sits opening last (parted x v n) j u
  others_part x id j n v u k ne h = (
    (λ un. let q = h.0 un in fits_on leads opening last x (parted x v n) j u (le_refl x.serving)
        (λ e. e) (prefix_self x.log)
        (λ m o mine. parted_owner x v n m
        (λ e. ne (sym mine ∙ k.owned m (second_owns m v.stride v.number k.small e))) ∙ mine)
        (λ _ _. refl) (at_longer x.made ((v.number + v.stride) ∷ []) j u.number) q),
    stands_same leads opening last x x.ticket x.who (parted x v n).owner
        (parted x v n).made j u.number u.stride u.seen (le_refl x.ticket) (λ _ _. refl) u.stage h.1,
  )

  first_fits : (x : LockState M S A) (id n : ℕ) (v : View M S A) → v.stage ≡ Idle
      → Fits opening last x id v → Sits opening last (parted x v n) id (first_half v)
  first_fits x id n v idle k = let small = k.small in (
    (λ _. record {
      opened = k.opened;
      limit = k.limit;
      small = omega arith;
      worn = k.worn;
      bound = k.bound;
      numbered = at_longer x.made ((v.number + v.stride) ∷ []) id v.number k.numbered;
      seen = k.seen;
      owned = λ m o. parted_owner x v n m (λ e. omega (arith, sym o ∙ e))
          ∙ k.owned m (first_owns m v.stride v.number k.small o);
      own = λ m o. k.own m (first_owns m v.stride v.number k.small o);
    }),
    subst (Stands (parted x v n) id v.number (v.stride + v.stride) v.seen) (sym idle) tt,
  )

  second_fits : (x : LockState M S A) (id n : ℕ) (v : View M S A) → length x.made ≡ n
      → Fits opening last x id v → Sits opening last (parted x v n) n (second_half v)
  second_fits x id n v long k = let small = k.small in (
    (λ _. record {
      opened = k.opened;
      limit = k.limit;
      small = omega arith;
      worn = λ e. absurd cc;
      bound = k.bound;
      numbered = at_last x.made (v.number + v.stride) n long;
      seen = k.seen;
      owned = λ m o. ap (λ b. cond b n (x.owner m))
          (eq-eqb (m % (v.stride + v.stride)) (v.number + v.stride) o);
      own = λ m o. k.own m (second_owns m v.stride v.number k.small o);
    }),
    tt,
  )

  pub splits : (id : ℕ) (v : View M S A) → v.stage ≡ Idle
      → Splits (Turned leads opening last) id v (first_half v) (second_half v)
  splits id v idle s h at =
      let x = h.state in let f = h.fair in
      let k = idle_fits leads opening last x id v idle (f.seats id v at) in
      let n : ℕ = length s.views in let y = parted x v n in
      let firsts = set s.views id (first_half v) in
      let long : length firsts ≡ n = length-set s.views id (first_half v) in
      let set_sits = sits_all leads opening last y s.views id (first_half v)
      (first_fits x id n v idle k) (λ j u ne there.
      others_part x id j n v u k ne (f.seats j u there)) in record {
        state = y;
        words = h.words;
        fair = record {
          at_most_last = f.at_most_last;
          count = let c = f.count in let a = sum_set tickets s.views id v (first_half v) at in
              let b = sum_by-append tickets firsts (second_half v ∷ []) in omega arith;
          legal = f.legal;
          length_served = f.length_served;
          length_one_ahead = f.length_one_ahead;
          turn_has_ticket = f.turn_has_ticket;
          holder = λ p. let q = holder_set leads opening last x.serving s.views id v (first_half v)
              (x.who x.serving) at (λ c. c) (f.holder p) in
              (q.0, at_longer firsts (second_half v ∷ []) (x.who x.serving) q.0 q.1, q.2);
          home_while_free = f.home_while_free;
          made = let m = f.made in let a = length-append x.made ((v.number + v.stride) ∷ []) in
              let b = length-append firsts (second_half v ∷ []) in omega arith;
          made_by_seats = each_of (IsMade x.made) (IsMade y.made)
              (λ c m. (m.0, at_longer x.made ((v.number + v.stride) ∷ []) m.0 c.number m.1)) x.log
              f.made_by_seats;
          seats = λ j u there. dite (ℕ_discrete j n)
              (λ e. let mine : get_elem? (firsts ++ second_half v ∷ []) j ≡ some (second_half v) =
              at_last firsts (second_half v) j (long ∙ sym e) in
              subst (λ (z : ℕ × View M S A). Sits opening last y z.0 z.1)
              (λ i. (sym e i, some-injective (second_half v) u (sym mine ∙ there) i))
              (second_fits x id n v f.made k))
              (λ ne. set_sits j u (before_last firsts (second_half v) j u
              (λ e. ne (e ∙ long)) there));
        };
      }

  -- the views once a seat is joined to another
  pub joins : (id : ℕ) (v : View M S A) (other : ℕ) (w : View M S A) → v.stage ≡ Idle
      → w.stage ≡ Idle → Joins (Turned leads opening last) id v other w (joined v w) spent
  joins id v other w idle idle2 s h at apart there =
      let x = h.state in let f = h.fair in let both = joined v w in
      let once = set s.views id both in let twice = set once other spent in
      let w_at : get_elem? s.views other ≡ some w = sym (set_else s.views id other both apart)
      ∙ there in
      let k = idle_fits leads opening last x id v idle (f.seats id v at) in
      let l = idle_fits leads opening last x other w idle2 (f.seats other w w_at) in
      let b = both_begin v.seen w.seen x.log k.seen l.seen in
      let calls : (n : ℕ) → Owns v n → calls_by n (longer v.seen w.seen) ≡ calls_by n v.seen =
      λ n o. calls_between n v.seen (longer v.seen w.seen) x.log b.0 b.2 (k.own n o) in
      let theirs : (n : ℕ) → Owns w n → calls_by n (longer v.seen w.seen) ≡ calls_by n w.seen =
      λ n o. calls_between n w.seen (longer v.seen w.seen) x.log b.1 b.2 (l.own n o) in
      let mine : Sits opening last x id both = (
        (λ _. record {
          opened = k.opened;
          limit = k.limit;
          small = k.small;
          worn = k.worn;
          bound = k.bound;
          numbered = k.numbered;
          seen = b.2;
          owned = k.owned;
          own = λ n o. k.own n o ∙ sym (calls n o);
        }),
        record { longest = refl; first = b.0; second = b.1; own = calls; theirs = theirs },
      ) in record {
        state = x;
        words = h.words;
        fair = record {
          at_most_last = f.at_most_last;
          count = let c = f.count in let p = sum_set tickets s.views id v both at in
              let q = sum_set tickets once other w spent there in
              let z : tickets v ≡ 0 = ap tickets_at idle in
              let y : tickets w ≡ 0 = ap tickets_at idle2 in omega arith;
          legal = f.legal;
          length_served = f.length_served;
          length_one_ahead = f.length_one_ahead;
          turn_has_ticket = f.turn_has_ticket;
          holder = λ p. holder_set leads opening last x.serving once other w spent
              (x.who x.serving) there (λ c. subst (Carries x.serving) idle2 c)
              (holder_set leads opening last x.serving s.views id v both (x.who x.serving) at
              (λ c. subst (Carries x.serving) idle c) (f.holder p));
          home_while_free = f.home_while_free;
          made = f.made ∙ sym (length-set once other spent ∙ length-set s.views id both);
          made_by_seats = f.made_by_seats;
          seats = sits_all leads opening last x once other spent ((λ n. absurd n), tt)
              (λ j u _. sits_all leads opening last x s.views id both mine
              (λ j u _. f.seats j u) j u);
        };
      }

  one_at : (j : ℕ) (a b : View M S A) → get_elem? (a ∷ []) j ≡ some b → (j ≡ 0) × (a ≡ b)
  one_at zero a b e = (refl, some-injective a b e)
  one_at (suc j) a b e = absurd (some-ne-none b (sym e))

  -- the lock at its start
  abbrev first_state : LockState M S A
  first_state = record {
    ticket = 0;
    serving = 0;
    log = [];
    value = opening;
    phase = 0;
    who = λ _.
        0;
    owner = λ _. 0;
    made = 0 ∷ [];
  }

  first_sits : (j : ℕ) (v : View M S A) → get_elem? (newcomer opening last ∷ []) j ≡ some v
      → Sits opening last first_state j v
  first_sits j v e = let t = one_at j (newcomer opening last) v e in
      subst (λ (z : ℕ × View M S A). Sits opening last first_state z.0 z.1)
      (λ i. (sym t.0 i, t.1 i)) (
        (λ _. record {
          opened = refl;
          limit = refl;
          small = omega arith;
          worn = λ e. absurd cc;
          bound = omega arith;
          numbered = refl;
          seen = ([], refl);
          owned = λ _ _. refl;
          own = λ _ _. refl;
        }),
        tt,
      )

  pub starts : (k : Kept M S A) → k.value ≡ opening → k.history.items ≡ []
      → Turned leads opening last (record {
        words = 0 ∷ 0 ∷ 0 ∷ [];
        homes =
            some (Some k) ∷ [];
        views = newcomer opening last ∷ [];
      })
  starts k value items = record {
    state = first_state;
    words = refl;
    fair = record {
      at_most_last = omega arith;
      count = refl;
      legal = refl;
      length_served = λ _. omega arith;
      length_one_ahead = omega arith;
      turn_has_ticket = λ p. absurd (omega arith);
      holder = λ p. absurd (omega arith);
      home_while_free = λ _. (k, refl, value, items);
      made = refl;
      made_by_seats = tt;
      seats = first_sits;
    };
  }
