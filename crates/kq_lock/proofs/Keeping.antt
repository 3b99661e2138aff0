-- What every step on the lock's table keeps.
use Rattle.std.proofs.Common.{◌≡◌, ◌≢◌, ℕ, zero, suc, ◌+◌, ◌<◌, ◌≤◌, ◌⊎◌, eqb, List, [], ◌∷◌, ◌++◌}
use Rattle.std.proofs.Common.{length, get_or, set, sum_by, Some, refl, ap, sym, ◌∙◌, subst, inl}
use Rattle.std.proofs.Common.{inr, ⊎_elim, arith, length-set, le_refl}
use Rattle.std.proofs.Common as std
use mathlib.Core.List.{IsPrefix}
use mathlib.Core.Option.{some, some-injective}
use mathlib.Core.Logic.{dite}
use native.Mathlib.Decide.{ℕ_discrete}
use lib.ListN.{get_elem?}
use Rattle.atomic_table.specs.Table.{Act, Valid, homes_after, carried_after, Allows}
use Rattle.atomic_table.proofs.Lists.{at_set, set_here, set_else}
use Rattle.kq_lock.specs.declared.view.Call.{Call}
use Rattle.kq_lock.specs.declared.kept.Kept.{Kept}
use Rattle.kq_lock.specs.declared.view.View.{View}
use Rattle.kq_lock.specs.declared.view.Stage.{Stage}
use Rattle.kq_lock.specs.declared.view.Stage.TheVariants.{Spent, Idle, Joined, Waits, Holds, Raised}
use Rattle.kq_lock.specs.Calls.{calls_by}
use Rattle.kq_lock.specs.Turns.{LockState, words_of, Mine, Homes, Owns, Unspent, tickets, Carries}
use Rattle.kq_lock.specs.Turns.{Stands, Fits, Sits, Fair, Turned}
use Rattle.kq_lock.proofs.Beginnings.{prefix_trans, sum_set, at_inside}

module _ {M S A : Type 0} (leads : M → S → A → M → Type 0) (opening : M) (last : ℕ) where
  abbrev pub Next : List ℕ → Homes M S A → List (View M S A) → Type 0
  Next ws homes views = (x : LockState M S A) × (ws ≡ words_of x)
      × Fair leads opening last x homes views

  -- the seat id has a new view and an act for a step on the word i, which becomes n, and the step
  -- says `said` of them
  abbrev pub Finds : LockState M S A → Homes M S A → List (View M S A) → ℕ → Mine M S A → ℕ → ℕ
      → (Mine M S A → Type 0) → Type 0
  Finds x homes views id me i n said = (w : View M S A) × (a : Act (std.Option (Kept M S A)))
      × Valid homes me.1 a × Next (set (words_of x) i n) (homes_after homes me.1 a) (set views id w)
      × said (w, carried_after me.1 a)

  abbrev pub Moves : ℕ → Mine M S A → ℕ → (ℕ → ℕ) → (ℕ → Mine M S A → Type 0) → Type 0
  Moves id me i f then = (x : LockState M S A) (homes : Homes M S A) (views : List (View M S A))
      → Fair leads opening last x homes views → length homes ≡ 1 → get_elem? views id ≡ some me.0
      → Finds x homes views id me i (f (get_or (words_of x) i 0)) (then (get_or (words_of x) i 0))

  -- a step that is allowed in each state is allowed
  pub moves : (slots id : ℕ) (me : Mine M S A) (i : ℕ) (f : ℕ → ℕ) (then : ℕ → Mine M S A → Type 0)
      → slots ≡ 1 → Moves id me i f then → Allows (Turned leads opening last) slots id me i f then
  moves slots id me i f then one step s h len at small =
      let P : List ℕ → Type 0 = λ ws. (w : View M S A) × (a : Act (std.Option (Kept M S A)))
      × Valid s.homes me.1 a
      × Turned leads opening last (record {
        words = set ws i (f (get_or ws i 0));
        homes =
            homes_after s.homes me.1 a;
        views = set s.views id w;
      })
      × then (get_or ws i 0) (w, carried_after me.1 a) in
      subst P (sym h.words) (let t = step h.state s.homes s.views h.fair (len ∙ one) at in
      (t.0, t.1, t.2, record { state = t.3.0; words = t.3.1; fair = t.3.2 }, t.4))

  -- what each seat knows, once the seat id has the view w
  pub sits_all : (x : LockState M S A) (views : List (View M S A)) (id : ℕ) (w : View M S A)
      → Sits opening last x id w
      → ((j : ℕ) (u : View M S A) → j ≢ id → get_elem? views j ≡ some u → Sits opening last x j u)
      → (j : ℕ) (u : View M S A) → get_elem? (set views id w) j ≡ some u → Sits opening last x j u
  sits_all x views id w mine others j u e =
      ⊎_elim (λ (t : (j ≡ id) × (w ≡ u)).
      subst (λ (z : ℕ × View M S A). Sits opening last x z.0 z.1) (λ i. (sym t.0 i, t.1 i)) mine)
      (λ (t : (j ≢ id) × (get_elem? views j ≡ some u)). others j u t.0 t.1)
      (at_set views id j w u e)

  -- the seat that has the value, once the seat id has the view w
  pub holder_set : (t : ℕ) (views : List (View M S A)) (id : ℕ) (v w : View M S A) (h : ℕ)
      → get_elem? views id ≡ some v → (Carries t v.stage → Carries t w.stage)
      → (u : View M S A) × (get_elem? views h ≡ some u) × Carries t u.stage → (u : View M S A)
      × (get_elem? (set views id w) h ≡ some u) × Carries t u.stage
  holder_set t views id v w h at carry was = dite (ℕ_discrete h id)
      (λ e. (
        w,
        subst (λ (z : ℕ). get_elem? (set views id w) z ≡ some w) (sym e)
            (set_here views id w (at_inside views id v at)),
        carry (subst (λ (u : View M S A). Carries t u.stage)
            (some-injective was.0 v (sym was.1 ∙ (ap (get_elem? views) e ∙ at))) was.2),
      ))
      (λ ne. (was.0, set_else views id h w ne ∙ was.1, was.2))

  -- a step that changes nothing but the view of its own seat
  pub same_state : (x : LockState M S A) (homes : Homes M S A) (views : List (View M S A)) (id : ℕ)
      (v w : View M S A) → Fair leads opening last x homes views → get_elem? views id ≡ some v
      → tickets w ≡ tickets v → (Carries x.serving v.stage → Carries x.serving w.stage)
      → Sits opening last x id w → Fair leads opening last x homes (set views id w)
  same_state x homes views id v w f at kept carry mine = record {
    at_most_last = f.at_most_last;
    count = let c = f.count in let s = sum_set tickets views id v w at in omega arith;
    legal = f.legal;
    length_served = f.length_served;
    length_one_ahead = f.length_one_ahead;
    turn_has_ticket = f.turn_has_ticket;
    holder = λ p. holder_set x.serving views id v w (x.who x.serving) at carry (f.holder p);
    home_while_free = f.home_while_free;
    made = f.made ∙ sym (length-set views id w);
    made_by_seats = f.made_by_seats;
    seats = sits_all x views id w mine (λ j u _. f.seats j u);
  }

  -- what another seat's stage says stays true while a seat takes the turn, uses it or passes it on
  pub stands_on : (x y : LockState M S A) (j number stride : ℕ) (seen : List (Call S A))
      → ((t : ℕ) → t < x.ticket → y.who t ≡ x.who t) → x.ticket ≤ y.ticket
      → ((t : ℕ) → x.serving < t → (y.serving ≤ t) × (t ≡ y.serving → y.phase ≡ 0))
      → ((t : ℕ) → x.who t ≡ j → t ≡ x.serving → t < x.ticket → ⊥)
      → (st : Stage M S A) → Stands x j number stride seen st → Stands y j number stride seen st
  stands_on x y j number stride seen same up later other Spent h = tt
  stands_on x y j number stride seen same up later other Idle h = tt
  stands_on x y j number stride seen same up later other (Joined b o n s) h = h
  stands_on x y j number stride seen same up later other (Waits t) h =
      let ne : t ≢ x.serving = λ e. other t h.0 e h.2 in let le = h.1 in let lt = h.2 in
      let more = later t (omega arith) in (same t lt ∙ h.0, more.0, omega arith, more.1)
  stands_on x y j number stride seen same up later other (Holds t v l) h =
      absurd (other t h.0 h.1 h.2)
  stands_on x y j number stride seen same up later other (Raised t v l) h =
      absurd (other t h.0 h.1 h.2)

  -- the same where at most a ticket is drawn or a number given away
  pub stands_same : (x : LockState M S A) (n : ℕ) (who owner : ℕ → ℕ) (made : List ℕ)
      (j number stride : ℕ) (seen : List (Call S A)) → x.ticket ≤ n
      → ((t : ℕ) → t < x.ticket → who t ≡ x.who t)
      → (st : Stage M S A) → Stands x j number stride seen st
      → Stands (record x { ticket = n; who = who; owner = owner; made = made }) j number stride
      seen st
  stands_same x n who owner made j number stride seen up same Spent h = tt
  stands_same x n who owner made j number stride seen up same Idle h = tt
  stands_same x n who owner made j number stride seen up same (Joined b o m s) h = h
  stands_same x n who owner made j number stride seen up same (Waits t) h = let lt = h.2 in
      (same t lt ∙ h.0, h.1, omega arith, h.3)
  stands_same x n who owner made j number stride seen up same (Holds t v l) h = let lt = h.2 in
      (same t lt ∙ h.0, h.1, omega arith, h.3, h.4, h.5)
  stands_same x n who owner made j number stride seen up same (Raised t v l) h = let lt = h.2 in
      (same t lt ∙ h.0, h.1, omega arith, h.3, h.4, h.5)

  -- what a seat knows stays true while others step
  pub fits_on : (x y : LockState M S A) (j : ℕ) (v : View M S A) → x.serving ≤ y.serving
      → (x.ticket ≡ last → y.ticket ≡ last) → IsPrefix x.log y.log
      → ((n : ℕ) → Owns v n → x.owner n ≡ j → y.owner n ≡ j)
      → ((n : ℕ) → x.owner n ≡ j → calls_by n y.log ≡ calls_by n x.log)
      → (get_elem? x.made j ≡ some v.number → get_elem? y.made j ≡ some v.number)
      → Fits opening last x j v → Fits opening last y j v
  fits_on x y j v up worn longer owner calls made f = record {
    opened = f.opened;
    limit = f.limit;
    small = f.small;
    worn = λ h. worn (f.worn h);
    bound = let b = f.bound in omega arith;
    numbered = made f.numbered;
    seen = prefix_trans v.seen x.log y.log f.seen longer;
    owned = λ n o. owner n o (f.owned n o);
    own = λ n o. calls n (f.owned n o) ∙ f.own n o;
  }

  pub idle_fits : (x : LockState M S A) (j : ℕ) (v : View M S A) → v.stage ≡ Idle
      → Sits opening last x j v → Fits opening last x j v
  idle_fits x j v e h = h.0 (subst (λ (st : Stage M S A). Unspent st) (sym e) tt)
