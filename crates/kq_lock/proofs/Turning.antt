-- The steps by which a seat gets the turn.
use Rattle.std.proofs.Common.{◌≡◌, ◌≢◌, ℕ, ◌+◌, ◌<◌, ◌≤◌, eqb}
use Rattle.std.proofs.Common.{List, [], ◌∷◌, length, set, sum_by, Some, refl}
use Rattle.std.proofs.Common.{ap, sym, ◌∙◌, subst, arith, length-set}
use Rattle.std.proofs.Common.{le_refl}
use mathlib.Core.Option.{some, none}
use mathlib.Core.Logic.{dite}
use native.Mathlib.Decide.{ℕ_discrete}
use prog.Atomic.{either}
use lib.ListN.{get_elem?}
use Rattle.atomic_table.specs.Table.{step, keeps, takes}
use Rattle.atomic_table.proofs.Lists.{exchanged, set_here}
use Rattle.kq_lock.specs.declared.view.Call.{Call}
use Rattle.kq_lock.specs.declared.kept.Kept.{Kept}
use Rattle.kq_lock.specs.declared.view.View.{View}
use Rattle.kq_lock.specs.declared.view.Stage.{Stage}
use Rattle.kq_lock.specs.declared.view.Stage.TheVariants.{Idle, Waits, Holds}
use Rattle.kq_lock.specs.Calls.{plain, Each, IsMade, Leads}
use Rattle.kq_lock.specs.Turns.{LockState, Mine, Homes, Unspent, tickets, tickets_at, Carries}
use Rattle.kq_lock.specs.Turns.{Stands, Fits, Sits, Fair, IsSameView, Entered, Seizes, Enters}
use Rattle.kq_lock.proofs.Beginnings.{prefix_self, sum_set, at_inside}
use Rattle.kq_lock.proofs.Keeping.{Finds, Moves, same_state, sits_all, stands_on}
use Rattle.kq_lock.proofs.Keeping.{fits_on, idle_fits}
use Rattle.kq_lock.proofs.Looking.{bounded, bounded_sits, drawn, who_before, who_drew, drawn_fits}

module _ {M S A : Type 0} (leads : M → S → A → M → Type 0) (opening : M) (last : ℕ) where
  -- what the seat j knows does not depend on where it stands
  abbrev pub restaged : LockState M S A → ℕ → View M S A → Stage M S A → Type 0
  restaged x j v st = Fits opening last x j v → Fits opening last x j (record v { stage = st })

  pub fits_at : (x : LockState M S A) (j : ℕ) (v : View M S A) (st : Stage M S A)
      → restaged x j v st
  fits_at x j v st k = record {
    opened = k.opened;
    limit = k.limit;
    small = k.small;
    worn = k.worn;
    bound = k.bound;
    numbered = k.numbered;
    seen = k.seen;
    owned = k.owned;
    own = k.own;
  }

  -- the state x, in which the ticket t is drawn and served and the slot is home, once the seat id
  -- with the view v has taken the value out
  abbrev pub held : LockState M S A → LockState M S A
  held x = record x { phase = 1 }

  -- the seat with the turn
  abbrev pub holding : View M S A → ℕ → Kept M S A → List (Call S A) → View M S A
  holding v t k log = record v { stage = Holds t k.value log }

  -- what the seat learns as it takes the value out
  enters_with : (x : LockState M S A) (t : ℕ) (me : Mine M S A) (w : View M S A) (id : ℕ)
      (k : Kept M S A) → t ≡ x.serving → x.serving < last → length x.log ≤ x.serving
      → Leads leads opening x.log x.value → k.value ≡ x.value → k.history.items ≡ plain x.log
      → IsSameView me.0 w → w.stage ≡ Holds t k.value x.log → Fits opening last x id w
      → Entered leads t me (w, (0, Some k) ∷ me.1)
  enters_with x t me w id k now lt even legal value items same stage fits = (
    same,
    λ none_carried. record {
      kept = k;
      log = x.log;
      stage = stage;
      slot = ap (λ z. (0, Some k) ∷ z) none_carried;
      items = items;
      small = fits.small;
      seen = fits.seen;
      legal = (opening, fits.opened, subst (Leads leads opening x.log) (sym value) legal);
      own = fits.own;
      short = omega arith;
      limit = let l = fits.limit in omega arith;
    },
  )

  -- A seat with the ticket that is served takes the value out. In y it has the ticket, with the
  -- view u, and the turn is free; v is its view before.
  takes_out : (y : LockState M S A) (homes : Homes M S A) (views : List (View M S A)) (id : ℕ)
      (v w : View M S A) (k : Kept M S A) → y.ticket ≤ last
      → y.serving + (sum_by tickets views + 1) ≡ y.ticket + tickets v
      → Leads leads opening y.log y.value → length y.log ≤ y.serving
      → y.serving < y.ticket → y.who y.serving ≡ id → length y.made ≡ length views
      → Each (IsMade y.made) y.log → get_elem? views id ≡ some v
      → Fits opening last y id w → w.stage ≡ Holds y.serving k.value y.log → k.value ≡ y.value
      → ((j : ℕ) (u : View M S A) → j ≢ id → get_elem? views j ≡ some u
      → Sits opening last (held y) j u)
      → Fair leads opening last (held y) (none ∷ []) (set views id w)
  takes_out y homes views id v w k drawn count legal even lt who made entered at fits stage value
      others = record {
        at_most_last = drawn;
        count = let s = sum_set tickets views id v w at in
            let z : tickets w ≡ 1 = ap tickets_at stage in omega arith;
        legal = legal;
        length_served = λ _. even;
        length_one_ahead = omega arith;
        turn_has_ticket = λ _. lt;
        holder = λ _. (
          w,
          subst (λ (z : ℕ). get_elem? (set views id w) z ≡ some w) (sym who)
              (set_here views id w (at_inside views id v at)),
          subst (Carries y.serving)
              (sym stage) refl,
        );
        home_while_free = λ e. absurd (omega arith);
        made = made ∙ sym (length-set views id w);
        made_by_seats = entered;
        seats = sits_all leads opening last (held y) views id w (
          (λ _. fits_on leads opening last y (held y) id w (le_refl y.serving) (λ e. e)
              (prefix_self y.log) (λ _ _ o. o) (λ _ _. refl) (λ e. e) fits),
          subst (Stands (held y) id w.number w.stride w.seen) (sym stage)
              (who, refl, lt, refl, value, refl),
        ) others;
      }

  -- the others, as a seat that waited takes the value out
  others_wait : (x : LockState M S A) (id : ℕ) → x.who x.serving ≡ id → (j : ℕ) (u : View M S A)
      → j ≢ id → Sits opening last x j u → Sits opening last (held x) j u
  others_wait x id who j u ne h = (
    (λ un. fits_on leads opening last x (held x) j u (le_refl x.serving) (λ e. e)
        (prefix_self x.log) (λ _ _ o. o) (λ _ _. refl) (λ e. e) (h.0 un)),
    stands_on leads opening last x (held x) j u.number u.stride u.seen (λ _ _. refl)
        (le_refl x.ticket) (λ t l. (omega arith, λ e. absurd (omega arith)))
        (λ t mine now _. ne (sym mine ∙ (ap x.who now ∙ who))) u.stage h.1,
  )

  pub enters : (slots id : ℕ) (me : Mine M S A) (t : ℕ) → me.0.stage ≡ Waits t
      → Moves leads opening last id me 2 (λ n. n) (Enters leads (step slots 2 0 0 none) me)
  enters slots id me t waits x homes views f one at =
      let sits = f.seats id me.0 at in let stands =
      subst (Stands x id me.0.number me.0.stride me.0.seen) waits sits.1 in
      let fits = sits.0 (subst (λ (st : Stage M S A). Unspent st) (sym waits) tt) in
      let ticket_is : (u : ℕ) → me.0.stage ≡ Waits u
      → t ≡ u = λ u e. cc in
      dite (ℕ_discrete t x.serving)
      (λ now. let phase = stands.3 now in let home = f.home_while_free phase in let k = home.0 in
      let w = holding (bounded x me.0) t k x.log in
      let who : x.who x.serving ≡ id = ap x.who (sym now) ∙ stands.0 in
      let lt : x.serving < x.ticket = let l = stands.2 in omega arith in
      let even = f.length_served (omega arith) in
      let fits' = fits_at x id (bounded x me.0) (Holds t k.value x.log)
      ((bounded_sits leads opening last x id me.0 sits).0
      (subst (λ (st : Stage M S A). Unspent st) (sym waits) tt)) in (
        w,
        takes 0 (Some k),
        ap (λ (h : Homes M S A). get_elem? h 0) home.1,
        (
          held x,
          refl,
          subst (λ (h : Homes M S A). Fair leads opening last (held x) (set h 0 none)
              (set views id w)) (sym home.1)
              (takes_out x homes views id me.0 w k f.at_most_last (let c = f.count in
              let z : tickets me.0 ≡ 1 = ap tickets_at waits in
              omega arith) f.legal even lt who f.made f.made_by_seats at fits'
              (ap (λ (n : ℕ). Holds n k.value x.log) now) home.2
              (λ j u ne there. others_wait x id who j u ne (f.seats j u there))),
        ),
        λ u e. (
          (λ _. subst (λ (n : ℕ). Entered {M = M} {S = S} {A = A} leads n me
              (w, (0, Some k) ∷ me.1)) (ticket_is u e)
              (enters_with x t me w id k now (let d = f.at_most_last in
              omega arith) even f.legal home.2 home.3 refl refl fits')),
          (λ miss. absurd (miss (sym now ∙ ticket_is u e))),
        ),
      ))
      (λ later. (
        bounded x me.0,
        keeps,
        tt,
        (
          x,
          refl,
          same_state leads opening last x homes views id me.0 (bounded x me.0) f at refl
              (λ c. c) (bounded_sits leads opening last x id me.0 sits),
        ),
        λ u e. ((λ hit. absurd (later (ticket_is u e ∙ sym hit))), (λ _. refl)),
      ))

  pub seizes : (slots id : ℕ) (me : Mine M S A) (t : ℕ) → me.0.stage ≡ Idle → t < me.0.last
      → me.0.bound ≡ t
      → Moves leads opening last id me 1 (λ n. either (eqb n t) (t + 1) n)
      (Seizes leads (step slots 1 t (t + 1) none) me)
  seizes slots id me t idle lt bound x homes views f one at =
      let sits = f.seats id me.0 at in let fits =
      idle_fits leads opening last x id me.0 idle sits in let lim = fits.limit in
      let low = fits.bound in let c = f.count in
      exchanged x.ticket t (t + 1) (λ z. Finds leads opening last x homes views id me 1 z
      (Seizes leads (step slots 1 t (t + 1) none) me x.ticket))
      (λ hit. let now : x.ticket ≡ x.serving = omega arith in
      let phase : x.phase ≡ 0 = dite (ℕ_discrete x.phase 0) (λ z. z)
      (λ ne. let h = f.turn_has_ticket (omega arith) in absurd (omega arith)) in
      let y = drawn x id in let home = f.home_while_free phase in let k = home.0 in
      let w = holding me.0 t k x.log in
      let who : y.who y.serving ≡ id = ap y.who (sym now) ∙ who_drew x id in
      let even = f.length_served (omega arith) in
      let fits' : Fits opening last y id w = fits_at y id me.0 (Holds t k.value x.log)
      (drawn_fits leads opening last x id id me.0 (omega arith) fits) in (
        w,
        takes 0 (Some k),
        ap (λ (h : Homes M S A). get_elem? h 0) home.1,
        (
          held y,
          ap (λ (z : ℕ). length x.log ∷ (z + 1) ∷ x.serving ∷ []) (sym hit),
          subst (λ (h : Homes M S A). Fair leads opening last (held y) (set h 0 none)
              (set views id w)) (sym home.1)
              (takes_out y homes views id me.0 w k (omega arith) (let z : tickets me.0 ≡ 0 =
              ap tickets_at idle in omega arith) f.legal even
              (omega arith) who f.made f.made_by_seats at fits'
              (ap (λ (n : ℕ). Holds n k.value x.log) (sym hit ∙ now)) home.2
              (λ j u ne there. let h = f.seats j u there in (
                (λ un. fits_on leads opening last y (held y) j u (le_refl x.serving) (λ e. e)
                    (prefix_self x.log) (λ _ _ o. o) (λ _ _. refl) (λ e. e)
                    (drawn_fits leads opening last x id j u (omega arith) (h.0 un))),
                stands_on leads opening last x (held y) j u.number u.stride u.seen (who_before x id)
                    (omega arith) (λ t l. (omega arith, λ e. absurd (omega arith)))
                    (λ t _ is l. omega arith) u.stage h.1,
              ))),
        ),
        (
          (λ _. enters_with y t me w id k (sym hit
              ∙ now) (omega arith) even f.legal home.2 home.3 refl refl fits'),
          (λ miss. absurd (miss hit)),
        ),
      ))
      (λ miss. (
        me.0,
        keeps,
        tt,
        (x, refl, same_state leads opening last x homes views id me.0 me.0 f at refl (λ c. c) sits),
        ((λ hit. absurd (miss hit)), (λ _. refl)),
      ))
