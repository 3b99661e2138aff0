-- The steps by which a seat with no ticket looks at the words, and the one that draws a ticket.
use Rattle.std.proofs.Common.{◌≡◌, ℕ, ◌+◌, ◌<◌, ◌≤◌, ◌==◌, eqb, true, cond, List, [], ◌∷◌, length}
use Rattle.std.proofs.Common.{get_or, set, refl, ap, sym, ◌∙◌, subst, arith, length-set, le_refl}
use Rattle.std.proofs.Common.{ne_eqb, eq-eqb}
use mathlib.Core.Option.{some, none}
use mathlib.Core.Logic.{dite}
use native.Mathlib.Decide.{ℕ_discrete}
use prog.Atomic.{either}
use lib.ListN.{get_elem?}
use Rattle.atomic_table.specs.Table.{step, keeps}
use Rattle.atomic_table.proofs.Lists.{exchanged}
use Rattle.kq_lock.specs.declared.view.Call.{Call}
use Rattle.kq_lock.specs.declared.view.View.{View}
use Rattle.kq_lock.specs.declared.view.Stage.{Stage}
use Rattle.kq_lock.specs.declared.view.Stage.TheVariants.{Idle, Joined, Waits}
use Rattle.kq_lock.specs.Turns.{LockState, words_of, Mine, Homes, Unspent, tickets, tickets_at}
use Rattle.kq_lock.specs.Turns.{Carries, Stands, Fits, Sits, Fair, LooksAtTicket, LooksAtTurn}
use Rattle.kq_lock.specs.Turns.{Draws, Settles}
use Rattle.kq_lock.proofs.Beginnings.{prefix_self, sum_set}
use Rattle.kq_lock.proofs.Keeping.{Finds, Moves, same_state, sits_all, holder_set, stands_same}
use Rattle.kq_lock.proofs.Keeping.{fits_on, idle_fits}

module _ {M S A : Type 0} where
  -- the view with the bound that a load of SERVING gives
  abbrev pub bounded : LockState M S A → View M S A → View M S A
  bounded x v = record v { bound = x.serving }

  -- the ticket goes to the seat id
  abbrev pub drawn : LockState M S A → ℕ → LockState M S A
  drawn x id = record x { ticket = x.ticket + 1; who = λ t. cond (t == x.ticket) id (x.who t) }

  pub who_before : (x : LockState M S A) (id t : ℕ) → t < x.ticket
      → cond (t == x.ticket) id (x.who t) ≡ x.who t
  who_before x id t l = ap (λ b. cond b id (x.who t)) (ne_eqb t x.ticket (λ e. omega arith))

  pub who_drew : (x : LockState M S A) (id : ℕ)
      → cond (x.ticket == x.ticket) id (x.who x.ticket) ≡ id
  who_drew x id = ap (λ b. cond b id (x.who x.ticket)) (eq-eqb x.ticket x.ticket refl)

module _ {M S A : Type 0} (leads : M → S → A → M → Type 0) (opening : M) (last : ℕ) where
  -- a step after which the seat's view is w and the state as it was
  looks : (x : LockState M S A) (homes : Homes M S A) (views : List (View M S A)) (id i : ℕ)
      (me : Mine M S A) (w : View M S A) (said : Mine M S A → Type 0)
      → set (words_of x) i (get_or (words_of x) i 0) ≡ words_of x
      → Fair leads opening last x homes views → get_elem? views id ≡ some me.0
      → me.0.stage ≡ w.stage → Sits opening last x id w → said (w, me.1)
      → Finds leads opening last x homes views id me i (get_or (words_of x) i 0) said
  looks x homes views id i me w said same f at stage mine then = (
    w,
    keeps,
    tt,
    (
      x,
      same,
      same_state leads opening last x homes views id me.0 w f at (sym (ap tickets_at stage))
          (subst (Carries x.serving) stage) mine,
    ),
    then,
  )

  pub looks_at_ticket : (slots id : ℕ) (me : Mine M S A) → me.0.stage ≡ Idle
      → Moves leads opening last id me 1 (λ n. n) (LooksAtTicket (step slots 1 0 0 none) me)
  looks_at_ticket slots id me idle x homes views f one at =
      let sits = f.seats id me.0 at in let k = idle_fits leads opening last x id me.0 idle sits in
      let lim : me.0.last ≡ last = k.limit in
      let below : x.ticket ≤ me.0.last = let d = f.at_most_last in omega arith in
      let worn : me.0.worn ≡ true → x.ticket ≡ me.0.last = λ h. k.worn h ∙ sym lim in
      dite (ℕ_discrete x.ticket me.0.last)
      (λ e. looks x homes views id 1 me (record me.0 { worn = true })
      (LooksAtTicket (step slots 1 0 0 none) me x.ticket) refl f at refl (
        (λ _. record {
          opened = k.opened;
          limit = k.limit;
          small = k.small;
          worn = λ _. e ∙ lim;
          bound = k.bound;
          numbered = k.numbered;
          seen = k.seen;
          owned = k.owned;
          own = k.own;
        }),
        sits.1,
      ) (below, worn, (λ _. refl), (λ ne. absurd (ne e))))
      (λ ne. looks x homes views id 1 me me.0
      (LooksAtTicket (step slots 1 0 0 none) me x.ticket) refl f at refl sits
      (below, worn, (λ e. absurd (ne e)), (λ _. refl)))

  pub bounded_sits : (x : LockState M S A) (j : ℕ) (v : View M S A) → Sits opening last x j v
      → Sits opening last x j (bounded x v)
  bounded_sits x j v h = (
    (λ u. let k = h.0 u in record {
      opened = k.opened;
      limit = k.limit;
      small = k.small;
      worn = k.worn;
      bound = le_refl x.serving;
      numbered = k.numbered;
      seen = k.seen;
      owned = k.owned;
      own = k.own;
    }),
    h.1,
  )

  pub looks_at_turn : (slots id : ℕ) (me : Mine M S A)
      → Moves leads opening last id me 2 (λ n. n) (LooksAtTurn (step slots 2 0 0 none) me)
  looks_at_turn slots id me x homes views f one at =
      looks x homes views id 2 me (bounded x me.0)
      (LooksAtTurn (step slots 2 0 0 none) me x.serving) refl f at refl
      (bounded_sits x id me.0 (f.seats id me.0 at)) refl

  pub settles : (slots id : ℕ) (me : Mine M S A) (before other : List (Call S A)) (n s : ℕ)
      → me.0.stage ≡ Joined before other n s
      → Moves leads opening last id me 0 (λ n. n) (Settles (step slots 0 0 0 none) me)
  settles slots id me before other n s is x homes views f one at =
      let sits = f.seats id me.0 at in let k =
      sits.0 (subst (λ (st : Stage M S A). Unspent st) (sym is) tt) in
      let w : View M S A = record me.0 { stage = Idle } in (
        w,
        keeps,
        tt,
        (
          x,
          refl,
          same_state leads opening last x homes views id me.0 w f at (sym (ap tickets_at is))
              (λ c. absurd (subst (Carries x.serving) is c)) (
                (λ _. record {
                  opened = k.opened;
                  limit = k.limit;
                  small = k.small;
                  worn = k.worn;
                  bound = k.bound;
                  numbered = k.numbered;
                  seen = k.seen;
                  owned = k.owned;
                  own = k.own;
                }),
                tt,
              ),
        ),
        λ b o q t e. (subst (Stands x id me.0.number me.0.stride me.0.seen) e sits.1, refl),
      )

  -- what a seat knows is true after the draw of a ticket that was not the last
  pub drawn_fits : (x : LockState M S A) (id j : ℕ) (v : View M S A) → x.ticket < last
      → Fits opening last x j v → Fits opening last (drawn x id) j v
  drawn_fits x id j v lt k = fits_on leads opening last x (drawn x id) j v (le_refl x.serving)
      (λ e. absurd (omega arith)) (prefix_self x.log) (λ _ _ o. o) (λ _ _. refl) (λ n. n) k

  draws_hit : (x : LockState M S A) (homes : Homes M S A) (views : List (View M S A)) (id : ℕ)
      (v : View M S A) → Fair leads opening last x homes views → get_elem? views id ≡ some v
      → v.stage ≡ Idle → x.ticket < last
      → Fair leads opening last (drawn x id) homes
      (set views id (record v { stage = Waits x.ticket }))
  draws_hit x homes views id v f at idle lt =
      let w : View M S A = record v { stage = Waits x.ticket } in let sits = f.seats id v at in
      let k = idle_fits leads opening last x id v idle sits in
      let c = f.count in let served : x.serving ≤ x.ticket = omega arith in record {
        at_most_last = omega arith;
        count = let s = sum_set tickets views id v w at in
            let z : tickets v ≡ 0 = ap tickets_at idle in omega arith;
        legal = f.legal;
        length_served = f.length_served;
        length_one_ahead = f.length_one_ahead;
        turn_has_ticket = λ p. let t = f.turn_has_ticket p in omega arith;
        holder = λ p. holder_set leads opening last x.serving views id v w
            ((drawn x id).who x.serving) at (λ h. absurd (subst (Carries x.serving) idle h))
            (let h = f.holder p in (
              h.0,
              ap (get_elem? views)
                  (who_before x id x.serving (f.turn_has_ticket p)) ∙ h.1,
              h.2,
            ));
        home_while_free = f.home_while_free;
        made = f.made ∙ sym (length-set views id w);
        made_by_seats = f.made_by_seats;
        seats = sits_all leads opening last (drawn x id) views id w (
          (λ _. let q = drawn_fits x id id v lt k in record {
            opened = q.opened;
            limit = q.limit;
            small = q.small;
            worn = q.worn;
            bound = q.bound;
            numbered = q.numbered;
            seen = q.seen;
            owned = q.owned;
            own = q.own;
          }),
          (
            who_drew x id,
            served,
            omega arith,
            λ e. dite (ℕ_discrete x.phase 0) (λ z. z)
                (λ ne. let t = f.turn_has_ticket (omega arith) in absurd (omega arith)),
          ),
        )
            (λ j u _ there. let h = f.seats j u there in (
              (λ un. drawn_fits x id j u lt (h.0 un)),
              stands_same leads opening last x (x.ticket + 1)
                  (drawn x id).who x.owner x.made j u.number u.stride u.seen (omega arith)
                  (who_before x id) u.stage h.1,
            ));
      }

  pub draws : (slots id : ℕ) (me : Mine M S A) (t : ℕ) → me.0.stage ≡ Idle → t < me.0.last
      → Moves leads opening last id me 1 (λ n. either (eqb n t) (t + 1) n)
      (Draws (step slots 1 t (t + 1) none) me)
  draws slots id me t idle lt x homes views f one at =
      let k = idle_fits leads opening last x id me.0 idle (f.seats id me.0 at) in
      let lim = k.limit in
      exchanged x.ticket t (t + 1) (λ z. Finds leads opening last x homes views id me 1 z
      (Draws (step slots 1 t (t + 1) none) me x.ticket))
      (λ hit. (
        record me.0 { stage = Waits t },
        keeps,
        tt,
        (
          drawn x id,
          ap (λ (z : ℕ). length x.log ∷ (z + 1) ∷ x.serving ∷ []) (sym hit),
          subst (λ (z : ℕ). Fair leads opening last (drawn x id) homes
              (set views id (record me.0 { stage = Waits z }))) hit
              (draws_hit x homes views id me.0 f at idle (omega arith)),
        ),
        ((λ _. refl), (λ miss. absurd (miss hit))),
      ))
      (λ miss. looks x homes views id 1 me me.0
      (Draws (step slots 1 t (t + 1) none) me x.ticket) refl f at refl (f.seats id me.0 at)
      ((λ hit. absurd (miss hit)), (λ _. refl)))
