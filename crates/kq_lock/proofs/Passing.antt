-- The steps by which a seat adds its call to the history and passes the turn on.
use Rattle.std.proofs.Common.{◌≡◌, ◌≢◌, ℕ, zero, suc, ◌+◌, ◌<◌, ◌≤◌, ◌⊎◌, ◌==◌, ◌%◌, eqb, true}
use Rattle.std.proofs.Common.{cond, List, [], ◌∷◌, ◌++◌, length, get_or, set, sum_by, Some, refl}
use Rattle.std.proofs.Common.{ap, sym, ◌∙◌, subst, inl, inr, ⊎_elim, arith, length-set}
use Rattle.std.proofs.Common.{length-append, le_refl, ne_eqb, eq-eqb}
use Rattle.std.proofs.Common as std
use mathlib.Core.Option.{some, none}
use lib.ListN.{get_elem?}
use Rattle.atomic_table.specs.Table.{step, keeps, gives, homes_after, carried_after}
use Rattle.kq_lock.specs.declared.entry.Entry.{Entry}
use Rattle.kq_lock.specs.declared.view.Call.{Call}
use Rattle.kq_lock.specs.declared.kept.Kept.{Kept}
use Rattle.kq_lock.specs.declared.view.View.{View}
use Rattle.kq_lock.specs.declared.view.Stage.{Stage}
use Rattle.kq_lock.specs.declared.view.Stage.TheVariants.{Idle, Holds, Raised}
use Rattle.kq_lock.specs.Calls.{plain, call_of, IsMade}
use Rattle.kq_lock.specs.Turns.{LockState, Mine, Homes, Unspent, tickets, tickets_at, Carries}
use Rattle.kq_lock.specs.Turns.{Stands, Fits, Sits, Fair}
use Rattle.kq_lock.specs.Turns.{Raises, PassesOn, logged}
use Rattle.kq_lock.proofs.Beginnings.{prefix_self, prefix_more, sum_set, last_same}
use Rattle.kq_lock.proofs.Beginnings.{set_only}
use Rattle.kq_lock.proofs.Logs.{calls_other, each_more, leads_more}
use Rattle.kq_lock.proofs.Numbers.{owns_own}
use Rattle.kq_lock.proofs.Keeping.{Moves, sits_all, holder_set, stands_on}
use Rattle.kq_lock.proofs.Keeping.{fits_on}
use Rattle.kq_lock.proofs.Turning.{fits_at}

module _ {M S A : Type 0} (leads : M → S → A → M → Type 0) (opening : M) (last : ℕ) where
  -- the state once the call c is in the history, and the value is v
  abbrev pub raised : LockState M S A → Call S A → M → LockState M S A
  raised x c v = record x { log = x.log ++ c ∷ []; value = v; phase = 2 }

  -- the others, as the seat id, which has the turn and owns the number of its call, adds the call
  others_raise : (x : LockState M S A) (id : ℕ) (c : Call S A) (v : M) → x.who x.serving ≡ id
      → x.owner c.number ≡ id → (j : ℕ) (u : View M S A) → j ≢ id → Sits opening last x j u
      → Sits opening last (raised x c v) j u
  others_raise x id c v who owner j u ne h = (
    (λ un. fits_on leads opening last x (raised x c v) j u (le_refl x.serving) (λ e. e)
        (prefix_more x.log x.log (c ∷ []) (prefix_self x.log)) (λ _ _ o. o)
        (λ n o. calls_other n x.log c (λ e. ne (sym o ∙ (ap x.owner (sym e) ∙ owner)))) (λ e. e)
        (h.0 un)),
    stands_on leads opening last x (raised x c v) j u.number u.stride u.seen (λ _ _. refl)
        (le_refl x.ticket) (λ t l. (omega arith, λ e. absurd (omega arith)))
        (λ t mine now _. ne (sym mine ∙ (ap x.who now ∙ who))) u.stage h.1,
  )

  raises_here : (x : LockState M S A) (homes : Homes M S A) (views : List (View M S A)) (id : ℕ)
      (me : View M S A) (k : Kept M S A) (e : Entry S A) (t : ℕ) (v : M)
      → Fair leads opening last x homes views → get_elem? views id ≡ some me
      → me.stage ≡ Holds t v x.log
      → Stands x id me.number me.stride me.seen (Holds t v x.log) → Fits opening last x id me
      → leads v e.step e.answer k.value
      → Fair leads opening last (raised x (call_of me.number e) k.value) homes
      (set views id (record me {
        seen = logged me x.log e;
        stage =
            Raised t k.value (logged me x.log e);
      }))
  raises_here x homes views id me k e t v f at holds stands fits lead =
      let c = call_of me.number e in let y = raised x c k.value in
      let w : View M S A = record me {
        seen = logged me x.log e;
        stage =
            Raised t k.value (logged me x.log e);
      } in
      let own : me.number % me.stride ≡ me.number = owns_own me.stride me.number fits.small in
      let even = f.length_served (let p = stands.3 in omega arith) in
      let long = length-append x.log (c ∷ []) in let phase = stands.3 in record {
        at_most_last = f.at_most_last;
        count = let n = f.count in let s = sum_set tickets views id me w at in
            let z : tickets me ≡ 1 = ap tickets_at holds in omega arith;
        legal = leads_more leads opening x.value k.value x.log c f.legal
            (subst (λ (m : M). leads m e.step e.answer k.value) stands.4 lead);
        length_served = λ p. absurd (omega arith);
        length_one_ahead = omega arith;
        turn_has_ticket = λ _. f.turn_has_ticket (omega arith);
        holder = λ _. holder_set leads opening last x.serving views id me w (x.who x.serving) at
            (λ h. subst (Carries x.serving) holds h) (f.holder (omega arith));
        home_while_free = λ p. absurd (omega arith);
        made = f.made ∙ sym (length-set views id w);
        made_by_seats = each_more (IsMade x.made) x.log c f.made_by_seats (id, fits.numbered);
        seats = sits_all leads opening last y views id w (
          (λ _. record {
            opened = fits.opened;
            limit = fits.limit;
            small = fits.small;
            worn = fits.worn;
            bound = fits.bound;
            numbered = fits.numbered;
            seen = prefix_self (x.log ++ c ∷ []);
            owned = fits.owned;
            own = λ _ _. refl;
          }),
          (stands.0, stands.1, stands.2, refl, refl, refl),
        )
            (λ j u ne there. others_raise x id c k.value (ap x.who (sym stands.1)
            ∙ stands.0) (fits.owned me.number own) j u ne (f.seats j u there));
      }

  pub raises : (slots id : ℕ) (me : Mine M S A) (t : ℕ) (v : M) (log : List (Call S A))
      (k : Kept M S A) (e : Entry S A) (n : ℕ) → me.0.stage ≡ Holds t v log
      → me.1 ≡ (0, Some k) ∷ [] → k.history.items ≡ plain log ++ e ∷ []
      → leads v e.step e.answer k.value → n ≡ length log + 1
      → Moves leads opening last id me 0 (λ _. n) (λ _. Raises (step slots 0 n 0 none) me n)
  raises slots id me t v log k e n holds slot items lead long x homes views f one at =
      let sits = f.seats id me.0 at in let stands =
      subst (Stands x id me.0.number me.0.stride me.0.seen) holds sits.1 in
      let fits = sits.0 (subst (λ (st : Stage M S A). Unspent st) (sym holds) tt) in
      let same = stands.5 in
      let holds' : me.0.stage ≡ Holds t v x.log = holds ∙ ap (Holds t v) same in (
        record me.0 { seen = logged me.0 x.log e; stage = Raised t k.value (logged me.0 x.log e) },
        keeps,
        tt,
        (
          raised x (call_of me.0.number e) k.value,
          ap (λ (z : ℕ). z ∷ x.ticket ∷ x.serving ∷ [])
              (let more = length-append x.log (call_of me.0.number e ∷ []) in
              let l = ap length same in omega arith),
          raises_here x homes views id me.0 k e t v f at holds'
              (subst (Stands x id me.0.number me.0.stride me.0.seen) holds' sits.1) fits lead,
        ),
        λ t' v' log' k' e' holds2 slot2 items2.
            let tickets_same : t ≡ t' = cc in
            let logs : log ≡ log' = cc in
            let both = ◌∙◌ {A = List (ℕ × std.Option (Kept M S A))} (sym slot) slot2 in
            let pairs : ◌≡◌ {A = ℕ × std.Option (Kept M S A)} (0, Some k) (0, Some k') = cc in
            let somes = ap (λ (z : ℕ × std.Option (Kept M S A)). z.1) pairs in
            let kepts : k ≡ k' = cc in
            let ends : plain log ++ e ∷ [] ≡ plain log ++ e' ∷ [] = sym items
            ∙ (ap (λ (z : Kept M S A). z.history.items) kepts
            ∙ (items2 ∙ ap (λ (l : List (Call S A)). plain l ++ e' ∷ []) (sym logs))) in
            let entries : e ≡ e' = last_same (plain log) e e' ends in
            let logs2 : x.log ≡ log' = sym same ∙ logs in
            λ i. (
              record me.0 {
                seen = logged me.0 (logs2 i) (entries i);
                stage =
                    Raised (tickets_same i) (kepts i).value (logged me.0 (logs2 i) (entries i));
              },
              me.1,
            ),
      )

  -- the state once the turn is passed on
  abbrev pub passed : LockState M S A → LockState M S A
  passed x = record x { serving = x.serving + 1; phase = 0 }

  -- the seat id has the turn with the ticket t, and is to put v back
  abbrev pub Turning : LockState M S A → ℕ → ℕ → M → List (Call S A) → Type 0
  Turning x id t v log = (x.who t ≡ id) × (t ≡ x.serving) × (t < x.ticket) × (0 < x.phase)
      × (v ≡ x.value) × (log ≡ x.log)

  turning : (x : LockState M S A) (id number stride : ℕ) (seen : List (Call S A)) (st : Stage M S A)
      (t : ℕ) (v : M) (log : List (Call S A)) → (st ≡ Holds t v log) ⊎ (st ≡ Raised t v log)
      → Stands x id number stride seen st
      → Turning x id t v log × (tickets_at st ≡ 1) × Unspent st
  turning x id number stride seen st t v log (inl e) h = let s =
      subst (Stands x id number stride seen) e h in
      let p = s.3 in (
        (s.0, s.1, s.2, omega arith, s.4, s.5),
        ap tickets_at e,
        subst
            (λ (z : Stage M S A). Unspent z) (sym e) tt,
      )
  turning x id number stride seen st t v log (inr e) h = let s =
      subst (Stands x id number stride seen) e h in
      let p = s.3 in (
        (s.0, s.1, s.2, omega arith, s.4, s.5),
        ap tickets_at e,
        subst
            (λ (z : Stage M S A). Unspent z) (sym e) tt,
      )

  passes : (x : LockState M S A) (homes : Homes M S A) (views : List (View M S A)) (id : ℕ)
      (me : View M S A) (k : Kept M S A) (t : ℕ) (v : M) (log : List (Call S A))
      → Fair leads opening last x homes views → get_elem? views id ≡ some me
      → Turning x id t v log → tickets me ≡ 1 → Fits opening last x id me → k.value ≡ v
      → k.history.items ≡ plain log → Fair leads opening last (passed x) (some (Some k) ∷ [])
      (set views id (record me { stage = Idle }))
  passes x homes views id me k t v log f at has one fits value items =
      let y = passed x in let w : View M S A = record me { stage = Idle } in let now = has.1 in
      let lt = has.2 in let some_phase = has.3 in
      let who : x.who x.serving ≡ id = ap x.who (sym now) ∙ has.0 in record {
        at_most_last = f.at_most_last;
        count = let n = f.count in let s = sum_set tickets views id me w at in omega arith;
        legal = f.legal;
        length_served = λ _. f.length_one_ahead;
        length_one_ahead = let l = f.length_one_ahead in omega arith;
        turn_has_ticket = λ p. absurd (omega arith);
        holder = λ p. absurd (omega arith);
        home_while_free = λ _. (k, refl, value ∙ has.4, items ∙ ap plain has.5);
        made = f.made ∙ sym (length-set views id w);
        made_by_seats = f.made_by_seats;
        seats = sits_all leads opening last y views id w (
          (λ _. fits_at leads opening last y id me Idle (fits_on leads opening last x y id me (omega arith) (λ e. e)
              (prefix_self x.log) (λ _ _ o. o) (λ _ _. refl) (λ e. e) fits)),
          tt,
        )
            (λ j u ne there. let h = f.seats j u there in (
              (λ un. fits_on leads opening last x y j u (omega arith) (λ e. e) (prefix_self x.log)
                  (λ _ _ o. o) (λ _ _. refl) (λ e. e) (h.0 un)),
              stands_on leads opening last x y j u.number u.stride u.seen (λ _ _. refl)
                  (le_refl x.ticket) (λ t l. (omega arith, λ _. refl))
                  (λ t mine now _. ne (sym mine ∙ (ap x.who now ∙ who))) u.stage h.1,
            ));
      }

  pub passes_on : (slots id : ℕ) (me : Mine M S A) (t : ℕ) (v : M) (log : List (Call S A))
      (k : Kept M S A) (n : ℕ) → (me.0.stage ≡ Holds t v log) ⊎ (me.0.stage ≡ Raised t v log)
      → me.1 ≡ (0, Some k) ∷ []
      → k.value ≡ v → k.history.items ≡ plain log → n ≡ t + 1
      → Moves leads opening last id me 2 (λ _. n) (λ _. PassesOn (step slots 2 n 0 none) me n)
  passes_on slots id me t v log k n stage slot value items next x homes views f one at =
      let sits = f.seats id me.0 at in let has =
      turning x id me.0.number me.0.stride me.0.seen me.0.stage t v log stage sits.1 in
      let now = has.0.1 in
      let w : View M S A = record me.0 { stage = Idle } in
      let P : List (ℕ × std.Option (Kept M S A))
      → Type 0 = λ c. Fair leads opening last (passed x) (homes_after homes c gives)
      (set views id w) in
      let Q : List (ℕ × std.Option (Kept M S A))
      → Type 0 = λ c. ◌≡◌ {A = Mine M S A} (w, carried_after c gives) (w, []) in (
        w,
        gives,
        tt,
        (
          passed x,
          ap (λ (z : ℕ). length x.log ∷ x.ticket ∷ z ∷ []) (let e = next in omega arith),
          subst P (sym slot) (subst (λ (h : Homes M S A). Fair leads opening last (passed x) h
              (set views id w)) (sym (set_only homes (some (Some k)) one))
              (passes x homes views id me.0 k t v log f at has.0 has.1 (sits.0 has.2) value items)),
        ),
        subst Q (sym slot) refl,
      )
