-- What a seat with the turn finds in the slot, and what it leaves there.
use Rattle.std.proofs.Common.{◌≡◌, ◌≢◌, ℕ, ◌+◌, ◌%◌, ◌<◌, ◌≤◌, true, List, [], ◌∷◌, ◌++◌, length}
use Rattle.std.proofs.Common.{Some, None, refl, ap, sym, ◌∙◌, subst, arith, length-append}
use Rattle.std.proofs.Common as std
use Rattle.std.proofs.Math.ListN.{length-map}
use Rattle.atomic_table.specs.Table.{rest}
use Rattle.kq_lock.specs.declared.entry.Entry.{Entry}
use Rattle.kq_lock.specs.declared.view.Call.{Call}
use Rattle.kq_lock.specs.declared.kept.Kept.{Kept}
use Rattle.kq_lock.specs.declared.view.View.{View}
use Rattle.kq_lock.specs.declared.view.Stage.{Stage}
use Rattle.kq_lock.specs.declared.view.Stage.TheVariants.{Idle, Holds, Raised}
use Rattle.kq_lock.specs.Calls.{entry_of, plain, call_of, calls_by, Grows}
use Rattle.kq_lock.specs.Turns.{Mine, Owns, HasTurn, KeepsOthers, IsSameView, logged}
use Rattle.kq_lock.proofs.Beginnings.{prefix_more}
use Rattle.kq_lock.proofs.Logs.{calls_same, calls_other, leads_more}
use Rattle.kq_lock.proofs.Numbers.{owns_own}

module _ {M S A : Type 0} where
  -- the value that comes out of the slot is the one that the seat carries
  pub slot_is : (c : List (ℕ × std.Option (Kept M S A))) (r : std.Option (Kept M S A))
      (k u : Kept M S A) → c ≡ (0, Some k) ∷ [] → c ≡ (0, r) ∷ rest c → r ≡ Some u → u ≡ k
  slot_is c r k u is out some_u =
      let both = ◌∙◌ {A = List (ℕ × std.Option (Kept M S A))} (sym out) is in
      let pairs : ◌≡◌ {A = ℕ × std.Option (Kept M S A)} (0, r) (0, Some k) = cc in
      let somes = ap (λ (z : ℕ × std.Option (Kept M S A)). z.1) pairs in
      let same : Some u ≡ Some k = sym some_u ∙ somes in cc

  -- the seat as it was, with k' in the slot
  pub put_back : (m m1 m2 : Mine M S A) (k k' : Kept M S A) → m.1 ≡ (0, Some k) ∷ []
      → m1 ≡ (m.0, (0, None) ∷ rest m.1) → m2 ≡ (m1.0, (0, Some k') ∷ rest m1.1)
      → m2 ≡ (m.0, (0, Some k') ∷ [])
  put_back m m1 m2 k k' slot out back = back ∙ (λ i. ((out i).0, (0, Some k') ∷ rest (out i).1))
      ∙ (λ i. (m.0, (0, Some k') ∷ rest (slot i)))

  module _ (leads : M → S → A → M → Type 0) (t : ℕ) (m : Mine M S A) (h : HasTurn leads t m)
      (k' : Kept M S A) (e : Entry S A) where
    pub grows : leads h.kept.value e.step e.answer k'.value
        → Grows leads m.0.opening m.0.number m.0.seen (logged m.0 h.log e) e
    grows lead = let c = call_of m.0.number e in record {
      begins = prefix_more m.0.seen h.log (c ∷ []) h.seen;
      legal = (
        h.legal.0,
        k'.value,
        h.legal.1,
        leads_more leads h.legal.0 h.kept.value k'.value
            h.log c h.legal.2 lead,
      );
      ends = (h.log, refl);
      own = calls_same m.0.number h.log c refl
          ∙ ap (λ (l : List (Call S A)). l ++ c ∷ [])
          (h.own m.0.number (owns_own m.0.stride m.0.number h.small));
    }

    pub others_kept : (n : ℕ) → Owns m.0 n → n ≢ m.0.number
        → calls_by n (logged m.0 h.log e) ≡ calls_by n m.0.seen
    others_kept n o ne = calls_other n h.log (call_of m.0.number e) (λ same. ne (sym same))
        ∙ h.own n o

    pub one_longer : (n : ℕ) → n ≡ length h.log + 1 → n ≡ length (logged m.0 h.log e)
    one_longer n is = let l = length-append h.log (call_of m.0.number e ∷ []) in omega arith

    -- the seat after LENGTH is raised and the turn passed on
    pub after_turn : (m2 m3 m4 : Mine M S A) → m2 ≡ (m.0, (0, Some k') ∷ [])
        → m3 ≡ (
          record m2.0 {
            seen = logged m2.0 h.log e;
            stage =
                Raised t k'.value (logged m2.0 h.log e);
          },
          m2.1,
        )
        → m4 ≡ (record m3.0 { stage = Idle }, [])
        → m4 ≡ (record m.0 { seen = logged m.0 h.log e; stage = Idle }, [])
    after_turn m2 m3 m4 back raise pass = pass ∙ (λ i. (record (raise i).0 { stage = Idle }, []))
        ∙ (λ i. (record (back i).0 { seen = logged (back i).0 h.log e; stage = Idle }, []))

    pub raised_stage : (m2 m3 : Mine M S A) → m2 ≡ (m.0, (0, Some k') ∷ [])
        → m3 ≡ (
          record m2.0 {
            seen = logged m2.0 h.log e;
            stage =
                Raised t k'.value (logged m2.0 h.log e);
          },
          m2.1,
        )
        → (m3.0.stage ≡ Raised t k'.value (logged m.0 h.log e)) × (m3.1 ≡ (0, Some k') ∷ [])
    raised_stage m2 m3 back raise = (
      (λ i. (raise i).0.stage) ∙ (λ i. Raised t k'.value (logged (back i).0 h.log e)),
      (λ i. (raise i).1) ∙ (λ i. (back i).1),
    )

    -- what a turn with a step has done
    pub record TurnDone (m4 : Mine M S A) (n : ℕ) : Type 0 where
      pub view : m4.0 ≡ record m.0 { seen = m4.0.seen; stage = Idle }
      pub added : Grows leads m.0.opening m.0.number m.0.seen m4.0.seen e
      pub place : n ≡ length m4.0.seen
      pub others : KeepsOthers m.0 m4.0

    pub turn_done : (m4 : Mine M S A) (n : ℕ)
        → m4 ≡ (record m.0 { seen = logged m.0 h.log e; stage = Idle }, [])
        → leads h.kept.value e.step e.answer k'.value → n ≡ length h.log + 1 → TurnDone m4 n
    turn_done m4 n is lead long = let seen : m4.0.seen ≡ logged m.0 h.log e =
        (λ i. (is i).0.seen) in record {
          view = (λ i. (is i).0) ∙ (λ i. record m.0 { seen = sym seen i; stage = Idle });
          added = subst (λ (l : List (Call S A)). Grows leads m.0.opening m.0.number m.0.seen l e)
              (sym seen) (grows lead);
          place = one_longer n long ∙ sym (ap length seen);
          others = λ q o ne. ap (calls_by q) seen ∙ others_kept q o ne;
        }

module _ {M S A : Type 0} where
  pub carried : (c : List (ℕ × std.Option (Kept M S A))) (k : Kept M S A) → c ≡ (0, Some k) ∷ []
      → c ≡ (0, Some k) ∷ rest c
  carried c k is = is ∙ ap (λ (r : List (ℕ × std.Option (Kept M S A))). (0, Some k) ∷ r)
      (sym (ap rest is))

  pub back_stage : (m m2 : Mine M S A) (s : List (ℕ × std.Option (Kept M S A))) (st : Stage M S A)
      → m2 ≡ (m.0, s) → m.0.stage ≡ st → m2.0.stage ≡ st
  back_stage m m2 s st back e = ap (λ (z : Mine M S A). z.0.stage) back ∙ e

  pub back_slot : (m m2 : Mine M S A) (s : List (ℕ × std.Option (Kept M S A))) → m2 ≡ (m.0, s)
      → m2.1 ≡ s
  back_slot m m2 s back = ap (λ (z : Mine M S A). z.1) back

  pub items_on : (k0 k k' : Kept M S A) (e : Entry S A) (log : List (Call S A)) → k0 ≡ k
      → k.history.items ≡ plain log → k'.history.items ≡ k0.history.items ++ e ∷ []
      → k'.history.items ≡ plain log ++ e ∷ []
  items_on k0 k k' e log same items is = is
      ∙ ap (λ (l : List (Entry S A)). l ++ e ∷ []) (ap (λ (z : Kept M S A). z.history.items) same
      ∙ items)

  pub lead_on : (leads : M → S → A → M → Type 0) (k0 k : Kept M S A) (s : S) (a : A) (w : M)
      → k0 ≡ k → leads k0.value s a w → leads k.value s a w
  lead_on leads k0 k s a w same l = subst (λ (z : Kept M S A). leads z.value s a w) same l

  pub long_is : (n : ℕ) (k' : Kept M S A) (e : Entry S A) (log : List (Call S A))
      → n ≡ k'.history.len → k'.history.len ≡ length k'.history.items
      → k'.history.items ≡ plain log ++ e ∷ [] → n ≡ length log + 1
  long_is n k' e log is whole items = let a = ap length items in
      let b = length-append (plain log) (e ∷ []) in
      let c = length-map log (entry_of {S = S} {A = A}) in omega arith

  pub unchanged : (k0 k k' : Kept M S A) (log : List (Call S A)) → k0 ≡ k
      → k.history.items ≡ plain log → (k'.value ≡ k0.value) × (k'.history.items ≡ k0.history.items)
      → (k'.value ≡ k.value) × (k'.history.items ≡ plain log)
  unchanged k0 k k' log same items is = (
    is.0 ∙ ap (λ (z : Kept M S A). z.value) same,
    is.1
        ∙ (ap (λ (z : Kept M S A). z.history.items) same ∙ items),
  )

  -- views that differ in bound and stage alone
  pub same_view_on : (u v w : View M S A) → IsSameView u v → IsSameView v w → IsSameView u w
  same_view_on u v w p q = q ∙ (λ i. record (p i) { bound = w.bound; stage = w.stage })

  pub bounded_view : (m m' : Mine M S A) (r : ℕ) → m' ≡ (record m.0 { bound = r }, m.1)
      → IsSameView m.0 m'.0
  bounded_view m m' r p = (λ i. (p i).0)
      ∙ sym (λ i. record m.0 { bound = (p i).0.bound; stage = (p i).0.stage })

  pub bounded_stage : (m m' : Mine M S A) (r : ℕ) → m' ≡ (record m.0 { bound = r }, m.1)
      → m'.0.stage ≡ m.0.stage
  bounded_stage m m' r p = ap (λ (z : Mine M S A). z.0.stage) p

  pub bounded_slots : (m m' : Mine M S A) (r : ℕ) → m' ≡ (record m.0 { bound = r }, m.1)
      → m'.1 ≡ m.1
  bounded_slots m m' r p = ap (λ (z : Mine M S A). z.1) p

  -- after the slot was emptied and filled again: the value that was in it, and the seat with the
  -- new one
  pub record IsBack (leads : M → S → A → M → Type 0) (t : ℕ) (m : Mine M S A)
      (h : HasTurn leads t m) (k0 k' : Kept M S A) (m2 : Mine M S A) : Type 0 where
    pub same : k0 ≡ h.kept
    pub back : m2 ≡ (m.0, (0, Some k') ∷ [])
    pub stage : m2.0.stage ≡ Holds t h.kept.value h.log
    pub slot : m2.1 ≡ (0, Some k') ∷ []

  pub is_back : (leads : M → S → A → M → Type 0) (t : ℕ) (m : Mine M S A) (h : HasTurn leads t m)
      (r : std.Option (Kept M S A)) (k0 k' : Kept M S A) (m1 m2 : Mine M S A)
      → m.1 ≡ (0, r) ∷ rest m.1 → r ≡ Some k0 → m1 ≡ (m.0, (0, None) ∷ rest m.1)
      → m2 ≡ (m1.0, (0, Some k') ∷ rest m1.1) → IsBack leads t m h k0 k' m2
  is_back leads t m h r k0 k' m1 m2 is some_k out filled = let back =
      put_back m m1 m2 h.kept k' h.slot out filled in record {
        same = slot_is m.1 r h.kept k0 h.slot is some_k;
        back = back;
        stage = back_stage m m2 ((0, Some k') ∷ []) (Holds t h.kept.value h.log) back h.stage;
        slot = back_slot m m2 ((0, Some k') ∷ []) back;
      }

  -- a seat that found one number in SERVING and in TICKET, which is not the last
  pub record IsReady (m m2 : Mine M S A) (t : ℕ) : Type 0 where
    pub is : m2 ≡ (record m.0 { bound = t }, m.1)
    pub stage : m2.0.stage ≡ Idle
    pub under : t < m2.0.last
    pub bound : m2.0.bound ≡ t

  pub is_ready : (m m1 m2 : Mine M S A) (r t limit : ℕ) → m1 ≡ (record m.0 { bound = r }, m.1)
      → (t ≤ m1.0.last) × (m1.0.worn ≡ true → t ≡ m1.0.last)
      × (t ≡ m1.0.last → m2 ≡ (record m1.0 { worn = true }, m1.1)) × (t ≢ m1.0.last → m2 ≡ m1)
      → t ≢ limit → m.0.last ≡ limit → t ≡ r → m.0.stage ≡ Idle → IsReady m m2 t
  is_ready m m1 m2 r t limit first told ne lim now idle =
      let lasts : m1.0.last ≡ m.0.last = ap (λ (z : Mine M S A). z.0.last) first in
      let miss : t ≢ m1.0.last = λ e. ne (e ∙ (lasts ∙ lim)) in
      let same = told.3 miss in let below = told.0 in
      let all : m2 ≡ (record m.0 { bound = t }, m.1) = same
      ∙ (first ∙ (λ i. (record m.0 { bound = sym now i }, m.1))) in
      let last : m2.0.last ≡ m1.0.last = ap (λ (z : Mine M S A). z.0.last) same in record {
        is = all;
        stage = ap (λ (z : Mine M S A). z.0.stage) all ∙ idle;
        under = omega arith;
        bound = ap (λ (z : Mine M S A). z.0.bound) all;
      }
