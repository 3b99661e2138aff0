-- A seat between two calls: it is idle, carries no slot, and counts what it has seen.
use Rattle.std.proofs.Common.{◌≡◌, ℕ, ◌%◌, List, [], length, max, cond, ltb, true, false, Bool}
use Rattle.std.proofs.Common.{refl, ap, sym, ◌∙◌, subst, arith}
use Rattle.std.proofs.lemmas.Bool.Decides.{nat_tests}
use mathlib.Core.List.{IsPrefix}
use Rattle.kq_lock.specs.declared.view.Call.{Call}
use Rattle.kq_lock.specs.declared.view.View.{View}
use Rattle.kq_lock.specs.declared.view.Stage.TheVariants.{Idle, Joined}
use Rattle.kq_lock.specs.Calls.{calls_by, longer, HasNoFurther, Merged, IsNumbered}
use Rattle.kq_lock.specs.Turns.{Mine, first_half, second_half, joined}
use Rattle.kq_lock.proofs.Numbered.{numbered_first, numbered_second, numbered_on}

module _ {X : Type 0} where
  longest_at : (xs ys : List X) (b : Bool) → ltb (length xs) (length ys) ≡ b
      → max (length xs) (length ys) ≡ length (cond b ys xs)
  longest_at xs ys true e = grind (arith, nat_tests)
  longest_at xs ys false e = grind (arith, nat_tests)

  pub longest : (xs ys : List X) → max (length xs) (length ys) ≡ length (longer xs ys)
  longest xs ys = longest_at xs ys (ltb (length xs) (length ys)) refl

module _ {M S A : Type 0} where
  abbrev pub Rests : Mine M S A → ℕ → Type 0
  Rests m n = (m.0.stage ≡ Idle) × (m.1 ≡ []) × (n ≡ length m.0.seen)
      × IsNumbered m.0.number m.0.stride m.0.seen

  pub first_rests : (m m' : Mine M S A) (n : ℕ) → m' ≡ (first_half m.0, m.1) → Rests m n
      → Rests m' n
  first_rests m m' n is h = subst (λ (z : Mine M S A). Rests z n) (sym is)
      (h.0, h.1, h.2, numbered_first m.0.number m.0.stride m.0.seen h.3)

  pub second_rests : (m m' : Mine M S A) (n : ℕ) → m' ≡ (second_half m.0, []) → Rests m n
      → Rests m' n
  second_rests m m' n is h = subst (λ (z : Mine M S A). Rests z n) (sym is)
      (refl, refl, h.2, numbered_second m.0.number m.0.stride m.0.seen h.3)

  -- the stage of a seat that was just joined with another
  pub joined_stage : (m m' : Mine M S A) (w : View M S A) → m' ≡ (joined m.0 w, m.1)
      → m'.0.stage ≡ Joined m.0.seen w.seen w.number w.stride
  joined_stage m m' w is = ap (λ (z : Mine M S A). z.0.stage) is

  -- a seat m, which was joined with one of the view w and then settled
  pub record AreJoined (m m'' : Mine M S A) (w : View M S A) : Type 0 where
    pub is : m'' ≡ (record m.0 { seen = longer m.0.seen w.seen; stage = Idle }, m.1)
    pub first : IsPrefix m.0.seen m''.0.seen
    pub second : IsPrefix w.seen m''.0.seen
    pub own : HasNoFurther m.0.number m.0.stride m.0.seen m''.0.seen
    pub theirs : HasNoFurther w.number w.stride w.seen m''.0.seen

  pub are_joined : (m m' m'' : Mine M S A) (w : View M S A) → m' ≡ (joined m.0 w, m.1)
      → Merged m'.0.number m'.0.stride w.number w.stride m'.0.seen m.0.seen w.seen
      × (m'' ≡ (record m'.0 { stage = Idle }, m'.1)) → AreJoined m m'' w
  are_joined m m' m'' w is told =
      let all = told.1 ∙ (λ i. (record (is i).0 { stage = Idle }, (is i).1)) in
      let merged = subst (λ (z : Mine M S A).
      Merged z.0.number z.0.stride w.number w.stride z.0.seen m.0.seen w.seen) is told.0 in
      let seen : m''.0.seen ≡ longer m.0.seen w.seen = ap (λ (z : Mine M S A). z.0.seen) all in
      record {
        is = all;
        first = subst (λ (l : List (Call S A)). IsPrefix m.0.seen l) (sym seen) merged.first;
        second = subst (λ (l : List (Call S A)). IsPrefix w.seen l) (sym seen) merged.second;
        own = λ n o. ap (calls_by n) seen ∙ merged.own n o;
        theirs = λ n o. ap (calls_by n) seen ∙ merged.theirs n o;
      }

  -- the seat after the load that settles it
  pub settled : (m m' m'' : Mine M S A) (w : View M S A) → m' ≡ (joined m.0 w, m.1)
      → ((before other : List (Call S A)) (n s : ℕ) → m'.0.stage ≡ Joined before other n s
      → Merged m'.0.number m'.0.stride n s m'.0.seen before other
      × (m'' ≡ (record m'.0 { stage = Idle }, m'.1)))
      → AreJoined m m'' w
  settled m m' m'' w is told =
      are_joined m m' m'' w is (told m.0.seen w.seen w.number w.stride (joined_stage m m' w is))

  pub joined_rests : (m m'' : Mine M S A) (w : View M S A) (n k : ℕ) → AreJoined m m'' w → Rests m n
      → k ≡ length w.seen → Rests m'' (max n k)
  joined_rests m m'' w n k all h long = let Q : Mine M S A
      → Type 0 = λ z. ((q : ℕ) → q % m.0.stride ≡ m.0.number
      → calls_by q z.0.seen ≡ calls_by q m.0.seen) → Rests z (max n k) in
      subst Q (sym all.is) (λ own. (
        refl,
        h.1,
        (λ i. max (h.2 i) (long i)) ∙ longest m.0.seen w.seen,
        numbered_on m.0.number m.0.stride m.0.seen (longer m.0.seen w.seen) h.3 (λ q o _. own q o),
      )) all.own
