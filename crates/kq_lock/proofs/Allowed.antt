-- The steps of the lock, as the table asks for them.
use Rattle.std.proofs.Common.{◌≡◌, ℕ, ◌+◌, ◌<◌, ◌⊎◌, eqb, List, [], ◌∷◌, ◌++◌, length, Some}
use mathlib.Core.Option.{none}
use prog.Atomic.{either}
use Rattle.atomic_table.specs.Table.{step, Allows}
use Rattle.kq_lock.specs.declared.entry.Entry.{Entry}
use Rattle.kq_lock.specs.declared.view.Call.{Call}
use Rattle.kq_lock.specs.declared.kept.Kept.{Kept}
use Rattle.kq_lock.specs.declared.view.Stage.TheVariants.{Idle, Joined, Waits, Holds, Raised}
use Rattle.kq_lock.specs.Calls.{plain}
use Rattle.kq_lock.specs.Turns.{Mine, Turned, LooksAtTicket, LooksAtTurn, Draws, Seizes, Enters}
use Rattle.kq_lock.specs.Turns.{Raises, PassesOn, Settles}
use Rattle.kq_lock.proofs.Keeping.{moves}
use Rattle.kq_lock.proofs.Looking.{looks_at_ticket, looks_at_turn, draws, settles}
use Rattle.kq_lock.proofs.Turning.{enters, seizes}
use Rattle.kq_lock.proofs.Passing.{raises, passes_on}

module _ {M S A : Type 0} (leads : M → S → A → M → Type 0) (opening : M) (last slots id : ℕ)
    (me : Mine M S A) (one : slots ≡ 1) where
  pub may_look_at_ticket : me.0.stage ≡ Idle
      → Allows (Turned leads opening last) slots id me 1 (λ n. n)
      (LooksAtTicket (step slots 1 0 0 none) me)
  may_look_at_ticket idle = moves leads opening last slots id me 1 (λ n. n)
      (LooksAtTicket (step slots 1 0 0 none) me) one
      (looks_at_ticket leads opening last slots id me idle)

  pub may_look_at_turn : Allows (Turned leads opening last) slots id me 2 (λ n. n)
      (LooksAtTurn (step slots 2 0 0 none) me)
  may_look_at_turn = moves leads opening last slots id me 2 (λ n. n)
      (LooksAtTurn (step slots 2 0 0 none) me) one (looks_at_turn leads opening last slots id me)

  pub may_settle : (before other : List (Call S A)) (n s : ℕ) → me.0.stage ≡ Joined before other n s
      → Allows (Turned leads opening last) slots id me 0 (λ n. n)
      (Settles (step slots 0 0 0 none) me)
  may_settle before other n s is = moves leads opening last slots id me 0 (λ n. n)
      (Settles (step slots 0 0 0 none) me) one
      (settles leads opening last slots id me before other n s is)

  pub may_draw : (t : ℕ) → me.0.stage ≡ Idle → t < me.0.last
      → Allows (Turned leads opening last) slots id me 1 (λ n. either (eqb n t) (t + 1) n)
      (Draws (step slots 1 t (t + 1) none) me)
  may_draw t idle lt = moves leads opening last slots id me 1 (λ n. either (eqb n t) (t + 1) n)
      (Draws (step slots 1 t (t + 1) none) me) one (draws leads opening last slots id me t idle lt)

  pub may_seize : (t : ℕ) → me.0.stage ≡ Idle → t < me.0.last → me.0.bound ≡ t
      → Allows (Turned leads opening last) slots id me 1 (λ n. either (eqb n t) (t + 1) n)
      (Seizes leads (step slots 1 t (t + 1) none) me)
  may_seize t idle lt bound = moves leads opening last slots id me 1
      (λ n. either (eqb n t) (t + 1) n) (Seizes leads (step slots 1 t (t + 1) none) me) one
      (seizes leads opening last slots id me t idle lt bound)

  pub may_enter : (t : ℕ) → me.0.stage ≡ Waits t
      → Allows (Turned leads opening last) slots id me 2 (λ n. n)
      (Enters leads (step slots 2 0 0 none) me)
  may_enter t waits = moves leads opening last slots id me 2 (λ n. n)
      (Enters leads (step slots 2 0 0 none) me) one (enters leads opening last slots id me t waits)

  pub may_raise : (t : ℕ) (v : M) (log : List (Call S A)) (k : Kept M S A) (e : Entry S A) (n : ℕ)
      → me.0.stage ≡ Holds t v log → me.1 ≡ (0, Some k) ∷ [] → k.history.items ≡ plain log ++ e ∷ []
      → leads v e.step e.answer k.value → n ≡ length log + 1
      → Allows (Turned leads opening last) slots id me 0 (λ _. n)
      (λ _. Raises (step slots 0 n 0 none) me n)
  may_raise t v log k e n holds slot items lead long = moves leads opening last slots id me 0
      (λ _. n) (λ _. Raises (step slots 0 n 0 none) me n) one
      (raises leads opening last slots id me t v log k e n holds slot items lead long)

  pub may_pass_on : (t : ℕ) (v : M) (log : List (Call S A)) (k : Kept M S A) (n : ℕ)
      → (me.0.stage ≡ Holds t v log) ⊎ (me.0.stage ≡ Raised t v log) → me.1 ≡ (0, Some k) ∷ []
      → k.value ≡ v → k.history.items ≡ plain log → n ≡ t + 1
      → Allows (Turned leads opening last) slots id me 2 (λ _. n)
      (λ _. PassesOn (step slots 2 n 0 none) me n)
  may_pass_on t v log k n stage slot value items next = moves leads opening last slots id me 2
      (λ _. n) (λ _. PassesOn (step slots 2 n 0 none) me n) one
      (passes_on leads opening last slots id me t v log k n stage slot value items next)
