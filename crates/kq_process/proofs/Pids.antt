-- The processes that a shelf of processes stands for: what is found among them, and what a put does to them.
use Rattle.std.proofs.Common.{◌≡◌, ℕ, ◌<◌, ◌≤◌, ◌==◌, Bool, true, false, ◌||◌, List, [], ◌∷◌, map, Option, Some, None, if◌then◌else◌, refl, sym, ap, subst, arith, ◌∙◌}
use Rattle.std.specs.Option.{option_map, is_some, is_none}
use Rattle.kq_model.specs.Processes as model
use Rattle.kq_model.specs.Processes.{Start, was_used, is_live, process_of, started, with_start}
use Rattle.kq_process.specs.declared.process.Process.{Process}
use Rattle.kq_process.specs.Processes.{process_in}
use Rattle.kq_process.specs.Shelf.{lookup, put, AreRising}
use Rattle.kq_process.proofs.Places.{AreAbove, above-lower, lookup-above, lookup-later, put-later, lookup-first, put-first, differ, differ-back, less-true, less-false, same, same-true}
use Rattle.kq_process.proofs.Puts.{Below, Same, Above, order, Yes, No, test}

or-none : (a b : Bool) → b ≡ false → a || b ≡ a
or-none true b h = refl
or-none false b h = h

pub above-all : (n : ℕ) (e : ℕ × Process) (es : List (ℕ × Process)) → n < e.0 → AreAbove e.0 es → AreAbove n (e ∷ es)
above-all n e es lt above = let le : n ≤ e.0 = omega arith in (lt, above-lower n e.0 es le above)

-- ---- what is found

pub process-found : (pid : ℕ) (es : List (ℕ × Process))
    → process_of pid (map process_in es) ≡ option_map (λ p. process_in (pid, p)) (lookup pid es)
unfolding process_of
process-found pid [] = refl
process-found pid (e ∷ es) = elim (test (e.0 == pid)) [
  | Yes h ↦ rw h (ap (λ m. Some (process_in (m, e.1))) (same e.0 pid h))
  | No h ↦ rw h (process-found pid es)
]

pub used-found : (pid : ℕ) (es : List (ℕ × Process)) → was_used pid (map process_in es) ≡ is_some (lookup pid es)
unfolding was_used
used-found pid [] = refl
used-found pid (e ∷ es) = elim (test (e.0 == pid)) [
  | Yes h ↦ rw h refl
  | No h ↦ rw h (used-found pid es)
]

abbrev pub is_live_at : Option Process → Bool
is_live_at None = false
is_live_at (Some p) = is_none p.exited

live-above : (pid : ℕ) (es : List (ℕ × Process)) → AreAbove pid es → is_live pid (map process_in es) ≡ false
unfolding is_live
live-above pid [] above = refl
live-above pid (e ∷ es) above = rw (differ-back pid e.0 above.0) (live-above pid es above.1)

pub live-found : (pid : ℕ) (es : List (ℕ × Process)) → AreRising es
    → is_live pid (map process_in es) ≡ is_live_at (lookup pid es)
unfolding is_live
live-found pid [] rising = refl
live-found pid (e ∷ es) rising = elim (order e.0 pid) [
  | Below lt ↦ rw (differ e.0 pid lt) (live-found pid es rising.1)
  | Same is ↦ rw (same-true e.0 pid is) (or-none _ _ (live-above pid es (subst (λ m. AreAbove m es) is rising.0)))
  | Above lt ↦ live-above pid (e ∷ es) (above-all pid e es lt rising.0)
      ∙ sym (ap is_live_at (lookup-above pid (e ∷ es) (above-all pid e es lt rising.0)))
]

-- ---- a process more

pub started-put : (s : Start) (p : Process) → process_in (s.pid, p) ≡ started s → (es : List (ℕ × Process))
    → lookup s.pid es ≡ None → with_start s (map process_in es) ≡ map process_in (put s.pid p es)
unfolding with_start
started-put s p is [] absent = ap (λ q. q ∷ []) (sym is)
started-put s p is (e ∷ es) absent = elim (order e.0 s.pid) [
  | Below lt ↦
      let le : e.0 ≤ s.pid = omega arith in
      let rest : with_start s (map process_in es)
      ≡ map process_in (put s.pid p es) = started-put s p is es (sym (lookup-later s.pid e es lt) ∙ absent) in
      rw (less-false s.pid e.0 le, differ e.0 s.pid lt) (ap (λ t. process_in e ∷ t) rest)
  | Same here ↦ let found : lookup s.pid (e ∷ es) ≡ Some e.1 = lookup-first s.pid e es here in absurd (cc)
  | Above lt ↦ rw (less-true s.pid e.0 lt) (ap (λ q. q ∷ map process_in (e ∷ es)) (sym is))
]

-- ---- a process changed

-- the process of the pid is changed, and no other
abbrev pub changed_at : ℕ → (model.Process → model.Process) → List model.Process → List model.Process
changed_at pid f ps = map (λ (q : model.Process). if q.pid == pid then f q else q) ps

changed-above : (pid : ℕ) (f : model.Process → model.Process) (es : List (ℕ × Process)) → AreAbove pid es
    → changed_at pid f (map process_in es) ≡ map process_in es
changed-above pid f [] above = refl
changed-above pid f (e ∷ es) above = rw (differ-back pid e.0 above.0)
    (ap (λ t. process_in e ∷ t) (changed-above pid f es above.1))

module _ (pid : ℕ) (p x : Process) where
  pub changed-put : (f : model.Process → model.Process) → f (process_in (pid, p)) ≡ process_in (pid, x)
      → (es : List (ℕ × Process)) → AreRising es → lookup pid es ≡ Some p
      → changed_at pid f (map process_in es) ≡ map process_in (put pid x es)
  changed-put f is [] rising found = absurd (cc)
  changed-put f is (e ∷ es) rising found = elim (order e.0 pid) [
    | Below lt ↦
        rw (differ e.0 pid lt)
        (ap (λ t. process_in e ∷ t) (changed-put f is es rising.1 (sym (lookup-later pid e es lt) ∙ found)))
        ∙ sym (ap (map process_in) (put-later pid x e es lt))
    | Same here ↦
        let first : lookup pid (e ∷ es) ≡ Some e.1 = lookup-first pid e es here in
        let thing : e.1 ≡ p = cc in
        let head : f (process_in e) ≡ process_in (pid, x) = ap (λ m. f (process_in (m, e.1))) here
        ∙ ap (λ q. f (process_in (pid, q))) thing ∙ is in
        rw (same-true e.0 pid here)
        (ap (λ q. q ∷ changed_at pid f (map process_in es)) head
        ∙ ap (λ t. process_in (pid, x) ∷ t) (changed-above pid f es (subst (λ m. AreAbove m es) here rising.0)))
        ∙ sym (ap (map process_in) (put-first pid x e es here))
    | Above lt ↦ let none : lookup pid (e ∷ es) ≡ None = lookup-above pid (e ∷ es) (above-all pid e es lt rising.0) in
        absurd (cc)
  ]

  -- what contracts see of the process stays
  pub kept-put : process_in (pid, x) ≡ process_in (pid, p) → (es : List (ℕ × Process)) → AreRising es
      → lookup pid es ≡ Some p → map process_in (put pid x es) ≡ map process_in es
  kept-put is [] rising found = absurd (cc)
  kept-put is (e ∷ es) rising found = elim (order e.0 pid) [
    | Below lt ↦ ap (map process_in) (put-later pid x e es lt)
        ∙ ap (λ t. process_in e ∷ t) (kept-put is es rising.1 (sym (lookup-later pid e es lt) ∙ found))
    | Same here ↦
        let first : lookup pid (e ∷ es) ≡ Some e.1 = lookup-first pid e es here in
        let thing : p ≡ e.1 = cc in
        ap (map process_in) (put-first pid x e es here)
        ∙ ap (λ q. q ∷ map process_in es)
        (is ∙ ap (λ q. process_in (pid, q)) thing ∙ ap (λ m. process_in (m, e.1)) (sym here))
    | Above lt ↦ let none : lookup pid (e ∷ es) ≡ None = lookup-above pid (e ∷ es) (above-all pid e es lt rising.0) in
        absurd (cc)
  ]
