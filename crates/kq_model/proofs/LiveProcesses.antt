-- Processes that are live stay live: whatever starts, exits or is ignored, but for the exit of their own.
use Rattle.std.proofs.Common.{◌≡◌, ◌∙◌, ℕ, Bool, true, false, cond, not, ◌&&◌, ◌||◌, eqb, ltb, List, [], ◌∷◌, filter, Some, refl, sym, ap}
use Rattle.std.proofs.lemmas.Bool.{cond_both, eq-eqb, or_right, and_left}
use Rattle.std.proofs.lemmas.Bool.Decides.{nat_tests}
use Rattle.std.proofs.lemmas.List.Elements.{All-nil, All-cons, All-head, All-tail}
use Rattle.std.proofs.Common.{arith}
use Rattle.std.specs.Option.{is_none}
use Rattle.std.specs.Prelude.{All}
use Rattle.kq_model.specs.CountedWorld.{IsOwned}
use Rattle.kq_model.specs.Descriptors.{Descriptor}
use Rattle.kq_model.specs.Processes.{Process, Start, Exit, Disposition, disposed, is_live, started, was_used, with_start, without_process, with_disposition}
use Rattle.kq_model.proofs.KnoteLaws.{by_test}

abbrev is_live_one : ℕ → Process → Bool
is_live_one pid p = eqb p.pid pid && is_none p.exited

either : (here behind after : Bool) → (behind ≡ true → after ≡ true) → here || behind ≡ true → here || after ≡ true
either true behind after step live = refl
either false behind after step live = step live

-- ---- a process starts

pub live-with_start : (s : Start) (pid : ℕ) (ps : List Process) → is_live pid ps ≡ true → is_live pid (with_start s ps) ≡ true
unfolding is_live with_start
live-with_start s pid [] live = absurd (cc)
live-with_start s pid (p ∷ ps) live =
    cond_both (ltb s.pid p.pid) (started s ∷ p ∷ ps) (p ∷ with_start s ps) (λ (t : List Process). is_live pid t ≡ true)
    (λ _. or_right (is_live_one pid (started s)) (is_live pid (p ∷ ps)) live)
    (λ _. either (is_live_one pid p) (is_live pid ps) (is_live pid (with_start s ps)) (live-with_start s pid ps) live)

pub live-started : (s : Start) (ps : List Process) → is_live s.pid (with_start s ps) ≡ true
unfolding is_live with_start
live-started s [] = ap (λ b. (b && true) || false) (eq-eqb s.pid s.pid refl)
live-started s (p ∷ ps) =
    cond_both (ltb s.pid p.pid) (started s ∷ p ∷ ps) (p ∷ with_start s ps) (λ (t : List Process). is_live s.pid t ≡ true)
    (λ _. ap (λ b. (b && true) || is_live s.pid (p ∷ ps)) (eq-eqb s.pid s.pid refl))
    (λ _. or_right (is_live_one s.pid p) (is_live s.pid (with_start s ps)) (live-started s ps))

-- a pid that was never used is of no live process
pub unused-live : (pid : ℕ) (ps : List Process) → was_used pid ps ≡ false → is_live pid ps ≡ false
unfolding is_live was_used
unused-live pid [] unused = refl
unused-live pid (p ∷ ps) unused =
    by_test (λ b. b || was_used pid ps ≡ false → (b && is_none p.exited) || is_live pid ps ≡ false) (eqb p.pid pid)
    (λ _ impossible. absurd (cc)) (λ _ later. unused-live pid ps later) unused

-- ---- a process exits

another : (p gone pid : ℕ) → eqb p gone ≡ true → eqb pid gone ≡ false → eqb p pid ≡ false
another p gone pid = grind (arith, nat_tests)

second : (here behind : Bool) → here ≡ false → here || behind ≡ true → behind ≡ true
second here behind away live = sym (ap (λ b. b || behind) away) ∙ live

pub live-without_process : (pid : ℕ) (e : Exit) (ps : List Process) → eqb pid e.pid ≡ false → is_live pid ps ≡ true
    → is_live pid (without_process (Some e) ps) ≡ true
unfolding is_live without_process
live-without_process pid e [] other live = absurd (cc)
live-without_process pid e (p ∷ ps) other live =
    by_test (λ b. eqb p.pid e.pid ≡ b → is_live pid (cond b (record p { exited = Some e.status }) p ∷ without_process (Some e) ps) ≡ true) (eqb p.pid e.pid)
    (λ _ gone. or_right (is_live_one pid (record p { exited = Some e.status })) (is_live pid (without_process (Some e) ps))
    (live-without_process pid e ps other
    (second (is_live_one pid p) (is_live pid ps) (and_left (eqb p.pid pid) (is_none p.exited) (another p.pid e.pid pid gone other)) live)))
    (λ _ _. either (is_live_one pid p) (is_live pid ps) (is_live pid (without_process (Some e) ps)) (live-without_process pid e ps other) live) refl

-- those that do not belong to it still belong to live processes
pub owned-without_process : (e : Exit) (ps : List Process) (es : List Descriptor) → All (IsOwned ps) es
    → All (IsOwned (without_process (Some e) ps)) (filter (λ d. not (eqb d.pid e.pid)) es)
owned-without_process e ps [] owned = All-nil (IsOwned (without_process (Some e) ps))
owned-without_process e ps (d ∷ es) owned =
    by_test (λ b. eqb d.pid e.pid ≡ b → All (IsOwned (without_process (Some e) ps)) (cond (not b) (d ∷ filter (λ d. not (eqb d.pid e.pid)) es) (filter (λ d. not (eqb d.pid e.pid)) es)))
    (eqb d.pid e.pid)
    (λ _ _. owned-without_process e ps es (All-tail (IsOwned ps) d es owned))
    (λ _ other. All-cons (IsOwned (without_process (Some e) ps)) d (filter (λ d. not (eqb d.pid e.pid)) es)
    (live-without_process d.pid e ps other (All-head (IsOwned ps) d es owned))
    (owned-without_process e ps es (All-tail (IsOwned ps) d es owned))) refl

-- ---- a signal is ignored, or no longer

pub live-with_disposition : (pid : ℕ) (d : Disposition) (ps : List Process) → is_live pid (with_disposition (Some d) ps) ≡ is_live pid ps
unfolding is_live with_disposition
live-with_disposition pid d [] = refl
live-with_disposition pid d (p ∷ ps) =
    by_test (λ b. is_live pid (cond b (record p { ignores = disposed d.signal d.ignore p.ignores }) p ∷ with_disposition (Some d) ps) ≡ is_live pid (p ∷ ps)) (eqb p.pid d.pid)
    (λ _. ap (λ b. is_live_one pid p || b) (live-with_disposition pid d ps))
    (λ _. ap (λ b. is_live_one pid p || b) (live-with_disposition pid d ps))
