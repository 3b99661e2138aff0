-- How often a timer expires, from one moment to the next.
use Rattle.std.proofs.Common.{◌≡◌, ◌≢◌, ℕ, zero, suc, ◌+◌, ◌-◌, ◌*◌, ◌<◌, ◌≤◌, Bool, true, false, cond, ◌⊎◌, inl, inr, refl, sym, ap, ◌∙◌, arith}
use Rattle.std.proofs.lemmas.Bool.{and_right, cases_order, true≢false}
use Rattle.std.proofs.Math.Nat.{le-mul_of_pos_right}
use Rattle.kq_model.specs.Clock.{expires_at, ticking}
use Rattle.kq_model.specs.Knote.{is_timer}
use Rattle.kq_model.specs.Tallied.{Knote}
use Rattle.kq_model.specs.Ticks.{is_tick}
use Rattle.kq_model.specs.NextTicks.{counted}
use Rattle.kq_model.specs.NextTicks.{ticks_between}
use Rattle.kq_model.proofs.Ticks.{is_tick-false}

at_most_one : (n most : ℕ) (b : Bool) → n ≤ most → n + cond b 1 0 ≤ suc most
at_most_one n most true within = omega arith
at_most_one n most false within = omega arith

pub counted-most : (test : ℕ → Bool) (from n : ℕ) → counted test from n ≤ n
unfolding counted
counted-most test from zero = omega arith
counted-most test from (suc n) = at_most_one (counted test from n) n (test (from + suc n)) (counted-most test from n)

pub counted-none : (test : ℕ → Bool) (from n : ℕ) → ((m : ℕ) → m ≤ from + n → test m ≡ false) → counted test from n ≡ 0
unfolding counted
counted-none test from zero none = refl
counted-none test from (suc n) none =
    rw (none (from + suc n) (omega arith), counted-none test from n (λ m within. none m (omega arith))) refl

-- one moment more
pub ticks-next : (test : ℕ → Bool) (since now : ℕ) → since ≤ now
    → ticks_between test since (suc now) ≡ ticks_between test since now + cond (test (suc now)) 1 0
unfolding counted
ticks-next test since now ordered =
    let more : suc now - since ≡ suc (now - since) = omega arith in
    let there : since + suc (now - since) ≡ suc now = omega arith in
    ap (counted test since) more
    ∙ ap (λ m. counted test since (now - since) + cond (test m) 1 0) there

pub ticks-most : (test : ℕ → Bool) (since now : ℕ) → ticks_between test since now ≤ now
ticks-most test since now = omega (arith, counted-most test since (now - since))

-- a timer with a period expires only after its start
pub expires-after_start : (k : Knote) (m : ℕ) → 0 < k.period → m ≤ k.start → expires_at k m ≡ false
expires-after_start k m positive early =
    let none : is_tick (ticking k) m ≡ false =
    is_tick-false (ticking k) m (λ j e. absurd (omega (arith, le-mul_of_pos_right (suc j) positive))) in
    rw none (and_right (is_timer k.key.filter) _ refl)

pub ticks-unstarted : (k : Knote) (since now : ℕ) → 0 < k.period → since ≤ now → now ≤ k.start
    → ticks_between (expires_at k) since now ≡ 0
ticks-unstarted k since now positive ordered early =
    counted-none (expires_at k) since (now - since)
    (λ m within. expires-after_start k m positive (omega arith))

-- a timer without a period expires at its start alone
pub expires-at_start : (k : Knote) (m : ℕ) → k.period ≡ 0 → expires_at k m ≡ true → m ≡ k.start
expires-at_start k m still rings = by_order (cases_order m k.start)
  where
    other : ((j : ℕ) → k.start + suc j * k.period ≢ m) → m ≡ k.start
    other none =
        let no : is_tick (ticking k) m ≡ false = is_tick-false (ticking k) m none in
        absurd (true≢false (sym rings ∙ rw no (and_right (is_timer k.key.filter) _ refl)))

    moments : (j : ℕ) → k.start + suc j * k.period ≡ k.start
    moments j = let none : k.start + suc j * 0 ≡ k.start = omega arith in rw still none

    by_order : (m ≡ k.start) ⊎ ((m < k.start) ⊎ (k.start < m)) → m ≡ k.start
    by_order (inl e) = e
    by_order (inr (inl h)) = other (λ j e. absurd (omega (arith, moments j, e, h)))
    by_order (inr (inr h)) = other (λ j e. absurd (omega (arith, moments j, e, h)))

-- from a moment to itself there is none
pub ticks-none_yet : (test : ℕ → Bool) (now : ℕ) → ticks_between test now now ≡ 0
unfolding counted
ticks-none_yet test now = let none : now - now ≡ 0 = omega arith in ap (counted test now) none
