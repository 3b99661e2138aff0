-- How often a timer expires and when it does so next, where it does so once and where it goes on.
use Rattle.std.proofs.Common.{◌≡◌, ℕ, zero, suc, ◌+◌, ◌-◌, ◌%◌, ◌^◌, ◌<◌, ◌≤◌, max, Bool, true, false, cond, ◌&&◌, eqb, leb, ltb, pos, ◌⊎◌, inl, inr, refl, sym, ap, ap₂, ◌∙◌, arith}
use Rattle.std.proofs.lemmas.Bool.{cases_lt, le-leb, lt-leb, lt-ltb, le-ltb, eq-eqb, ne_eqb, and_left, and_right, and_from, eqb-true, true≢false}
use Rattle.std.proofs.lemmas.Bool.Decides.{nat_tests}
use Rattle.std.proofs.lemmas.Int.{ints}
use Rattle.kq_model.specs.Ticks.{Ticking, last_moment, is_among_first, is_tick, expires}
use Rattle.kq_model.specs.NextTicks.{counted}
use Rattle.kq_model.specs.NextTicks.{ticks_between, next_tick, IsNextTick}
use Rattle.kq_model.proofs.Ticks.{periods, ticks_between-periods, moment_after, moment_after-later, moment_after-tick, moment_after-least}
use Rattle.kq_model.proofs.TicksFirst.{next_tick-found, next_tick-none}
use Rattle.kq_model.proofs.TicksOnce.{expires-once, expires-often, counted-single}
use Rattle.kq_timer.specs.Once.{once_after}
use Rattle.kq_timer.proofs.NextTick.{moment_after-code}

-- ---- at one moment alone

-- of the moments after 0 it passes this one alone
pub IsSingle : (ℕ → Bool) → ℕ → Type 0
IsSingle test single = (m : ℕ) → 0 < m → test m ≡ eqb m single

pub once-single : (t : Ticking) → IsSingle (expires true t) (t.start + t.period)
unfolding IsSingle
once-single t = expires-once t

eqb-turned : (a b : ℕ) → eqb a b ≡ eqb b a
eqb-turned a b = grind (arith, nat_tests)

pub still-single : (t : Ticking) → t.period ≡ 0 → IsSingle (expires false t) (t.start + t.period)
unfolding IsSingle is_tick
still-single t none m later =
    expires-often t m ∙ ap (λ b. cond b (eqb t.start m) (is_among_first m t m)) (eq-eqb t.period 0 none)
    ∙ eqb-turned t.start m ∙ ap (eqb m) (sym nothing)
  where
    nothing : t.start + t.period ≡ t.start
    nothing = omega (arith, none)

module _ (test : ℕ → Bool) (single : ℕ) (is : IsSingle test single) where
  none_in : (from m : ℕ) → (m ≡ single → ⊥) → 0 < m → test m ≡ false
  unfolding IsSingle
  none_in from m other later = is m later ∙ ne_eqb m single other

  pub single-next : (from : ℕ) → from ≤ last_moment → next_tick test from ≡ once_after single from
  unfolding IsSingle
  single-next from begun = by_place (cases_lt from single) (cases_lt last_moment single)
    where
      by_place : (from < single) ⊎ (single ≤ from) → (last_moment < single) ⊎ (single ≤ last_moment) → next_tick test from ≡ once_after single from
      by_place (inl later) (inr in_time) =
          next_tick-found test from single in_time (record {
            after = omega (arith, ints, later);
            tick = is single (omega (arith, later)) ∙ eq-eqb single single refl;
            least = λ m after earlier. none_in from m (λ e. omega (arith, e, earlier)) (omega (arith, ints, after));
          })
          ∙ sym (ap (λ b. cond b single (suc last_moment)) (and_from _ _ (lt-ltb from single later) (le-leb single last_moment in_time)))
      by_place (inl later) (inl late) =
          next_tick-none test from begun (λ m after in_time. none_in from m (λ e. omega (arith, e, in_time, late)) (omega (arith, ints, after)))
          ∙ sym (ap (λ b. cond b single (suc last_moment)) (and_right _ _ (lt-leb single last_moment late)))
      by_place (inr over) _ =
          next_tick-none test from begun (λ m after in_time. none_in from m (λ e. omega (arith, ints, e, after, over)) (omega (arith, ints, after)))
          ∙ sym (ap (λ b. cond b single (suc last_moment)) (and_left _ _ (le-ltb from single over)))

  reached : (from to : ℕ) → to ≤ last_moment → leb (once_after single from) to ≡ (ltb from single && leb single to)
  reached from to within = by_place (cases_lt from single) (cases_lt last_moment single)
    where
      by_place : (from < single) ⊎ (single ≤ from) → (last_moment < single) ⊎ (single ≤ last_moment) → leb (once_after single from) to ≡ (ltb from single && leb single to)
      by_place (inl later) (inr in_time) =
          ap (λ b. leb (cond b single (suc last_moment)) to) (and_from _ _ (lt-ltb from single later) (le-leb single last_moment in_time))
          ∙ sym (ap (λ b. b && leb single to) (lt-ltb from single later))
      by_place (inl later) (inl late) =
          ap (λ b. leb (cond b single (suc last_moment)) to) (and_right _ _ (lt-leb single last_moment late))
          ∙ lt-leb (suc last_moment) to (omega (arith, within))
          ∙ sym (and_right _ _ (lt-leb single to (omega (arith, late, within))))
      by_place (inr over) _ =
          ap (λ b. leb (cond b single (suc last_moment)) to) (and_left _ _ (le-ltb from single over))
          ∙ lt-leb (suc last_moment) to (omega (arith, within))
          ∙ sym (and_left _ _ (le-ltb from single over))

  pub single-ticks : (from to : ℕ) → from ≤ to → to ≤ last_moment → cond (leb (once_after single from) to) 1 0 ≡ ticks_between test from to
  unfolding IsSingle
  single-ticks from to ordered within =
      let whole : from + (to - from) ≡ to = omega (arith, ordered) in
      ap (λ b. cond {A = ℕ} b 1 0) (reached from to within)
      ∙ ap (λ n. cond {A = ℕ} (ltb from single && leb single n) 1 0) (sym whole)
      ∙ sym (counted-single test single from (to - from) is)

-- ---- one period after the other

pub counted-alike : (f g : ℕ → Bool) → ((m : ℕ) → f m ≡ g m) → (from n : ℕ) → counted f from n ≡ counted g from n
unfolding counted
counted-alike f g alike from zero = refl
counted-alike f g alike from (suc n) = ap₂ (λ a b. a + cond {A = ℕ} b 1 0) (counted-alike f g alike from n) (alike (from + suc n))

pub periodic-ticks : (t : Ticking) (from to : ℕ) → 0 < t.period → from ≤ to → periods t to - periods t from ≡ ticks_between (expires false t) from to
periodic-ticks t from to positive ordered =
    sym (counted-alike (expires false t) (is_tick t) (expires-often t) from (to - from) ∙ ticks_between-periods t from to positive ordered)

module _ (t : Ticking) (from : ℕ) (positive : 0 < t.period) where
  next_found : IsNextTick (expires false t) (pos from) (moment_after t from)
  next_found = record {
    after = let later = moment_after-later t from positive in omega (arith, ints, later);
    tick = expires-often t (moment_after t from) ∙ moment_after-tick t from positive;
    least = λ m after earlier. expires-often t m ∙ moment_after-least t from m positive (omega (arith, ints, after)) earlier;
  }

  pub periodic-next : moment_after t from ≤ last_moment → next_tick (expires false t) from ≡ moment_after t from
  periodic-next in_time = next_tick-found (expires false t) from (moment_after t from) in_time next_found

  pub periodic-never : from ≤ last_moment → last_moment < moment_after t from → next_tick (expires false t) from ≡ suc last_moment
  periodic-never begun late =
      next_tick-none (expires false t) from begun
      (λ m after in_time. expires-often t m ∙ moment_after-least t from m positive (omega (arith, ints, after)) (omega (arith, in_time, late)))

  -- as the code has it
  pub moment_after-found : (later : ℕ) → later ≡ max from t.start → later - (later - t.start) % t.period + t.period ≡ moment_after t from
  moment_after-found later e = moment_after-code t from later e

-- what has no place in 64 bits is past the last moment
pub too_far : (moment : ℕ) → (moment < 2 ^ 64 → ⊥) → last_moment < moment
too_far moment never = by_place (cases_lt moment (2 ^ 64))
  where
    by_place : (moment < 2 ^ 64) ⊎ (2 ^ 64 ≤ moment) → last_moment < moment
    by_place (inl h) = absurd (never h)
    by_place (inr h) = omega (arith, h)

-- ---- whether it has a period

pub no-period : (period : ℕ) → eqb period 0 ≡ true → period ≡ 0
no-period period is = eqb-true period 0 is

pub has-period : (period : ℕ) → eqb period 0 ≡ false → 0 < period
has-period zero is = absurd (true≢false is)
has-period (suc n) is = omega arith
