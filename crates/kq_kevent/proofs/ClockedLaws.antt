-- What a kqueue whose clock went on promises besides, and what is known of its timers then.
use Rattle.std.proofs.Common.{◌≡◌, ℤ, pos, negsuc, ◌≤ℤ◌, unsigned_abs, FitsSigned, w64, to_z, of_z, ℕ, zero, suc, ◌+◌, ◌-◌, ◌≤◌, List, [], ◌∷◌, Some, ◌⊎◌, inl, inr, sym, ap, ◌∙◌, subst, arith}
use Rattle.std.proofs.lemmas.Int.{ints, to_z-of_z}
use Rattle.kq_model.specs.Clock.{timers, waiting_of, kqueue_of_waiting, clock_from, clocked}
use Rattle.kq_model.specs.Hearing.{listed}
use Rattle.kq_model.specs.Tallying.{tallying}
use Rattle.kq_model.specs.Kqueue as kqueues
use Rattle.kq_model.specs.NamedTargets.{IsNamed}
use Rattle.kq_model.specs.Recast as recast
use Rattle.kq_model.specs.Tallied.{Knote, Kqueue}
use Rattle.kq_model.specs.Ticks.{last_moment}
use Rattle.kq_model.specs.TimerWalk.{Alarms, Waiting, walked, moment_step}
use Rattle.kq_model.specs.Views.{Views}
use Rattle.kq_model.proofs.SubjectsCall.{clocked-subjects}
use Rattle.kq_model.proofs.Tallied.{clocked-tallied}
use Rattle.kq_knote.specs.Quiet.{AreQuiet}
use Rattle.kq_model.specs.WatchedNumbers.{WatchTheirNumbers}
use Rattle.kq_kevent.specs.Ringing.{first_of, AreOutside}
use Rattle.kq_kevent.proofs.ClockLaws.{first-later}

-- ---- many steps

walked-split : {X Key : Type 0} (a : Alarms X Key) (from n m : ℕ) (w : Waiting X Key) → walked a from (n + m) w ≡ walked a (from + n) m (walked a from n w)
unfolding walked
walked-split a from n zero w = let same : n + 0 ≡ n = omega arith in ap (λ k. walked a from k w) same
walked-split a from n (suc m) w =
    let more : n + suc m ≡ suc (n + m) = omega arith in
    let at : from + suc (n + m) ≡ (from + n) + suc m = omega arith in
    ap (λ k. walked a from k w) more
    ∙ ap (λ k. moment_step a k (walked a from (n + m) w)) at
    ∙ ap (moment_step a ((from + n) + suc m)) (walked-split a from n m w)

-- a step is two steps, where it is cut
clocked-cut : (from between to : ℕ) (kq : Kqueue) → from ≤ between → between ≤ to
    → clocked (Some (record { from = from; to = to })) kq ≡ clocked (Some (record { from = between; to = to })) (clocked (Some (record { from = from; to = between })) kq)
unfolding clocked clock_from
clocked-cut from between to kq first second =
    let whole : to - from ≡ (between - from) + (to - between) = omega (arith, first, second) in
    let there : from + (between - from) ≡ between = omega (arith, first) in
    ap (λ n. kqueue_of_waiting (walked timers from n (waiting_of kq))) whole
    ∙ ap kqueue_of_waiting (walked-split timers from (between - from) (to - between) (waiting_of kq))
    ∙ ap (λ m. kqueue_of_waiting (walked timers m (to - between) (walked timers from (between - from) (waiting_of kq)))) there

-- ---- after a step

module _ (from to : ℕ) (kq after : Kqueue) (is : after ≡ clocked (Some (record { from = from; to = to })) kq) where
  pub clocked-model : (m : kqueues.Kqueue listed) → kq ≡ recast.tallied m → after ≡ recast.tallied (clocked (Some (record { from = from; to = to })) m)
  clocked-model m same = is ∙ clocked-tallied kq m same (Some (record { from = from; to = to }))

  pub clocked-steps : (between : ℕ) → from ≤ between → between ≤ to
      → after ≡ clocked (Some (record { from = between; to = to })) (clocked (Some (record { from = from; to = between })) kq)
  clocked-steps between first second = is ∙ clocked-cut from between to kq first second

  pub clocked-named : (views : Views) (owner : ℕ) → WatchTheirNumbers views owner kq → WatchTheirNumbers views owner after
  clocked-named views owner all =
      subst (λ (q : Kqueue). WatchTheirNumbers views owner q) (sym is)
      (clocked-subjects tallying (IsNamed views owner) (Some (record { from = from; to = to })) kq all)

-- a walk from a moment on finds when the next timer expires
pub quiet-after : (since soonest : ℕ) (ks : List Knote) → since ≤ last_moment → AreOutside since since soonest ks → AreQuiet since soonest ks
quiet-after since soonest [] within outside = tt
quiet-after since soonest (k ∷ ks) within outside = (here outside.0, quiet-after since soonest ks within outside.1)
  where
    here : (first_of since k ≤ since) ⊎ (soonest ≤ first_of since k) → soonest ≤ first_of since k
    here (inl past) = absurd (omega (arith, past, first-later since k within))
    here (inr later) = later

-- ---- moments as the clock gives them

-- how far one is from 0, where it comes through the bits that hold it
pub magnitude : (z : ℤ) (n : ℕ) → FitsSigned w64 z → n ≡ unsigned_abs (to_z w64 (of_z w64 z)) → n ≡ unsigned_abs z
magnitude z n fits is = is ∙ ap unsigned_abs (to_z-of_z w64 z fits)

pub not-negative : (a b : ℤ) → pos 0 ≤ℤ a → a ≤ℤ b → pos 0 ≤ℤ b
not-negative a b begun ordered = omega (arith, ints, begun, ordered)

pub moments-ordered : (a b : ℤ) → pos 0 ≤ℤ a → a ≤ℤ b → unsigned_abs a ≤ unsigned_abs b
moments-ordered (pos a) (pos b) begun ordered = omega (arith, ints, ordered)
moments-ordered (pos a) (negsuc b) begun ordered = absurd (omega (arith, ints, ordered))
moments-ordered (negsuc a) b begun ordered = absurd (omega (arith, ints, begun))

pub moment-within : (a : ℤ) → pos 0 ≤ℤ a → FitsSigned w64 a → unsigned_abs a ≤ last_moment
moment-within (pos a) begun fits = omega (arith, ints, fits)
moment-within (negsuc a) begun fits = absurd (omega (arith, ints, begun))
