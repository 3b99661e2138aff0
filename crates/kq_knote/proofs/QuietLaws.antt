-- No timer expires in a span of the clock: also after a knote came, was replaced or went, and in each span within it.
use Rattle.std.proofs.Common.{◌≡◌, ℕ, ◌<◌, ◌≤◌, min, not, List, [], ◌∷◌, ◌++◌, ◌⊎◌, inl, inr, sym, ◌∙◌, subst, arith}
use Rattle.std.proofs.lemmas.Bool.{cases_lt, cond_both, true≢false}
use Rattle.kq_model.specs.declared.key.Key.{Key}
use Rattle.kq_model.specs.Clock.{expires_at}
use Rattle.kq_model.specs.Knote.{key_eq, with_knote, without_knote}
use Rattle.kq_model.specs.Tallied.{Knote}
use Rattle.kq_model.specs.Ticks.{last_moment}
use Rattle.kq_model.specs.NextTicks.{next_tick}
use Rattle.kq_model.specs.WalkedAtOnce.{IsFirstPassing}
use Rattle.kq_model.proofs.TicksFirst.{next_tick-is}
use Rattle.kq_model.proofs.TimerWalkQueue.{All-like}
use Rattle.kq_knote.specs.Quiet.{AreQuiet, AreLater}

module _ (since : ℕ) where
  abbrev next : Knote → ℕ
  next k = next_tick (expires_at k) since

  quiet-less : (fewer soonest : ℕ) (ks : List Knote) → fewer ≤ soonest → AreQuiet since soonest ks → AreQuiet since fewer ks
  quiet-less fewer soonest ks less all = All-like (λ k. soonest ≤ next k) (λ k. fewer ≤ next k) (λ k h. omega (arith, h, less)) ks all

  quiet-push : (soonest : ℕ) (ks : List Knote) (k : Knote) → AreQuiet since soonest ks → soonest ≤ next k → AreQuiet since soonest (ks ++ k ∷ [])
  quiet-push soonest [] k all here = (here, tt)
  quiet-push soonest (x ∷ ks) k all here = (all.0, quiet-push soonest ks k all.1 here)

  quiet-with : (soonest : ℕ) (k : Knote) (ks : List Knote) → AreQuiet since soonest ks → soonest ≤ next k → AreQuiet since soonest (with_knote k ks)
  quiet-with soonest k [] all here = tt
  quiet-with soonest k (x ∷ ks) all here = (
    cond_both (key_eq k.key x.key) k x (λ (n : Knote). soonest ≤ next n) (λ _. here) (λ _. all.0),
    quiet-with soonest k ks all.1 here,
  )

  pub quiet-without : (soonest : ℕ) (gone : Key) (ks : List Knote) → AreQuiet since soonest ks → AreQuiet since soonest (without_knote gone ks)
  quiet-without soonest gone [] all = tt
  quiet-without soonest gone (x ∷ ks) all =
      cond_both (not (key_eq gone x.key)) (x ∷ without_knote gone ks) (without_knote gone ks) (AreQuiet since soonest)
      (λ _. (all.0, quiet-without soonest gone ks all.1)) (λ _. quiet-without soonest gone ks all.1)

  -- as the code has it: the lesser of the two moments
  pub quiet-attached : (soonest first least : ℕ) (ks after : List Knote) (k : Knote) → AreQuiet since soonest ks → first ≡ next k → least ≡ min soonest first
      → after ≡ ks ++ k ∷ [] → AreQuiet since least after
  quiet-attached soonest first least ks after k all is lesser became =
      subst (AreQuiet since least) (sym became)
      (quiet-push least ks k (quiet-less least soonest ks (omega (arith, lesser)) all) (omega (arith, lesser, is)))

  pub quiet-modified : (soonest least : ℕ) (ks after : List Knote) (k : Knote) → AreQuiet since soonest ks → least ≤ soonest → least ≤ next k
      → after ≡ with_knote k ks → AreQuiet since least after
  quiet-modified soonest least ks after k all less here became =
      subst (AreQuiet since least) (sym became) (quiet-with least k ks (quiet-less least soonest ks less all) here)

-- ---- a span within it

later-one : (since soonest from to : ℕ) (k : Knote) → since ≤ last_moment → from ≤ to → to ≤ last_moment → since ≤ from → to < soonest
    → soonest ≤ next_tick (expires_at k) since → to < next_tick (expires_at k) from
later-one since soonest from to k begun ordered within after before quiet = by_place (cases_lt to (next_tick (expires_at k) from))
  where
    is : IsFirstPassing (expires_at k) from last_moment (next_tick (expires_at k) from)
    is = next_tick-is (expires_at k) from (omega (arith, ordered, within))

    was : IsFirstPassing (expires_at k) since last_moment (next_tick (expires_at k) since)
    was = next_tick-is (expires_at k) since begun

    by_place : (to < next_tick (expires_at k) from) ⊎ (next_tick (expires_at k) from ≤ to) → to < next_tick (expires_at k) from
    by_place (inl h) = h
    by_place (inr h) =
        absurd (true≢false (sym (is.passes (omega (arith, h, within)))
        ∙ was.least (next_tick (expires_at k) from) (omega (arith, is.after, after)) (omega (arith, h, before, quiet)) (omega (arith, h, within))))

pub later-all : (since soonest from to : ℕ) (ks : List Knote) → since ≤ last_moment → from ≤ to → to ≤ last_moment → since ≤ from → to < soonest
    → AreQuiet since soonest ks → AreLater from to ks
later-all since soonest from to [] begun ordered within after before all = tt
later-all since soonest from to (k ∷ ks) begun ordered within after before all = (
  later-one since soonest from to k begun ordered within after before all.0,
  later-all since soonest from to ks begun ordered within after before all.1,
)
