-- One step of the loops that hold or release descriptors one after the other.
use Rattle.std.proofs.Common.{◌≡◌, ◌∙◌, ℕ, suc, ◌+◌, ◌<◌, List, [], ◌∷◌, ◌++◌, Option, Some, None, cond, length, get_or, drop, filter, append_assoc, refl, ap}
use Rattle.std.specs.Option.{is_some}
use Rattle.kq_model.specs.declared.object.Hint.{Hint}
use Rattle.kq_model.specs.declared.object.Named.{Named}
use Rattle.kq_model.specs.declared.object.Target.{Target}
use Rattle.kq_model.specs.Holding.{release, release_hint, release_hints, option_list}
use Rattle.kq_model.specs.Holders.{hold, all_held, all_released}
use Rattle.kq_model.specs.Objects.{Objects, counted}
use Rattle.kq_objects.specs.Holding.{CanHold, CanRelease}
use Rattle.kq_process.specs.Counts.{CanHoldEach, CanReleaseEach}
use Rattle.kq_process.specs.Slots.{entry_of, filled, with_entry}
use Rattle.kq_process.proofs.Filled.{filled-next}

-- what a read past the end would give
abbrev pub nothing : ℕ × Option Named
nothing = (0, None)

-- a slot that is full, with its pair first
pub next-full : (ss : List (ℕ × Option Named)) (i : ℕ) → i < length ss → (n : Named) → (get_or ss i nothing).1 ≡ Some n
    → filled (drop i ss) ≡ ((get_or ss i nothing).0, n) ∷ filled (drop (i + 1) ss)
next-full ss i below n is =
    filled-next ss i nothing below ∙ ap (λ o. entry_of (get_or ss i nothing).0 o ++ filled (drop (i + 1) ss)) is

-- a slot that is empty
pub next-empty : (ss : List (ℕ × Option Named)) (i : ℕ) → i < length ss → (get_or ss i nothing).1 ≡ None
    → filled (drop i ss) ≡ filled (drop (i + 1) ss)
next-empty ss i below is =
    filled-next ss i nothing below ∙ ap (λ o. entry_of (get_or ss i nothing).0 o ++ filled (drop (i + 1) ss)) is

pub count-full : (ss : List (ℕ × Option Named)) → length (filter (λ s. is_some s.1) ss) ≡ length (filled ss)
count-full [] = refl
count-full (s ∷ ss) = with_one s.0 s.1 (filter (λ s. is_some s.1) ss) (filled ss) (count-full ss)
  where
    with_one : (m : ℕ) (o : Option Named) (ts : List (ℕ × Option Named)) (es : List (ℕ × Named)) → length ts ≡ length es
        → length (cond (is_some o) ((m, o) ∷ ts) ts) ≡ length (with_entry m o es)
    with_one m None ts es rest = rest
    with_one m (Some n) ts es rest = ap (λ k. suc k) rest

module _ (n : Named) (ns all : List Named) (o o' : Objects counted) (is : all ≡ n ∷ ns) where
  pub hold-can : CanHoldEach all o → CanHold n o
  hold-can can = (rw is at can).0

  pub hold-next : o' ≡ hold n o → CanHoldEach all o → CanHoldEach ns o'
  hold-next done can = rw done ((rw is at can).1)

  pub hold-rest : o' ≡ hold n o → all_held ns o' ≡ all_held all o
  unfolding all_held
  hold-rest done = rw (done, is) refl

  pub release-can : CanReleaseEach all o → CanRelease n o
  release-can can = (rw is at can).0

  pub release-next : o' ≡ release n o → CanReleaseEach all o → CanReleaseEach ns o'
  release-next done can = rw done ((rw is at can).1)

  pub release-rest : o' ≡ release n o → all_released ns o' ≡ all_released all o
  unfolding all_released
  release-rest done = rw (done, is) refl

  pub release-said : o' ≡ release n o → (before after : List (Target × Hint)) → after ≡ before ++ option_list (release_hint n o)
      → after ++ release_hints ns o' ≡ before ++ release_hints all o
  unfolding release_hints
  release-said done before after said = rw (done, is, said) (append_assoc before _ _)
