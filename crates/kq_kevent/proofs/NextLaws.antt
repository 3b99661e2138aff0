-- The next moment at which a timer of a kqueue expires.
use Rattle.std.proofs.Common.{◌≡◌, ℕ, ◌<◌, ◌≤◌, List, ◌⊎◌, inl, inr, Some, None, false, sym, ap, ◌∙◌, subst, arith}
use Rattle.kq_model.specs.Clock.{expires_at}
use Rattle.kq_model.specs.Tallied.{Knote}
use Rattle.kq_model.specs.Ticks.{last_moment}
use Rattle.kq_model.proofs.TicksFirst.{next_tick-is}
use Rattle.kq_knote.proofs.AlarmLaws.{all-found}
use Rattle.kq_kevent.specs.Foretold.{IsSilent, IsNextOf}
use Rattle.kq_kevent.specs.Ringing.{first_of, AreOutside, IsReached}

-- before it none expires
pub silent-before : (now moment : ℕ) (ks : List Knote) → now ≤ last_moment → AreOutside now now moment ks
    → (m : ℕ) → now < m → m < moment → m ≤ last_moment → IsSilent ks m
silent-before now moment ks begun outside m later earlier within k there =
    by_place (all-found (λ x. (first_of now x ≤ now) ⊎ (moment ≤ first_of now x)) k.key k ks outside there)
  where
    by_place : (first_of now k ≤ now) ⊎ (moment ≤ first_of now k) → expires_at k m ≡ false
    by_place (inl over) = let next = next_tick-is (expires_at k) now begun in let after = next.after in absurd (omega (arith, after, over))
    by_place (inr ahead) = (next_tick-is (expires_at k) now begun).least m later (omega (arith, ahead, earlier)) within

pub next-none : (now moment : ℕ) (ks : List Knote) → now ≤ last_moment → AreOutside now now moment ks → last_moment < moment → IsNextOf now ks None
next-none now moment ks begun outside past m later within = silent-before now moment ks begun outside m later (omega (arith, past, within)) within

pub next-some : (now moment : ℕ) (ks : List Knote) → now ≤ last_moment → now < moment → moment ≤ last_moment → AreOutside now now moment ks → IsReached now last_moment ks moment
    → IsNextOf now ks (Some moment)
next-some now moment ks begun later within outside (inl past) = absurd (omega (arith, past, within))
next-some now moment ks begun later within outside (inr at) =
    let k = at.0 in
    record {
      after = later;
      within = within;
      timer = k;
      registered = at.1;
      expires = ap (expires_at k) (sym at.2) ∙ (next_tick-is (expires_at k) now begun).passes (subst (λ n. n ≤ last_moment) (sym at.2) within);
      first = λ m ahead earlier. silent-before now moment ks begun outside m ahead earlier (omega (arith, earlier, within));
    }
