-- Where no hint tells of a fork nobody is followed.
use Rattle.std.proofs.Common.{◌≡◌, ℕ, cond, eqb, List, [], length, refl, ap, arith}
use Rattle.kq_model.specs.Following.{Fork, all_forks, followed, followed_each}
use Rattle.kq_model.specs.Hints.{notified}
use Rattle.kq_model.specs.Tallied.{Kqueue}
use Rattle.kq_model.specs.Targets.{Posted}
use Rattle.kq_model.specs.Views.{Views}
use Rattle.kq_model.proofs.Following.{notified-most}
use Rattle.kq_model.proofs.KnoteLaws.{by_test}
use Rattle.kq_kevent.specs.Owned.{HasRoomToFollow, OwnedKqueue}

pub none-follow : (version : ℕ) (hints : List Posted) (kq : Kqueue) → all_forks hints ≡ [] → followed version hints kq ≡ kq
unfolding followed_each
none-follow version hints kq none =
    by_test (λ b. followed_each (cond b [] (all_forks hints)) kq ≡ kq) (eqb version 1) (λ _. refl)
    (λ _. ap (λ (fs : List Fork). followed_each fs kq) none)

pub room-for-none : (views : Views) (hints : List Posted) (kq : OwnedKqueue) → all_forks hints ≡ [] → HasRoomToFollow views hints kq
room-for-none views hints kq none =
    omega (arith, ap (λ (q : Kqueue). length q.knotes) (none-follow kq.version hints (notified views hints kq.kq) none), notified-most views hints kq.kq)
