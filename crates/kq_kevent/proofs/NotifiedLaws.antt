-- What a kqueue that heard the hints of a record promises.
use Rattle.std.proofs.Common.{◌≡◌, ℕ, List, [], sym, ◌∙◌, subst}
use Rattle.kq_model.specs.Following.{followed}
use Rattle.kq_model.specs.Hearing.{listed}
use Rattle.kq_model.specs.Tallying.{tallying}
use Rattle.kq_model.specs.HintLaws.{IsNotified}
use Rattle.kq_model.specs.Hints.{notified}
use Rattle.kq_model.specs.Kqueue as kqueues
use Rattle.kq_model.specs.Kqueue.{IsSound}
use Rattle.kq_model.specs.NamedTargets.{IsNamed}
use Rattle.kq_model.specs.Recast as recast
use Rattle.kq_model.specs.Tallied.{Kqueue}
use Rattle.kq_model.specs.Targets.{Posted}
use Rattle.kq_model.specs.Views.{Views}
use Rattle.kq_model.specs.WatchedNumbers.{LeavesOpen, WatchTheirNumbers}
use Rattle.kq_model.proofs.HintLaws.{notified-law}
use Rattle.kq_model.proofs.SubjectsCall.{notified-subjects}
use Rattle.kq_model.proofs.Tallied.{notified-tallied, followed-tallied}
use Rattle.kq_model.proofs.WatchedNumbers.{left-watched, followed-watched}

pub after-laws : (views : Views) (posted : List Posted) (kq : Kqueue) → IsSound kq → IsNotified kq (notified views posted kq)
after-laws views posted kq sound = notified-law views posted kq sound

module _ (views : Views) (version : ℕ) (posted : List Posted) (kq after : Kqueue) (is : after ≡ followed version posted (notified views posted kq)) where
  pub after-model : (m : kqueues.Kqueue listed) → kq ≡ recast.tallied m
      → after ≡ recast.tallied (followed version posted (notified views posted m))
  after-model m same =
      is ∙ followed-tallied (notified views posted kq) (notified views posted m) (notified-tallied kq m same views posted) version posted

  pub after-named : (owner : ℕ) (before : Views) → LeavesOpen before views owner [] → WatchTheirNumbers before owner kq
      → WatchTheirNumbers views owner after
  after-named owner before leaves watch =
      subst (λ (q : Kqueue). WatchTheirNumbers views owner q) (sym is)
      (followed-watched tallying views owner version posted (notified views posted kq)
      (notified-subjects tallying (IsNamed views owner) views posted kq
      (left-watched tallying before views owner kq leaves watch)))
