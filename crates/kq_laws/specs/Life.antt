-- The life of one kqueue: what happens to it, one thing after the other, from the moment it was made. Beside the
-- kqueue stand the clock and what was last seen of the world.
use Rattle.std.specs.Prelude.{◌≡◌, ℕ, ◌≤◌, List, [], ◌∷◌, Some}
use Rattle.kq_model.specs.declared.change.Change.{Change}
use Rattle.kq_model.specs.Call.{call}
use Rattle.kq_model.specs.Caller.{Caller}
use Rattle.kq_model.specs.Clock.{clocked}
use Rattle.kq_model.specs.Close.{Pair, closed}
use Rattle.kq_model.specs.Following.{followed}
use Rattle.kq_model.specs.Hints.{notified}
use Rattle.kq_model.specs.Kqueue.{empty_kqueue}
use Rattle.kq_model.specs.Tallied.{Kqueue}
use Rattle.kq_model.specs.Targets.{Posted}
use Rattle.kq_model.specs.Ticks.{last_moment}
use Rattle.kq_model.specs.Views.{Views}

pub data Step : Type 0 where
  -- processes close descriptors; the kqueue's owner is this one
  Closes : ℕ → List Pair → Step
  -- the hints of a record, and the world after it; where they tell of forks, knotes follow the children
  Hints : List Posted → Views → Step
  -- the clock goes on to a moment
  Passes : ℕ → Step
  -- a kevent call of the owner, with room for so many events
  Calls : Caller → List Change → ℕ → Step

pub record Life : Type 0 where
  pub kq : Kqueue
  -- of the traces by which the kqueue goes
  pub version : ℕ
  -- the clock, in ns
  pub now : ℕ
  -- the world, as the last record left it
  pub views : Views

-- made for traces of a version, at a moment, in a world
abbrev pub born : ℕ → ℕ → Views → Life
born version now views = record { kq = empty_kqueue; version = version; now = now; views = views }

abbrev pub stepped : Step → Life → Life
stepped (Closes owner pairs) l = record l { kq = closed owner pairs l.kq }
stepped (Hints posted views) l =
    record l { kq = followed l.version posted (notified views posted l.kq); views = views }
stepped (Passes moment) l = record l { kq = clocked (Some (record { from = l.now; to = moment })) l.kq; now = moment }
stepped (Calls caller changes room) l = record l { kq = (call caller room changes l.kq).kq }

abbrev pub lived : List Step → Life → Life
lived [] l = l
lived (s ∷ steps) l = lived steps (stepped s l)

-- the clock goes forward, and who calls sees what it shows
abbrev pub KeepsTime : Step → Life → Type 0
KeepsTime (Closes owner pairs) l = Unit {0}
KeepsTime (Hints posted views) l = Unit {0}
KeepsTime (Passes moment) l = (l.now ≤ moment) × (moment ≤ last_moment)
KeepsTime (Calls caller changes room) l = caller.views.now ≡ l.now

abbrev pub KeepTime : List Step → Life → Type 0
KeepTime [] l = Unit {0}
KeepTime (s ∷ steps) l = KeepsTime s l × KeepTime steps (stepped s l)
