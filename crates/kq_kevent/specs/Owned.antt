-- What contracts see of a kqueue of the code.
use Rattle.std.specs.Prelude.{◌≡◌, ℕ, ℤ, unsigned_abs, ◌+◌, ◌≤◌, List, length}
use Rattle.kq_model.specs.Call.{number_of}
use Rattle.kq_model.specs.Caller.{Caller}
use Rattle.kq_model.specs.Clock.{Span}
use Rattle.kq_model.specs.Following.{followed}
use Rattle.kq_model.specs.Hearing.{listed}
use Rattle.kq_model.specs.Hints.{notified}
use Rattle.kq_model.specs.Recast.{tallied}
use Rattle.kq_model.specs.Registration.{Registered}
use Rattle.kq_model.specs.Tallied.{Kqueue}
use Rattle.kq_model.specs.Targets.{Posted}
use Rattle.kq_model.specs.Views.{Views}
use Rattle.kq_knote.specs.Reserved.{Reserved}

-- a kqueue with the process that owns it and the room reserved in it
pub record OwnedKqueue : Type 0 where
  pub kq : Kqueue
  -- a pid
  pub owner : ℕ
  -- of the trace's format
  pub version : ℕ
  -- how many knotes more can be registered
  pub room : ℕ

-- the knotes with their queue
abbrev pub kqueue_in : Reserved → Kqueue
kqueue_in knotes = record { knotes = knotes.knotes; queue = knotes.queue }

-- the owner as it calls, where it sees this of the world
abbrev pub caller : Views → OwnedKqueue → Caller
caller views kq = record { views = views; owner = kq.owner; version = kq.version }

-- from one moment to another, in ns, of which neither is negative
abbrev pub span_of : ℤ → ℤ → Span
span_of from to = record { from = unsigned_abs from; to = unsigned_abs to }

-- the outcome of a registration, in tallies and with an error number, is this one
abbrev pub IsTalliedRegistration : Kqueue → ℕ → Registered listed → Type 0
IsTalliedRegistration kq error r = (kq ≡ tallied r.kq) × (error ≡ number_of r.error)

-- how many knotes fit, with those that are there
abbrev pub limit : OwnedKqueue → ℕ
limit kq = length kq.kq.knotes + kq.room

-- there is room for the knotes of children that are followed
abbrev pub HasRoomToFollow : Views → List Posted → OwnedKqueue → Type 0
HasRoomToFollow views hints kq = length (followed kq.version hints (notified views hints kq.kq)).knotes ≤ limit kq
