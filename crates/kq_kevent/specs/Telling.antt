-- A knote that is told the hints of a record one after the other, as the code does it.
use Rattle.std.specs.Prelude.{◌≡◌, ℕ, Bool, true, false, ◌||◌, List, [], ◌∷◌, Option, Some}
use Rattle.std.specs.Prelude.{None, if◌then◌else◌}
use Rattle.kq_model.specs.declared.object.Hint.{Hint}
use Rattle.kq_model.specs.declared.object.Hint.TheVariants.{Readable, Writable, Note, Delivered, Child}
use Rattle.kq_model.specs.Following.{Fork}
use Rattle.kq_model.specs.Alerting.{after_hint, is_done}
use Rattle.kq_model.specs.Knote.{find_knote, with_knote}
use Rattle.kq_model.specs.Alerting.{is_for}
use Rattle.kq_model.specs.Registration.{queue_for}
use Rattle.kq_model.specs.Tallied.{Knote, Kqueue}
use Rattle.kq_model.specs.Targets.{Posted}
use Rattle.kq_kevent.specs.declared.notify.Telling.{Telling}

unfoldable pub told_one : Posted → Telling → Telling
told_one p t =
    if is_for t.knote p
    then record { knote = after_hint p.1 t.knote; any = true; done = t.done || is_done p.1 t.knote }
    else t

unfoldable pub told_all : List Posted → Telling → Telling
told_all [] t = t
told_all (p ∷ posted) t = told_all posted (told_one p t)

-- the knote is this one after it was told some hints
abbrev pub HeardMore : Knote → Knote → Type 0
HeardMore before knote = knote ≡ record before { seen = knote.seen; oneshot = knote.oneshot }

-- it tells no more than that there may be something to read or to write
unfoldable pub is_plain : Hint → Bool
is_plain Readable = true
is_plain Writable = true
is_plain (Note bits) = false
is_plain Delivered = false
is_plain (Child pid) = false

-- the hint is not for the knote, or leaves it as it is
abbrev pub Leaves : Knote → Posted → Type 0
Leaves k p = is_for k p ≡ true → (after_hint p.1 k ≡ k) × (is_done p.1 k ≡ false)

-- so is each of these
abbrev pub AreLeft : Knote → List Posted → Type 0
AreLeft k [] = Unit {0}
AreLeft k (p ∷ posted) = Leaves k p × AreLeft k posted

-- The knote is this one of them after something was made of it: it watches what it watched, and is active if it was.
pub record StandsFor (before knote : Knote) (knotes : List Knote) : Type 0 where
  pub there : find_knote knote.key knotes ≡ Some before
  pub target : before.target ≡ knote.target
  pub active : knote.active ≡ false → before.active ≡ false

-- the kqueue with this knote in the place of the one of its key, which goes where it belongs
abbrev pub with_put : Knote → Kqueue → Kqueue
with_put k kq = record { knotes = with_knote k kq.knotes; queue = queue_for k kq.queue }

-- the fork of which a hint tells, with the parent first
unfoldable pub fork_told : Option (ℕ × ℕ) → List Fork
fork_told None = []
fork_told (Some f) = record { parent = f.0; child = f.1 } ∷ []
