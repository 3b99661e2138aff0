-- Whether a kevent is to be returned, and why it is not.
use Rattle.std.specs.Prelude.{◌≡◌, true, false, List, Some, None}
use Rattle.std.specs.Option.{is_some}
use Rattle.kq_model.specs.declared.kevent.Kevent.{Kevent}
use Rattle.kq_model.specs.declared.key.Key.{Key}
use Rattle.kq_model.specs.Hearing.{Hearing}
use Rattle.kq_model.specs.Knote.{Knote, find_knote}
use Rattle.kq_model.specs.Look.{Seen, look}
use Rattle.kq_model.specs.Retrieval.{event_of}
use Rattle.kq_model.specs.Views.{Views}
use Rattle.kq_judge.specs.declared.absence.Absence.{Absence}
use Rattle.kq_judge.specs.declared.absence.Absence.TheVariants.{NotRegistered, Disabled, NotActive, Idle}

-- The key's knote is active and enabled, and so stands in the queue, and its condition holds: this is its event.
pub record IsPending {S : Type 0} {h : Hearing S} (views : Views) (knotes : List (Knote h)) (key : Key) (e : Kevent)
    : Type 0 where
  pub knote : Knote h
  pub seen : Seen
  pub found : find_knote key knotes ≡ Some knote
  pub enabled : knote.enabled ≡ true
  pub active : knote.active ≡ true
  pub holds : look views knote ≡ Some seen
  pub is : e ≡ event_of knote seen

module _ {S : Type 0} {h : Hearing S} where
  -- why no event of the key is pending; of a knote that is not active, whether its condition holds now
  abbrev pub IsAbsence : Views → List (Knote h) → Key → Absence → Type 0
  IsAbsence views knotes key NotRegistered = find_knote key knotes ≡ None
  IsAbsence views knotes key Disabled =
      (k : Knote h) × (find_knote key knotes ≡ Some k) × (k.enabled ≡ false)
  IsAbsence views knotes key (NotActive holds) =
      (k : Knote h) × (find_knote key knotes ≡ Some k) × (k.enabled ≡ true) × (k.active ≡ false)
      × (holds ≡ is_some (look views k))
  IsAbsence views knotes key Idle =
      (k : Knote h) × (find_knote key knotes ≡ Some k) × (k.enabled ≡ true) × (k.active ≡ true)
      × (look views k ≡ None)
