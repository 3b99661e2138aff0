-- What the hints of one record make of a kqueue, in the words of its user (kqueue(2)).
use Rattle.std.specs.Prelude.{◌≡◌, Bool, not, ◌&&◌, List, ◌++◌, filter}
use Rattle.kq_model.specs.declared.key.Key.{Key}
use Rattle.kq_model.specs.CallLaws.{AreInOrder}
use Rattle.kq_model.specs.Hearing.{Hearing}
use Rattle.kq_model.specs.Knote.{Knote, has_key}
use Rattle.kq_model.specs.Kqueue.{Kqueue, IsSound}
use Rattle.kq_model.specs.RegistrationLaws.{keys_of, is_there}

module _ {S : Type 0} {h : Hearing S} where
  -- the knote is active and enabled, and was not in this queue
  abbrev pub begins_to_wait : List Key → Knote h → Bool
  begins_to_wait queue k = k.active && k.enabled && not (has_key k.key queue)

-- the hints of a record left the kqueue `kq` as `after`
pub record IsNotified {S : Type 0} {h : Hearing S} (kq after : Kqueue h) : Type 0 where
  -- no knote comes, and those that stay are in the order of registration that they had
  pub order : AreInOrder (keys_of after.knotes) (keys_of kq.knotes)
  -- The queue is the old one without the knotes that are gone, and behind it those that begin to wait, in order
  -- of registration. So none of the old ones loses its place, however often it was told something.
  pub queue : after.queue
      ≡ filter (λ key. is_there key after) kq.queue ++ keys_of (filter (begins_to_wait kq.queue) after.knotes)
  -- keys differ, and the queue holds each active enabled knote once and nothing else
  pub sound : IsSound after
