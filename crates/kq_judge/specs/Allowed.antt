-- Which answers of a kevent call are right, where the order of the queue is left open (kqueue(2) does not say in
-- which order events are returned).
use Rattle.std.specs.Prelude.{◌≡◌, ℕ, List, map, take, Option}
use Rattle.std.specs.Prelude.{option_and_then}
use Rattle.std.specs.List.{filter_map}
use Rattle.std.specs.List.Sorted.{IsPermutation}
use Rattle.std.specs.Option.{option_map}
use Rattle.kq_model.specs.declared.kevent.Kevent.{Kevent}
use Rattle.kq_model.specs.declared.key.Key.{Key}
use Rattle.kq_model.specs.CallLaws.{key_of_event}
use Rattle.kq_model.specs.Hearing.{Hearing}
use Rattle.kq_model.specs.Knote.{Knote, find_knote}
use Rattle.kq_model.specs.Kqueue.{Kqueue}
use Rattle.kq_model.specs.Look.{look}
use Rattle.kq_model.specs.Retrieval.{event_of, retrieval}
use Rattle.kq_model.specs.Views.{Views}
use Rattle.kq_kevent.specs.Arranged.{arranged}
use Rattle.kq_judge.specs.declared.member.Ignored.{Ignored}
use Rattle.kq_judge.specs.Same.{AreSame}

-- Some order of the queue gives the answer, but for what is not compared. The kqueue is as the changes of the call
-- left it, and these placed nothing.
pub record IsAllowed {S : Type 0} {h : Hearing S} (ignored : List Ignored) (views : Views) (room : ℕ) (kq : Kqueue h)
    (answer : List Kevent) : Type 0 where
  pub order : List Key
  pub permutes : IsPermutation kq.queue order
  pub same : AreSame ignored (retrieval views room (record kq { queue = order })).events answer

module _ {S : Type 0} {h : Hearing S} where
  -- the event that a knote gives, where its condition holds
  abbrev pub event_seen : Views → Knote h → Option Kevent
  event_seen views k = option_map (event_of k) (look views k)

  -- the same of the knote of a key
  abbrev pub event_due : Views → List (Knote h) → Key → Option Kevent
  event_due views knotes key = option_and_then (event_seen views) (find_knote key knotes)

  -- a retrieval returns the first of those whose conditions hold, in the order of the queue
  abbrev pub ReturnsTheFirst : Views → ℕ → Kqueue h → Type 0
  ReturnsTheFirst views room kq =
      (retrieval views room kq).events ≡ take room (filter_map (event_due views kq.knotes) kq.queue)

  -- the kqueue with the answer's kevents in front, and the others behind them as they stood
  abbrev pub with_answer_first : List Kevent → Kqueue h → Kqueue h
  with_answer_first answer kq = record kq { queue = arranged (map key_of_event answer) kq.queue }

  -- then the retrieval gives the answer
  abbrev pub IsGivenInFront : List Ignored → Views → ℕ → Kqueue h → List Kevent → Type 0
  IsGivenInFront ignored views room kq answer =
      AreSame ignored (retrieval views room (with_answer_first answer kq)).events answer
