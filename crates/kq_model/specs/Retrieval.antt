-- Taking events out of a kqueue (kqueue(2); Lemon 2001, section 4.3). The queue as it stands is walked
-- once from the front; what goes to the back meanwhile is not met again.
use Rattle.std.specs.Prelude.{ℕ, zero, suc, Bool, false, not, ◌&&◌, ◌||◌, List, [], ◌∷◌}
use Rattle.std.specs.Prelude.{◌++◌, Option, Some, None}
use Rattle.std.specs.Prelude.{if◌then◌else◌}
use Rattle.kq_model.specs.declared.kevent.Kevent.{Kevent}
use Rattle.kq_model.specs.declared.event_flags.EvFlags.{EvFlags}
use Rattle.kq_model.specs.declared.key.Key.{Key}
use Rattle.kq_model.specs.Bits.{flag_if, oneshot, clear, dispatch, eof}
use Rattle.kq_model.specs.Hearing.{Hearing}
use Rattle.kq_model.specs.Knote.{Knote, find_knote, with_knote, without_knote}
use Rattle.kq_model.specs.Kqueue.{Kqueue}
use Rattle.kq_model.specs.Look.{Seen, look}
use Rattle.kq_model.specs.Views.{Views}

pub record Retrieved {S : Type 0} (h : Hearing S) : Type 0 where
  pub kq : Kqueue h
  pub events : List Kevent

-- what the turn of one knote leaves, with the event where one is delivered
pub record Turned {S : Type 0} (h : Hearing S) : Type 0 where
  pub kq : Kqueue h
  pub event : Option Kevent

module _ {S : Type 0} {h : Hearing S} where
  -- ---- the event

  unfoldable pub event_flags : Knote h → Seen → EvFlags
  event_flags k seen =
      flag_if seen.eof eof (flag_if k.dispatch dispatch (flag_if k.clear clear (
      flag_if k.oneshot oneshot (record { 0 = 0 }))))

  unfoldable pub event_of : Knote h → Seen → Kevent
  event_of k seen = record {
    ident = k.key.ident;
    filter = k.key.filter;
    flags = event_flags k seen;
    fflags = seen.fflags;
    datum = seen.datum;
    udata = k.udata;
  }

  -- ---- what becomes of the knote

  -- CLEAR takes back what was heard and a USER's trigger; its bits and data stay
  unfoldable pub reset : Knote h → Knote h
  reset k = if k.clear then record k { seen = h.empty; triggered = false } else k

  -- CLEAR resets and DISPATCH disables; with either the knote is not active
  unfoldable pub rested : Knote h → Knote h
  rested k = record (reset k) { active = false; enabled = k.enabled && not k.dispatch }

  -- the knotes after this one was delivered
  unfoldable pub knotes_after : Knote h → List (Knote h) → List (Knote h)
  knotes_after k knotes =
      if k.oneshot then without_knote k.key knotes
      else if k.clear || k.dispatch then with_knote (rested k) knotes
      else knotes

  -- only a knote without ONESHOT, CLEAR and DISPATCH stays in the queue, and goes to its back
  unfoldable pub stays : Knote h → Bool
  stays k = not (k.oneshot || k.clear || k.dispatch)

  unfoldable pub back_after : Knote h → List Key → List Key
  back_after k back = if stays k then back ++ k.key ∷ [] else back

  -- ---- one turn: a key was taken from the front of the queue, and its knote is looked at

  -- where the condition holds no more the knote becomes inactive; its key is out of the queue
  abbrev pub with_idle : Knote h → Kqueue h → Kqueue h
  with_idle k kq = record kq { knotes = with_knote (record k { active = false }) kq.knotes }

  abbrev pub without_notice : Knote h → Knote h
  without_notice k = record k { notice = None }

  -- A notice was told: it is taken back, and nothing else is reset, disabled or deleted. The knote is looked at again:
  -- it goes to the back, or is not active and out of the queue.
  unfoldable pub with_notice_told : Knote h → Kqueue h → Option Seen → Kqueue h
  with_notice_told k kq None = with_idle k kq
  with_notice_told k kq (Some seen) = record { knotes = with_knote k kq.knotes; queue = kq.queue ++ k.key ∷ [] }

  -- by its notice, if it had one
  unfoldable pub settled : Views → Knote h → Kqueue h → Option ℕ → Kqueue h
  settled views k kq None = record { knotes = knotes_after k kq.knotes; queue = back_after k kq.queue }
  settled views k kq (Some parent) = with_notice_told (without_notice k) kq (look views (without_notice k))

  abbrev pub with_delivered : Views → Knote h → Kqueue h → Kqueue h
  with_delivered views k kq = settled views k kq k.notice

  unfoldable pub turned_at_look : Views → Knote h → Kqueue h → Option Seen → Turned h
  turned_at_look views k kq None = record { kq = with_idle k kq; event = None }
  turned_at_look views k kq (Some seen) = record { kq = with_delivered views k kq; event = Some (event_of k seen) }

  unfoldable pub turned_at : Views → Kqueue h → Option (Knote h) → Turned h
  turned_at views kq None = record { kq = kq; event = None }
  turned_at views kq (Some k) = turned_at_look views k kq (look views k)

  -- the turn of a key, which the kqueue's queue has no longer
  unfoldable pub turned : Views → Key → Kqueue h → Turned h
  turned views key kq = turned_at views kq (find_knote key kq.knotes)

  -- ---- the retrieval

  unfoldable pub delivered : Kevent → Retrieved h → Retrieved h
  delivered event r = record r { events = event ∷ r.events }

  -- an event takes up room; `rest` goes on with the keys behind
  unfoldable pub after_turn : (ℕ → Kqueue h → Retrieved h) → ℕ → Kqueue h → Option Kevent → Retrieved h
  after_turn rest room kq None = rest (suc room) kq
  after_turn rest room kq (Some event) = delivered event (rest room kq)

  -- The keys are what is left of the queue as it stood; the kqueue's own queue is what went to the back
  -- meanwhile.
  unfoldable pub retrieve : Views → List Key → ℕ → Kqueue h → Retrieved h
  retrieve views [] room kq = record { kq = kq; events = [] }
  retrieve views (key ∷ keys) zero kq = record { kq = record kq { queue = (key ∷ keys) ++ kq.queue }; events = [] }
  retrieve views (key ∷ keys) (suc room) kq =
      after_turn (retrieve views keys) room (turned views key kq).kq (turned views key kq).event

  -- at most so many events out of a kqueue
  unfoldable pub retrieval : Views → ℕ → Kqueue h → Retrieved h
  retrieval views room kq = retrieve views kq.queue room (record kq { queue = [] })
