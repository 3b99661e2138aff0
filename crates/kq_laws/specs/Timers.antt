-- What a timer tells over the life of its kqueue (kqueue(2), EVFILT_TIMER): the data of its event is the number of its
-- expirations since it was last returned or started.
use Rattle.std.specs.Prelude.{◌≡◌, ℕ, pos, ◌≤◌, Bool, true, false, not, ◌&&◌, List}
use Rattle.std.specs.Prelude.{[], ◌∷◌, if◌then◌else◌, Some}
use Rattle.std.specs.List.{list_any}
use Rattle.kq_model.specs.declared.change.Change.{Change}
use Rattle.kq_model.specs.declared.filter.Filter.TheVariants.{Timer}
use Rattle.kq_model.specs.declared.kevent.Kevent.{Kevent}
use Rattle.kq_model.specs.declared.key.Key.{Key}
use Rattle.kq_model.specs.declared.reply.Reply.{Reply}
use Rattle.kq_model.specs.declared.reply.Reply.TheVariants.{Done, Events, Failed, Impossible}
use Rattle.kq_model.specs.Bits.{asks, error}
use Rattle.kq_model.specs.Call.{call}
use Rattle.kq_model.specs.CallLaws.{Each, key_of_event, kqueue_after_changes}
use Rattle.kq_model.specs.Caller.{Caller}
use Rattle.kq_model.specs.Clock.{expires_at, ticking}
use Rattle.kq_model.specs.Knote.{key_eq, find_knote}
use Rattle.kq_model.specs.Tallied.{Knote, Kqueue}
use Rattle.kq_model.specs.Ticks.{is_single_moment, last_moment}
use Rattle.kq_model.specs.NextTicks.{ticks_between}
use Rattle.kq_model.specs.Views.{Views}
use Rattle.kq_laws.specs.Life.{Life, Step, Closes, Hints, Passes, Calls, born, stepped, lived, KeepTime}

-- the timer of this number
abbrev pub timer : ℕ → Key
timer ident = record { ident = ident; filter = Timer }

-- an event of the knote, and not the entry that answers a change
abbrev pub is_event_of : Key → Kevent → Bool
is_event_of key e = key_eq key (key_of_event e) && not (asks e.flags error)

abbrev pub returns : Key → Reply → Bool
returns key Done = false
returns key (Events events) = list_any (is_event_of key) events
returns key (Failed e) = false
returns key (Impossible why) = false

-- The moment at which the knote was last returned: now, where this step does so, and else the earlier moment.
abbrev pub returned_in : Key → Step → Life → ℕ → ℕ
returned_in key (Closes owner pairs) l earlier = earlier
returned_in key (Hints posted views) l earlier = earlier
returned_in key (Passes moment) l earlier = earlier
returned_in key (Calls caller changes room) l earlier =
    if returns key (call caller room changes l.kq).reply then l.now else earlier

abbrev pub last_returned : Key → List Step → Life → ℕ → ℕ
last_returned key [] l earlier = earlier
last_returned key (s ∷ steps) l earlier = last_returned key steps (stepped s l) (returned_in key s l earlier)

-- how often the timer, as it is set now, expires after one moment and up to another; one that is at a single moment has
-- done so once where it is returned, also if its moment had come before it was set
abbrev pub expirations : Knote → ℕ → ℕ → ℕ
expirations k from to = if is_single_moment (ticking k) then 1 else ticks_between (expires_at k) from to

-- an event of the timer has as data its expirations after one moment and up to another; a timer expires only after
-- its start, so that one that was started since has those since its start
abbrev pub Counts : ℕ → List Knote → ℕ → ℕ → Kevent → Type 0
Counts ident knotes from to e =
    is_event_of (timer ident) e ≡ true
    → (k : Knote) × (find_knote (timer ident) knotes ≡ Some k) × (e.datum ≡ pos (expirations k from to))

abbrev pub CountsAll : ℕ → List Knote → ℕ → ℕ → Reply → Type 0
CountsAll ident knotes from to Done = Unit {0}
CountsAll ident knotes from to (Events events) = Each (Counts ident knotes from to) events
CountsAll ident knotes from to (Failed e) = Unit {0}
CountsAll ident knotes from to (Impossible why) = Unit {0}

-- The steps led from the kqueue's birth at a moment to what it is now, and the clock was kept. Then the reply of a call
-- at the present clock tells of the timer how often it expired since it was last returned.
abbrev pub TellsExpirations : ℕ → Caller → ℕ → List Change → Kqueue → Reply → Type 0
TellsExpirations ident caller room changes kq reply =
    (birth : ℕ) (views : Views) (steps : List Step)
    → birth ≤ last_moment → KeepTime steps (born caller.version birth views)
    → (lived steps (born caller.version birth views)).kq ≡ kq
    → caller.views.now ≡ (lived steps (born caller.version birth views)).now
    → CountsAll ident (kqueue_after_changes caller room changes kq).knotes
    (last_returned (timer ident) steps (born caller.version birth views) birth) caller.views.now reply
