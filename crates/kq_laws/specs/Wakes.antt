-- That no wake-up is lost (kqueue(2): a filter without EV_CLEAR is level-triggered): where the condition of a knote
-- holds that is enabled and has neither ONESHOT nor CLEAR nor DISPATCH, a call with room for it returns it. So it does
-- with the enabled knote of a child whose notice was not told yet.
use Rattle.std.specs.Prelude.{◌≡◌, ℕ, suc, ◌<◌, Bool, true, false, ◌||◌, List, [], ◌∷◌}
use Rattle.std.specs.Prelude.{Option, Some, None}
use Rattle.std.specs.Prelude.{if◌then◌else◌}
use Rattle.std.specs.Prelude.{All, ◌⊎◌}
use Rattle.std.specs.Option.{is_some}
use Rattle.kq_model.specs.declared.change.Change.{Change}
use Rattle.kq_model.specs.declared.kevent.Kevent.{Kevent}
use Rattle.kq_model.specs.declared.key.Key.{Key}
use Rattle.kq_model.specs.declared.reply.Reply.{Reply}
use Rattle.kq_model.specs.declared.reply.Reply.TheVariants.{Events}
use Rattle.kq_model.specs.CallLaws.{AreQuiet, kqueue_after_changes}
use Rattle.kq_model.specs.Caller.{Caller}
use Rattle.kq_model.specs.Hints.{hints_for}
use Rattle.kq_model.specs.Knote.{key_eq, find_knote}
use Rattle.kq_model.specs.Look.{Seen, look}
use Rattle.kq_model.specs.Retrieval.{event_of, stays}
use Rattle.kq_model.specs.Tallied.{Knote, Kqueue}
use Rattle.kq_model.specs.Targets.{Posted}
use Rattle.kq_model.specs.Views.{Views}
use Rattle.kq_laws.specs.Life.{Life, Step, Closes, Hints, Passes, Calls, born, stepped, lived}

-- its condition holds in this world
abbrev pub is_due : Views → Knote → Bool
is_due views k = is_some (look views k)

-- it is returned whenever it is enabled and its condition holds: it is level-triggered, or has a notice to tell
abbrev pub is_owed : Knote → Bool
is_owed k = stays k || is_some k.notice

-- ---- the world says what happens in it

-- a condition that comes to hold is hinted
abbrev pub IsAnnounced : Views → List Posted → Views → Knote → Type 0
IsAnnounced before posted after k = hints_for k posted ≡ [] → is_due after k ≡ true → is_due before k ≡ true

-- each condition that a record makes hold is hinted, and who calls sees the world as the last record left it
abbrev pub IsToldOfWorld : Step → Life → Type 0
IsToldOfWorld (Closes owner pairs) l = Unit {0}
IsToldOfWorld (Hints posted views) l = All (IsAnnounced l.views posted views) l.kq.knotes
IsToldOfWorld (Passes moment) l = Unit {0}
IsToldOfWorld (Calls caller changes room) l = caller.views.view ≡ l.views.view

abbrev pub AreToldOfWorld : List Step → Life → Type 0
AreToldOfWorld [] l = Unit {0}
AreToldOfWorld (s ∷ steps) l = IsToldOfWorld s l × AreToldOfWorld steps (stepped s l)

-- ---- room

-- the condition of the key's knote holds
abbrev pub due_at : Views → Option Knote → Bool
due_at views None = false
due_at views (Some k) = is_due views k

-- how many wait in front of a key in the queue whose condition holds
abbrev pub ahead : Views → List Knote → Key → List Key → ℕ
ahead views knotes key [] = 0
ahead views knotes key (front ∷ queue) =
    if key_eq key front then 0
    else if due_at views (find_knote front knotes) then suc (ahead views knotes key queue)
    else ahead views knotes key queue

-- ---- the law

abbrev pub IsAmong : Kevent → List Kevent → Type 0
IsAmong e [] = ⊥
IsAmong e (x ∷ events) = (e ≡ x) ⊎ IsAmong e events

abbrev pub IsReturned : Kevent → Reply → Type 0
IsReturned e reply = (events : List Kevent) × (reply ≡ Events events) × IsAmong e events

-- The kqueue as a call's changes left it: a knote that is level-triggered, or has a notice, that is enabled and whose
-- condition holds is returned, with what is seen of it now, where there is room for it and for those that wait in front
-- of it. What is seen of one with a notice is its notice.
abbrev pub ReturnsDue : Views → ℕ → Kqueue → Reply → Type 0
ReturnsDue views room kq reply =
    (key : Key) (k : Knote) (seen : Seen) → find_knote key kq.knotes ≡ Some k → is_owed k ≡ true
    → k.enabled ≡ true
    → look views k ≡ Some seen → ahead views kq.knotes key kq.queue < room → IsReturned (event_of k seen) reply

-- The steps led from the kqueue's birth to what it is now, and it was told of the world. Then a call whose changes
-- place no entry, as one without changes, returns what is due.
abbrev pub LosesNoWakeUp : Caller → ℕ → List Change → Kqueue → Reply → Type 0
LosesNoWakeUp caller room changes kq reply =
    (birth : ℕ) (views : Views) (steps : List Step)
    → AreToldOfWorld steps (born caller.version birth views)
    → (lived steps (born caller.version birth views)).kq ≡ kq
    → caller.views.view ≡ (lived steps (born caller.version birth views)).views.view → AreQuiet caller changes kq
    → ReturnsDue caller.views room (kqueue_after_changes caller room changes kq) reply
