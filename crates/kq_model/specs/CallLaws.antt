-- What the answer of a kevent call promises, in the words of its user.
use Rattle.std.specs.Prelude.{◌≡◌, ◌<◌, ◌≤◌, ◌⊎◌, ℕ, true, false, List, [], ◌∷◌}
use Rattle.std.specs.Prelude.{map, length, Some, None}
use Rattle.kq_model.specs.declared.change.Change.{Change}
use Rattle.kq_model.specs.declared.key.Key.{Key}
use Rattle.kq_model.specs.declared.kevent.Kevent.{Kevent}
use Rattle.kq_model.specs.declared.reply.Reply.{Reply}
use Rattle.kq_model.specs.declared.reply.Reply.TheVariants.{Done, Events, Failed, Impossible}
use Rattle.kq_model.specs.Bits.{asks, error, oneshot}
use Rattle.kq_model.specs.Caller.{Caller}
use Rattle.kq_model.specs.Hearing.{Hearing}
use Rattle.kq_model.specs.Call.{call, is_answered, process}
use Rattle.kq_model.specs.Knote.{Knote, find_knote, has_key}
use Rattle.kq_model.specs.Kqueue.{Kqueue, AreOnce}
use Rattle.kq_model.specs.Look.{Seen, look}
use Rattle.kq_model.specs.Registration.{register}
use Rattle.kq_model.specs.Retrieval.{event_of}
use Rattle.kq_model.specs.Views.{Views}

abbrev pub Each : {X : Type 0} → (X → Type 0) → List X → Type 0
Each P [] = Unit {0}
Each P (x ∷ xs) = P x × Each P xs

abbrev pub key_of_event : Kevent → Key
key_of_event e = record { ident = e.ident; filter = e.filter }

-- the first keys are some of the second, in their order
abbrev pub AreInOrder : List Key → List Key → Type 0
AreInOrder keys [] = keys ≡ []
AreInOrder keys (next ∷ queue) =
    AreInOrder keys queue ⊎ ((rest : List Key) × (keys ≡ next ∷ rest) × AreInOrder rest queue)

-- the event is that of a knote whose condition holds
pub record IsDue {S : Type 0} {h : Hearing S} (views : Views) (knotes : List (Knote h)) (e : Kevent) : Type 0 where
  pub knote : Knote h
  pub seen : Seen
  pub found : find_knote (key_of_event e) knotes ≡ Some knote
  pub holds : look views knote ≡ Some seen
  pub is : e ≡ event_of knote seen

-- an event of a ONESHOT knote is its last: the knote is gone, unless it had a notice, which the event told
abbrev pub IsLastOfOneshot : {S : Type 0} {h : Hearing S} → List (Knote h) → List (Knote h) → Kevent → Type 0
IsLastOfOneshot {h = h} knotes left e =
    (k : Knote h) → find_knote (key_of_event e) knotes ≡ Some k → k.notice ≡ None
    → asks e.flags oneshot ≡ true
    → find_knote (key_of_event e) left ≡ None

-- the condition of the key's knote does not hold
abbrev pub IsIdle : {S : Type 0} {h : Hearing S} → Views → List (Knote h) → Key → Type 0
IsIdle {h = h} views knotes key = (k : Knote h) → find_knote key knotes ≡ Some k → look views k ≡ None

-- events were taken out of a kqueue, which is left as `after`
pub record AreTaken {S : Type 0} {h : Hearing S} (views : Views) (room : ℕ) (kq after : Kqueue h)
    (events : List Kevent)
    : Type 0 where
  -- in the order of the queue as it was, each knote at most once
  pub in_order : AreInOrder (map key_of_event events) kq.queue
  pub once : AreOnce (map key_of_event events)
  pub within : length events ≤ room
  pub due : Each (IsDue views kq.knotes) events
  pub oneshot_gone : Each (IsLastOfOneshot kq.knotes after.knotes) events
  pub no_error : Each (λ e. asks e.flags error ≡ false) events
  -- nothing is held back: with room left over, what is in the queue and was not returned is idle
  pub complete : length events < room
      → (key : Key) → has_key key kq.queue ≡ true
      → (has_key key (map key_of_event events) ≡ true) ⊎ IsIdle views kq.knotes key

-- entries, each with ERROR, and nothing was taken out of the kqueue
pub record AreEntries {S : Type 0} {h : Hearing S} (room : ℕ) (kq after : Kqueue h) (events : List Kevent)
    : Type 0 where
  pub entries : Each (λ e. asks e.flags error ≡ true) events
  pub some : 0 < length events
  pub within : length events ≤ room
  pub untouched : after ≡ kq

module _ {S : Type 0} {h : Hearing S} where
  -- a call answers either with entries alone, or with events of the kqueue as its changes left it
  abbrev pub IsAnswer : Views → ℕ → Kqueue h → Kqueue h → Reply → Type 0
  IsAnswer views room kq after (Events events) = AreEntries room kq after events ⊎ AreTaken views room kq after events
  IsAnswer views room kq after (Failed e) = after ≡ kq
  IsAnswer views room kq after Done = ⊥
  IsAnswer views room kq after (Impossible why) = ⊥

  abbrev pub kqueue_after_changes : Caller → ℕ → List Change → Kqueue h → Kqueue h
  kqueue_after_changes caller room changes kq = (process caller room changes [] kq).kq

  -- no change fails or asks for a receipt
  abbrev pub AreQuiet : Caller → List Change → Kqueue h → Type 0
  AreQuiet caller [] kq = Unit {0}
  AreQuiet caller (c ∷ changes) kq =
      (is_answered c (register caller c kq).error ≡ false) × AreQuiet caller changes (register caller c kq).kq

  -- the call is its changes with room 0, and then a poll
  abbrev pub IsChangesThenPoll : Caller → ℕ → List Change → Kqueue h → Type 0
  IsChangesThenPoll caller room changes kq =
      AreQuiet caller changes kq
      → call caller room changes kq ≡ call caller room [] (call caller 0 changes kq).kq
