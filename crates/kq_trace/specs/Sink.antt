-- What a sink took: events of a trace of a version.
use Rattle.std.specs.Prelude.{◌≡◌, ℕ, List, length}
use Rattle.kq_model.specs.declared.event.Event.{Event}
use Rattle.kq_trace.specs.declared.sink.Kept.{Kept}

-- so many
abbrev pub TookSome : {A : Type 0} → (A → List Event → Type 0) → ℕ → A → Type 0
TookSome took count it = (events : List Event) × (length events ≡ count) × took it events

-- so many of a trace of some version
abbrev pub HasTaken : {A : Type 0} → (ℕ → A → List Event → Type 0) → ℕ → A → Type 0
HasTaken took count it = (version : ℕ) × TookSome (took version) count it

abbrev pub kept_events : Kept → List Event
kept_events k = k.events.items

-- whatever the version is
abbrev pub Keeps : ℕ → Kept → List Event → Type 0
Keeps version k events = k.events.items ≡ events
