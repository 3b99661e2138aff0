-- Shares that go over some records.
use Rattle.std.specs.Prelude.{◌≡◌, ◌<◌, ◌+◌, ◌^◌, ℕ, List, [], ◌∷◌, length}
use Rattle.std.specs.Global.{Vec}
use Rattle.std.specs.List.{flat_map}
use Rattle.kq_model.specs.declared.event.Event.{Event}
use Rattle.kq_model.specs.declared.row.Row.{Row}
use Rattle.kq_model.specs.Shares.{share_after, share_rows}
use Rattle.kq_system.specs.Sharing.{ShareState, own_of}
use Rattle.kq_system.specs.SystemState.{system_of}
use Rattle.kq_shares.specs.declared.going.Gone.{Gone}

abbrev pub events_in : List (Vec Event) → List Event
events_in pieces = flat_map (λ (piece : Vec Event). piece.items) pieces

-- there is room for so many places more
abbrev pub HasPlaces : ℕ → ShareState → Type 0
HasPlaces count s = s.state.applied + count < 2 ^ 31

-- the share went over these events, and gave these rows
pub record HasGone (old : ShareState) (events : List Event) (new : ShareState) (rows : List Row) : Type 0 where
  pub system : system_of new.state ≡ share_after (own_of old) (old.state.applied + 1) (system_of old.state) events
  pub applied : new.state.applied ≡ old.state.applied + length events
  pub number : new.number ≡ old.number
  pub dealing : new.dealing ≡ old.dealing
  pub gave : rows ≡ share_rows (own_of old) (old.state.applied + 1) (system_of old.state) events

-- each of them did
abbrev pub HaveGone : List ShareState → List Event → List Gone → Type 0
HaveGone [] events [] = Unit {0}
HaveGone (old ∷ olds) events (g ∷ gs) = HasGone old events g.share.value g.rows.items × HaveGone olds events gs
HaveGone _ events _ = ⊥
