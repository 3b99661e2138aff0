-- The timers that expire in a span of the clock, and the alarms by which they are found.
use Rattle.std.specs.Prelude.{◌≡◌, ℕ, ◌≤◌, ◌==◌, nat_le, true, is_some, List, filter}
use Rattle.std.specs.List.{AllByRecursion, Contains}
use Rattle.kq_alarm.specs.Armed.{Entry, HasAlarm}
use Rattle.kq_model.specs.declared.key.Key.{Key}
use Rattle.kq_model.specs.Clock.{expires_at}
use Rattle.kq_model.specs.Knote.{find_knote, has_key}
use Rattle.kq_model.specs.Tallied.{Knote}
use Rattle.kq_model.specs.Ticks.{last_moment}
use Rattle.kq_model.specs.NextTicks.{next_tick}
use Rattle.kq_model.specs.WalkedAtOnce.{in_order}

-- when a knote expires first after a moment; past the last moment of the clock where it does not
abbrev pub next_of : ℕ → Knote → ℕ
next_of since k = next_tick (expires_at k) since

-- those that expire after `from` and not after `to`, in the order of their first expirations, of two at one moment the
-- one first that was registered first
abbrev pub expiring : ℕ → ℕ → List Knote → List Knote
expiring from to knotes = in_order (next_of from) (filter (λ k. nat_le (next_of from k) to) knotes)

-- those that expire first at this moment
abbrev pub firsts : ℕ → ℕ → List Knote → List Knote
firsts from moment knotes = filter (λ k. next_of from k == moment) knotes

-- of each the key is among these just where it expires first at this moment
abbrev pub AreFirsts : ℕ → ℕ → List Knote → List Key → Type 0
AreFirsts from moment knotes keys = AllByRecursion (λ k. has_key k.key keys ≡ (next_of from k == moment)) knotes

-- where it is a moment of the clock, the knote has an alarm then
abbrev pub IsAlarmed : List Entry → ℕ → Knote → Type 0
IsAlarmed entries moment k = moment ≤ last_moment → HasAlarm entries moment k.key.ident

-- each has an alarm when it expires first after `since`
abbrev pub AreAlarmed : ℕ → List Entry → List Knote → Type 0
AreAlarmed since entries knotes = AllByRecursion (λ k. IsAlarmed entries (next_of since k) k) knotes

-- each that expires first after `from` at `low` or later has an alarm then
abbrev pub AreWaiting : ℕ → ℕ → List Entry → List Knote → Type 0
AreWaiting from low entries knotes =
    AllByRecursion (λ k. low ≤ next_of from k → IsAlarmed entries (next_of from k) k) knotes

-- each of these keys has an alarm when it expires first after `to`
abbrev pub AreArmed : ℕ → List Key → List Entry → List Knote → Type 0
AreArmed to keys entries knotes =
    AllByRecursion (λ k. has_key k.key keys ≡ true → IsAlarmed entries (next_of to k) k) knotes

-- what was there is still there
abbrev pub AreKept : List Entry → List Entry → Type 0
AreKept before after = (e : Entry) → Contains before e → Contains after e

-- of each of these keys there is a knote
abbrev pub AreThere : List Key → List Knote → Type 0
AreThere keys knotes = (key : Key) → has_key key keys ≡ true → is_some (find_knote key knotes) ≡ true
