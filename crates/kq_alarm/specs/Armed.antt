-- Alarms, and the earliest of them.
use Rattle.std.specs.Prelude.{ℕ, ◌≤◌, List, All}
use Rattle.std.specs.List.{Contains}
use Rattle.std.specs.declared.cmp.Reverse.{Reverse}
use Rattle.kq_alarm.specs.declared.alarm.Alarm.{Alarm}

-- as it stands in a heap, which has the greatest on top
abbrev pub Entry : Type 0
Entry = Reverse Alarm

-- what contracts see
pub record Armed : Type 0 where
  -- in no order
  pub entries : List Entry
  -- how many more fit
  pub room : ℕ

abbrev pub entry_of : Alarm → Entry
entry_of alarm = record { 0 = alarm }

-- an alarm is due at this moment
abbrev pub HasAlarm : List Entry → ℕ → ℕ → Type 0
HasAlarm entries moment ident = Contains entries (entry_of (record { moment = moment; ident = ident }))

-- it is one of these, and none is due before it
pub record IsEarliest (alarm : Alarm) (entries : List Entry) : Type 0 where
  pub here : Contains entries (entry_of alarm)
  pub least : All (λ e. alarm.moment ≤ e.0.moment) entries
