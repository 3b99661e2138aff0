-- The text of a list of events, written event by event.
use Rattle.std.specs.Prelude.{ℕ, Bool, true, List, [], ◌∷◌, ◌++◌, codes}
use Rattle.serde_json.specs.Written.{comma_if, compact_text}
use Rattle.kq_model.specs.declared.kevent.Kevent.{Kevent}
use Rattle.kq_model.specs.declared.filter.Filter.{Filter}
use Rattle.kq_model.specs.Names.{filter_name}
use Rattle.kq_model.specs.Report.{kevent_data}

-- an event's filter, and the name of its flags
abbrev pub before_flags : Filter → List ℕ
before_flags filter = codes ",\"filter\":\"" ++ (filter_name filter ++ codes "\",\"flags\":")

-- the events, each behind a comma where one stands before, and the closing bracket
unfoldable pub events_text : Bool → List Kevent → List ℕ
events_text later [] = 93 ∷ []
events_text later (e ∷ es) = comma_if later ++ (compact_text (kevent_data e) ++ events_text true es)
