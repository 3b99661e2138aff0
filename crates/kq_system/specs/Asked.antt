-- What is asked of the live kqueue that a number names, if it names one.
use Rattle.std.specs.Prelude.{◌≡◌, ℕ, length, Option, Some, None, option_and_then}
use Rattle.kq_kevent.specs.Foretold.{IsNextOf}
use Rattle.kq_model.specs.declared.key.Key.{Key}
use Rattle.kq_model.specs.Knote.{find_knote}
use Rattle.kq_model.specs.Retrieval.{retrieval}
use Rattle.kq_model.specs.Tallied.{Knote, Live}
use Rattle.kq_model.specs.Views.{Views}

-- when a timer of it expires next, after `now`
abbrev pub IsNextIn : ℕ → Option Live → Option ℕ → Type 0
IsNextIn now None next = next ≡ None
IsNextIn now (Some l) next = IsNextOf now l.kq.knotes next

-- how many events a call with no changes and so much room takes out of it
abbrev pub pending_in : Views → ℕ → Option Live → ℕ
pending_in views room None = 0
pending_in views room (Some l) = length (retrieval views room l.kq).events

-- the knote of this key
abbrev pub registered_in : Key → Option Live → Option Knote
registered_in key found = option_and_then (λ (l : Live). find_knote key l.kq.knotes) found
