-- What is decided of a change in the code, and what is known of the knote that it is about.
use Rattle.std.specs.Prelude.{◌≡◌, Option, Some, None}
use Rattle.kq_model.specs.Registration as registration
use Rattle.kq_model.specs.Tallied as tallied
use Rattle.kq_kevent.specs.declared.decide.Decision.{Decision}
use Rattle.kq_kevent.specs.declared.decide.Decision.TheVariants.{Refuse, Remove, Make, Modify}

abbrev pub decision_of : Decision → tallied.Decision
decision_of (Refuse e) = registration.Refuse e
decision_of (Remove found) = registration.Remove
decision_of Make = registration.Make
decision_of (Modify found) = registration.Modify found.row

-- a knote is made where there is none, and modified or taken out where it is there
abbrev pub IsAbout : Decision → Option tallied.Knote → Type 0
IsAbout (Refuse e) present = Unit {0}
IsAbout (Remove found) present = present ≡ Some found.row
IsAbout Make present = present ≡ None
IsAbout (Modify found) present = present ≡ Some found.row
