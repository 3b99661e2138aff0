-- The definitions as the code has them: what was heard is kept as a tally, and of the objects the
-- quantities. Each name is that of the definition of which it is an instance.
use Rattle.kq_model.specs.Tallying.{tallying}
use Rattle.kq_model.specs.Call as call
use Rattle.kq_model.specs.Objects.{counted}
use Rattle.kq_model.specs.Knote as knote
use Rattle.kq_model.specs.Kqueue as kqueue
use Rattle.kq_model.specs.Registration as registration
use Rattle.kq_model.specs.Retrieval as retrieval
use Rattle.kq_model.specs.System as system
use Rattle.kq_model.specs.World as world

abbrev pub Knote : Type 0
Knote = knote.Knote tallying

abbrev pub Kqueue : Type 0
Kqueue = kqueue.Kqueue tallying

abbrev pub Decision : Type 0
Decision = registration.Decision tallying

abbrev pub Registered : Type 0
Registered = registration.Registered tallying

abbrev pub Retrieved : Type 0
Retrieved = retrieval.Retrieved tallying

abbrev pub Turned : Type 0
Turned = retrieval.Turned tallying

abbrev pub Processed : Type 0
Processed = call.Processed tallying

abbrev pub Called : Type 0
Called = call.Called tallying

abbrev pub Live : Type 0
Live = system.Live tallying

abbrev pub World : Type 0
World = world.World counted

abbrev pub System : Type 0
System = system.System tallying counted

abbrev pub Stepped : Type 0
Stepped = system.Stepped tallying counted
