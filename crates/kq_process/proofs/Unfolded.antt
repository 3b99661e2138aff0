-- What the proofs of a function unfold together, by one name: to unfold it is to unfold all that its line names.
use Rattle.kq_model.specs.DescriptorPlans.{on_descriptor, on_named, plan_kevent, plan_call}
use Rattle.kq_model.specs.Holders.{made_names}
use Rattle.kq_model.specs.ObjectRecordPlans.{plan_act, with_objects, plan_socket, plan_accept, plan_open, plan_pipe}
use Rattle.kq_model.specs.ObjectRecordPlans.{if_live, unless_open}
use Rattle.kq_model.specs.World.{named_by}

-- ---- records about objects

unfoldable pub acting : Unit {0}
unfolding plan_act with_objects
acting = tt

-- the new numbers are not open
unfoldable pub naming : Unit {0}
unfolding unless_open named_by
naming = tt

unfoldable pub opening_socket : Unit {0}
unfolding naming made_names plan_socket if_live
opening_socket = tt

unfoldable pub opening_accepted : Unit {0}
unfolding naming made_names plan_accept on_descriptor on_named
opening_accepted = tt

unfoldable pub opening_file : Unit {0}
unfolding naming made_names plan_open if_live
opening_file = tt

unfoldable pub opening_pipe : Unit {0}
unfolding naming plan_pipe if_live
opening_pipe = tt

-- ---- kevent calls

unfoldable pub calling : Unit {0}
unfolding plan_kevent plan_call
calling = tt
