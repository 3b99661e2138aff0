-- What a record does with the object that its descriptor names, once that is known.
use Rattle.kq_model.specs.declared.act.Act.{Act}
use Rattle.kq_model.specs.declared.act.Act.TheVariants as act
use Rattle.kq_model.specs.declared.object.Named.{Named}
use Rattle.kq_process.specs.declared.uses.Use.{Use}
use Rattle.kq_process.specs.declared.uses.Use.TheVariants as use_of

abbrev pub act_on : Use → Named → Act
act_on (use_of.Listen backlog) on = act.Listen on backlog
act_on use_of.Arrive on = act.Arrive on
act_on use_of.Connect on = act.Connect on
act_on (use_of.Receive bytes) on = act.Receive on bytes
act_on (use_of.Transmit bytes) on = act.Transmit on bytes
act_on (use_of.Shut side error) on = act.Shut on side error
act_on (use_of.LowWater side mark) on = act.LowWater on side mark
act_on (use_of.Read bytes) on = act.Read on bytes
act_on (use_of.Write bytes) on = act.Write on bytes
act_on (use_of.Seek offset) on = act.Seek on offset
