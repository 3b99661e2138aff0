-- The words for what became of a kevent.
use Rattle.std.specs.Prelude.{ℕ, List, codes}
use Rattle.kq_check.specs.declared.became.Step.{Step}
use Rattle.kq_check.specs.declared.became.Step.TheVariants as step

abbrev pub step_text : Step → List ℕ
step_text step.RegisteredReady = codes "registered, the condition held: put at the back"
step_text step.Registered = codes "registered, the condition did not hold"
step_text step.RegisteredDisabled = codes "registered, disabled"
step_text step.Followed = codes "registered for the child, with a notice: put at the back"
step_text step.EnabledReady = codes "enabled, the condition held: put at the back"
step_text step.Enabled = codes "enabled, the condition did not hold"
step_text step.Disabled = codes "disabled"
step_text step.ChangedReady = codes "changed, the condition held: put at the back"
step_text step.Changed = codes "changed"
step_text step.Deleted = codes "deleted by DELETE"
step_text step.NumberClosed = codes "deleted, its number was closed"
step_text step.Exited = codes "deleted, the process exited and there was nothing to tell"
step_text step.Told = codes "told, the condition held: put at the back"
step_text step.ToldDisabled = codes "told, the condition held, but it was disabled"
step_text step.ReturnedCleared = codes "returned, reset by CLEAR"
step_text step.ReturnedDisabled = codes "returned, disabled by DISPATCH"
step_text step.ReturnedDeleted = codes "returned, deleted by ONESHOT"
step_text step.ReturnedNotice = codes "returned, its notice was told"
step_text step.Returned = codes "returned, put at the back"
step_text step.Idle = codes "looked at, its condition held no more: left the queue"
