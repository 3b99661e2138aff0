-- The targets that a record touches: a process that starts or exits, and the objects of which something is noted.
-- What is seen of any other target stays as it is.
use Rattle.std.specs.Prelude.{ℕ, ◌==◌, Bool, false, ◌||◌, Option, Some, None}
use Rattle.kq_model.specs.declared.object.Target.{Target}
use Rattle.kq_model.specs.declared.object.Target.TheVariants.{Process}
use Rattle.kq_model.specs.Objects.{counted}
use Rattle.kq_model.specs.Processes.{Start, Exit}
use Rattle.kq_model.specs.Touching.{touched_by}
use Rattle.kq_model.specs.World.{World, Plan}

unfoldable pub starts : ℕ → Option Start → Bool
starts pid None = false
starts pid (Some s) = s.pid == pid

unfoldable pub ends : ℕ → Option Exit → Bool
ends pid None = false
ends pid (Some e) = e.pid == pid

unfoldable pub is_touched : Target → Plan → World counted → Bool
is_touched (Process pid) p w = starts pid p.started || ends pid p.ended
is_touched t p w = touched_by t p.doings w.objects
