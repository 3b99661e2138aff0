-- Who calls kevent(2): what registration, and a whole call, need besides the changes.
use Rattle.std.specs.Prelude.{ℕ}
use Rattle.kq_model.specs.Views.{Views}

pub record Caller : Type 0 where
  -- what is seen of the world
  pub views : Views
  -- the pid of the process that owns the kqueue
  pub owner : ℕ
  -- of the trace's format
  pub version : ℕ
