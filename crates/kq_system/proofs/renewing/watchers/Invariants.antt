use Rattle.std.proofs.Common.{take}
use Rattle.kq_model.specs.Subjects.{HaveSubjects}
use Rattle.kq_system.specs.Showing.{Each, IsListed}
use Rattle.kq_system.proofs.renewing.watchers.Given as goal

abbrev pub invariant-loop-at : goal.invariant-loop-at
invariant-loop-at l = Each (λ place v. HaveSubjects (IsListed place l.watching.table) v.kq.kq.knotes) (take l.at l.live.entries)
