-- The pieces so far stand behind the others.
use Rattle.std.proofs.Common.{◌≡◌, ◌++◌}
use Rattle.std.specs.Prelude.{flat_map}
use Rattle.kq_trace.proofs.sink.KeptSink.accept.Given as goal

abbrev pub invariant-loop-piece : goal.invariant-loop-piece
invariant-loop-piece g l = l.self.events.items ≡ l.initial.self.events.items ++ flat_map (λ piece. piece.items) l.yielded
