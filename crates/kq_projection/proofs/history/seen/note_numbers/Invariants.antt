use Rattle.std.proofs.Common.{◌≡◌, ◌&&◌, ◌++◌, ℕ, leb, cond, take, None}
use Rattle.std.specs.List.{flat_map}
use Rattle.kq_model.specs.World.{views_of}
use Rattle.kq_process.specs.World.{world_of}
use Rattle.kq_projection.specs.Keys.{pair_eq}
use Rattle.kq_projection.specs.Seen.{left_at}
use Rattle.kq_projection.specs.Timeline.{value_at}
use Rattle.kq_projection.specs.Timelines.{marks_at, AreUpTo}
use Rattle.kq_projection.specs.Touched.{has_number, AreAmong}
use Rattle.kq_projection.proofs.history.seen.note_numbers.Given as goal

abbrev pub invariant-loop-number : goal.invariant-loop-number
invariant-loop-number l = record {
  up_to : AreUpTo pair_eq l.place l.timelines.table;
  noted : (pid number at : ℕ) → value_at at None (marks_at pair_eq l.timelines.table (pid, number))
      ≡ cond (has_number pid number (take l.number-index l.numbers) && leb l.place at)
      ((views_of (world_of l.world)).descriptor pid number)
      (value_at at None (marks_at pair_eq l.initial.timelines.table (pid, number)));
  named : AreAmong (flat_map (left_at l.initial.timelines.table l.place l.tells) (take l.number-index l.numbers)
      ++ l.initial.targets.items) l.targets.items;
}
