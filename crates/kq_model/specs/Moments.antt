-- A trace by what its records do: the plan of each in the world that the records before it left, the worlds
-- between them, and the moments of the possible ones. Nothing here knows a kqueue's state.
use Rattle.std.specs.Prelude.{ℕ, ◌+◌, nat_lt, List, [], ◌∷◌, ◌++◌, if◌then◌else◌}
use Rattle.kq_model.specs.declared.event.Event.{Event}
use Rattle.kq_model.specs.Moment.{Moment, moment_of}
use Rattle.kq_model.specs.Objects.{Keeping}
use Rattle.kq_model.specs.Plans.{plan}
use Rattle.kq_model.specs.Views.{Views}
use Rattle.kq_model.specs.World.{World, Planned, Impossible, Possible, seen_world, views_of, carried_out}

module _ {A B C D : Type 0} {k : Keeping A B C D} where
  -- the world after the record at a place
  unfoldable pub world_by : ℕ → Planned → World k → World k
  world_by place (Impossible why) w = w
  world_by place (Possible p) w = carried_out place p w

  -- the plans of these records, the first of which stands at `place`
  unfoldable pub plans_from : ℕ → World k → List Event → List Planned
  plans_from place w [] = []
  plans_from place w (e ∷ es) =
      plan place e (seen_world w) ∷ plans_from (place + 1) (world_by place (plan place e (seen_world w)) w) es

  unfoldable pub moment_by : ℕ → ℕ → Planned → World k → List Moment
  moment_by version place (Impossible why) w = []
  moment_by version place (Possible p) w = moment_of version place p w ∷ []

  -- of the possible records
  unfoldable pub moments_from : ℕ → ℕ → World k → List Planned → List Moment
  moments_from version place w [] = []
  moments_from version place w (q ∷ qs) =
      moment_by version place q w ++ moments_from version (place + 1) (world_by place q w) qs

  -- the world after the record at `last`: before the first record it is `w`, and after the last one it stays
  unfoldable pub world_at : ℕ → ℕ → World k → List Planned → World k
  world_at last place w [] = w
  world_at last place w (q ∷ qs) = if nat_lt last place then w else world_at last (place + 1) (world_by place q w) qs

  -- the world after all these records
  unfoldable pub world_after : ℕ → World k → List Planned → World k
  world_after place w [] = w
  world_after place w (q ∷ qs) = world_after (place + 1) (world_by place q w) qs

  -- what is seen of the world after the record at `last`
  abbrev pub views_at : ℕ → World k → List Planned → ℕ → Views
  views_at place w qs last = views_of (seen_world (world_at last place w qs))
