-- What holds of every world that records lead to: its objects count the descriptors that name them, its
-- table is in rising order, and nothing is named yet that later records make.
use Rattle.std.specs.Prelude.{◌≡◌, ℕ, ◌+◌, ◌<◌, true, List, All}
use Rattle.kq_model.specs.declared.object.Named.{Named}
use Rattle.kq_model.specs.declared.object.Named.TheVariants as named
use Rattle.kq_model.specs.Descriptors.{Descriptor, IsRising}
use Rattle.kq_model.specs.Holders.{AreHeld, IsCounted}
use Rattle.kq_model.specs.Objects.{counted}
use Rattle.kq_model.specs.Processes.{Process, is_live}
use Rattle.kq_model.specs.ProcessPlans.{names_of}
use Rattle.kq_model.specs.World.{World, Planned, Impossible, Possible, carried_out}

-- the place of the record that made what a descriptor names
abbrev pub place_named : Named → ℕ
place_named (named.Socket place) = place
place_named (named.PipeRead place) = place
place_named (named.PipeWrite place) = place
place_named (named.Open place file) = place
place_named (named.Kqueue place) = place

abbrev pub NamesBelow : ℕ → Descriptor → Type 0
NamesBelow next d = place_named d.named < next

-- it belongs to a live process
abbrev pub IsOwned : List Process → Descriptor → Type 0
IsOwned processes d = is_live d.pid processes ≡ true

-- `next` is the place of the next record
pub record IsCountedWorld (next : ℕ) (w : World counted) : Type 0 where
  -- as many descriptors of the table name an object as the object counts
  pub counts : IsCounted w.objects (names_of w.table)
  pub held : AreHeld w.objects
  pub rising : IsRising w.table
  pub owned : All (IsOwned w.processes) w.table
  pub below : All (NamesBelow next) w.table

-- a record, planned at this place in this world, keeps that
abbrev pub Keeps : ℕ → World counted → Planned → Type 0
Keeps place w (Impossible why) = Unit {0}
Keeps place w (Possible p) = IsCountedWorld (place + 1) (carried_out place p w)

pub record KeepsCounts (place : ℕ) (w : World counted) (planned : Planned) : Type 0 where
  pub keeps : IsCountedWorld place w → Keeps place w planned
