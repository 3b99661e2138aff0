-- A number that names a kqueue names a live one, under this number and of this process.
use Rattle.std.specs.Prelude.{◌≡◌, ◌==◌, ℕ, Bool, true, ◌&&◌, List, All}
use Rattle.std.specs.List.{list_any}
use Rattle.kq_model.specs.declared.object.Named.TheVariants.{Kqueue}
use Rattle.kq_model.specs.Descriptors.{Descriptor}
use Rattle.kq_model.specs.Hearing.{Hearing}
use Rattle.kq_model.specs.Objects.{Keeping}
use Rattle.kq_model.specs.System.{Live, System}
use Rattle.kq_model.specs.World.{Planned, Impossible, Possible}

module _ {S : Type 0} {h : Hearing S} where
  -- the kqueue that was made at this place
  abbrev pub is_live_as : ℕ → ℕ → ℕ → Live h → Bool
  is_live_as place pid number l = (l.place == place) && ((l.owner == pid) && (l.number == number))

  abbrev pub has_live : ℕ → ℕ → ℕ → List (Live h) → Bool
  has_live place pid number live = list_any (is_live_as place pid number) live

  abbrev pub NamesLive : List (Live h) → Descriptor → Type 0
  NamesLive live d = (place : ℕ) → d.named ≡ Kqueue place → has_live place d.pid d.number live ≡ true

  abbrev pub AreAllLive : {A B C D : Type 0} {k : Keeping A B C D} → System h k → Type 0
  AreAllLive s = All (NamesLive s.live) s.world.table

-- what a record opens is no kqueue
abbrev pub NamesNoKqueue : Descriptor → Type 0
NamesNoKqueue d = (place : ℕ) → ¬ (d.named ≡ Kqueue place)

abbrev pub OpensNoKqueue : Planned → Type 0
OpensNoKqueue (Impossible why) = Unit {0}
OpensNoKqueue (Possible p) = All NamesNoKqueue p.opened
