-- When a descriptor more, or one less, can be counted.
use Rattle.std.specs.Prelude.{pos, ◌≤ℤ◌}
use Rattle.kq_model.specs.declared.object.Named.{Named}
use Rattle.kq_model.specs.declared.object.Named.TheVariants.{Kqueue}
use Rattle.kq_model.specs.Holders.{holders_of}
use Rattle.kq_model.specs.Objects.{Objects, counted}
use Rattle.kq_objects.specs.Fits.{HasRoomToHold}

-- a descriptor names the object already, and fewer than 2^64 - 1 do; of a kqueue nothing is counted
abbrev pub CanHold : Named → Objects counted → Type 0
CanHold (Kqueue place) o = Unit {0}
CanHold n o = (pos 1 ≤ℤ holders_of n o) × HasRoomToHold (holders_of n o)

-- a descriptor names the object; of a kqueue nothing is counted
abbrev pub CanRelease : Named → Objects counted → Type 0
CanRelease (Kqueue place) o = Unit {0}
CanRelease n o = pos 1 ≤ℤ holders_of n o
