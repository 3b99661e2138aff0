-- Where the objects are counted by the tables, a descriptor more or less of a name in them can be counted.
use Rattle.std.proofs.Common.{◌≡◌, ◌<◌, ◌≤◌, ◌+◌, ◌^◌, ℕ, ℤ, pos, ◌≤ℤ◌, List, length, Some, arith}
use Rattle.std.proofs.lemmas.Int.{ints}
use Rattle.kq_model.specs.declared.object.Named.{Named}
use Rattle.kq_model.specs.declared.object.Named.TheVariants.{Socket, PipeRead, PipeWrite, Open, Kqueue}
use Rattle.kq_model.specs.Holders.{IsCounted, IsNamed}
use Rattle.kq_model.specs.Objects.{Objects, counted}
use Rattle.kq_model.specs.CountedWorld.{IsCountedWorld}
use Rattle.kq_model.specs.ProcessPlans.{names_of}
use Rattle.kq_model.specs.World.{World, named_by}
use Rattle.kq_model.proofs.HeldNames.{times-within}
use Rattle.kq_model.proofs.NamedWorld.{named-by}
use Rattle.kq_objects.specs.Fits.{HasRoomToHold}
use Rattle.kq_objects.specs.Holding.{CanHold, CanRelease}

at_least_one : (h : ℤ) (t : ℕ) → h ≡ pos t → 1 ≤ t → pos 1 ≤ℤ h
at_least_one h t is some = omega (arith, ints)

room_left : (h : ℤ) (t most : ℕ) → h ≡ pos t → t ≤ most → most + 1 < 2 ^ 64 → HasRoomToHold h
room_left h t most is within room = omega (arith, ints)

pub can_hold-counted : (n : Named) (o : Objects counted) (names : List Named) → IsCounted o names → IsNamed n names
    → length names + 1 < 2 ^ 64 → CanHold n o
can_hold-counted (Kqueue p) o names c there room = tt
can_hold-counted (Socket p) o names c there room =
    (at_least_one _ _ (c (Socket p)) there, room_left _ _ (length names) (c (Socket p)) (times-within (Socket p) names) room)
can_hold-counted (PipeRead p) o names c there room =
    (at_least_one _ _ (c (PipeRead p)) there, room_left _ _ (length names) (c (PipeRead p)) (times-within (PipeRead p) names) room)
can_hold-counted (PipeWrite p) o names c there room =
    (at_least_one _ _ (c (PipeWrite p)) there, room_left _ _ (length names) (c (PipeWrite p)) (times-within (PipeWrite p) names) room)
can_hold-counted (Open p f) o names c there room =
    (at_least_one _ _ (c (Open p f)) there, room_left _ _ (length names) (c (Open p f)) (times-within (Open p f) names) room)

pub can_release-counted : (n : Named) (o : Objects counted) (names : List Named) → IsCounted o names → IsNamed n names → CanRelease n o
can_release-counted (Kqueue p) o names c there = tt
can_release-counted (Socket p) o names c there = at_least_one _ _ (c (Socket p)) there
can_release-counted (PipeRead p) o names c there = at_least_one _ _ (c (PipeRead p)) there
can_release-counted (PipeWrite p) o names c there = at_least_one _ _ (c (PipeWrite p)) there
can_release-counted (Open p f) o names c there = at_least_one _ _ (c (Open p f)) there

-- ---- in a counted world

-- what a number names can be named once more, where the table has room
pub can_hold-world : (place pid number : ℕ) (n : Named) (w : World counted) → IsCountedWorld place w → named_by pid number w ≡ Some n
    → length (names_of w.table) + 1 < 2 ^ 64 → CanHold n w.objects
can_hold-world place pid number n w c found room = can_hold-counted n w.objects (names_of w.table) c.counts (named-by pid number n w found) room

-- and once less
pub can_release-world : (place pid number : ℕ) (n : Named) (w : World counted) → IsCountedWorld place w → named_by pid number w ≡ Some n
    → CanRelease n w.objects
can_release-world place pid number n w c found = can_release-counted n w.objects (names_of w.table) c.counts (named-by pid number n w found)
