-- What the world keeps true: its objects are counted by the descriptors that name them.
use Rattle.std.specs.Prelude.{◌≡◌, ℕ, ◌<◌, ◌^◌, List, [], ◌∷◌, length, map}
use Rattle.kq_model.specs.declared.object.Named.{Named}
use Rattle.kq_model.specs.Descriptors.{Descriptor}
use Rattle.kq_model.specs.Holding.{release}
use Rattle.kq_model.specs.Holders.{hold, AreHeld, IsCounted}
use Rattle.kq_model.specs.Objects.{Objects, counted}
use Rattle.kq_model.specs.ProcessPlans.{names_of}
use Rattle.kq_objects.specs.Holding.{CanHold, CanRelease}

-- each object knows how many descriptors name it, none is there that no descriptor names, and `number` is
-- that of all descriptors
pub record IsSound (table : List Descriptor) (objects : Objects counted) (number : ℕ) : Type 0 where
  pub counted : IsCounted objects (names_of table)
  pub held : AreHeld objects
  pub number_is : number ≡ length table
  -- it is kept in 64 bits
  pub fits : number < 2 ^ 64

-- what some descriptors name, by their numbers
abbrev pub names_in : List (ℕ × Named) → List Named
names_in ds = map (λ (d : ℕ × Named). d.1) ds

-- each can be held after those before it
abbrev pub CanHoldEach : List Named → Objects counted → Type 0
CanHoldEach [] o = Unit {0}
CanHoldEach (n ∷ ns) o = CanHold n o × CanHoldEach ns (hold n o)

-- each can be released after those before it
abbrev pub CanReleaseEach : List Named → Objects counted → Type 0
CanReleaseEach [] o = Unit {0}
CanReleaseEach (n ∷ ns) o = CanRelease n o × CanReleaseEach ns (release n o)
