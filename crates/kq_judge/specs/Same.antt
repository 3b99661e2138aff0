-- Kevents that are the same, but for members that are not compared. What names a kevent is always compared.
use Rattle.std.specs.Prelude.{◌≡◌, ◌<◌, ℕ, Bool, false, ◌&&◌, ◌==◌, List}
use Rattle.std.specs.List.{list_any, AllZip}
use Rattle.kq_model.specs.declared.filter.Filter.{Filter}
use Rattle.kq_model.specs.declared.kevent.Kevent.{Kevent}
use Rattle.kq_model.specs.CallLaws.{key_of_event}
use Rattle.kq_model.specs.Knote.{filter_eq}
use Rattle.kq_judge.specs.declared.member.Ignored.{Ignored}
use Rattle.kq_judge.specs.declared.member.Member.{Member}
use Rattle.kq_judge.specs.declared.member.Member.TheVariants.{Flags, Fflags, Datum, Udata}

-- a number for each member, to tell them apart
abbrev pub member_number : Member → ℕ
member_number Flags = 0
member_number Fflags = 1
member_number Datum = 2
member_number Udata = 3

-- this one says that the member is not compared in events of the filter
abbrev pub ignores : Filter → Member → Ignored → Bool
ignores filter member i = filter_eq filter i.filter && member_number member == member_number i.member

-- the member is not compared in events of the filter
abbrev pub is_ignored : List Ignored → Filter → Member → Bool
is_ignored ignored filter member = list_any (ignores filter member) ignored

-- two kevents have one value of a member
abbrev pub AgreeOn : Member → Kevent → Kevent → Type 0
AgreeOn Flags a b = a.flags ≡ b.flags
AgreeOn Fflags a b = a.fflags ≡ b.fflags
AgreeOn Datum a b = a.datum ≡ b.datum
AgreeOn Udata a b = a.udata ≡ b.udata

-- one kevent, with the same value of each member that is compared
pub record IsSame (ignored : List Ignored) (a b : Kevent) : Type 0 where
  pub key : key_of_event a ≡ key_of_event b
  pub members : (member : Member) → is_ignored ignored b.filter member ≡ false → AgreeOn member a b

-- of the members that are compared, in the order of their numbers, this is the first on which two kevents differ
pub record IsFirstDifference (ignored : List Ignored) (a b : Kevent) (member : Member) : Type 0 where
  pub compared : is_ignored ignored b.filter member ≡ false
  pub differ : AgreeOn member a b → ⊥
  pub first : (other : Member) → member_number other < member_number member
      → is_ignored ignored b.filter other ≡ false
      → AgreeOn other a b

-- as many events, each the same as the one at its place
abbrev pub AreSame : List Ignored → List Kevent → List Kevent → Type 0
AreSame ignored = AllZip (IsSame ignored)
