-- The members so far.
use Rattle.std.proofs.Common.{◌≡◌, ◌++◌, drop, false, map, take}
use Rattle.kq_spell.specs.Again.{FitMembers}
use Rattle.kq_spell.specs.Texts.{member_of, members_rest}
use Rattle.kq_spell.proofs.members.put_members.Given as goal

abbrev pub invariant-loop-member : goal.invariant-loop-member
invariant-loop-member l = record {
  text : l.out.items ++ members_rest l.is_later (drop l.member-index l.members) ≡ l.initial.out.items ++ members_rest false l.members;
  fits : FitMembers (map member_of (take l.member-index l.members));
}
