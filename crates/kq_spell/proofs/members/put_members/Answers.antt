-- A member at a time.
use Rattle.std.proofs.Common.{◌∙◌}
use Rattle.std.proofs.lemmas.Result.{on_ok_weaker}
use Rattle.kq_spell.proofs.MemberTexts.{member_taken, members_ended, members_fit_all, members_fit_more, words_of}
use Rattle.kq_spell.proofs.members.put_members.Goals as goal

pub put_member-requires-clause-name : goal.put_member-requires-clause-name
put_member-requires-clause-name c = (words_of c.args.members.now c.loop-member.member-index _ c.loop-member-test.true c.requires).0

pub put_member-requires-clause-value : goal.put_member-requires-clause-value
put_member-requires-clause-value c = (words_of c.args.members.now c.loop-member.member-index _ c.loop-member-test.true c.requires).1

pub loop-member-preserved : goal.loop-member-preserved
loop-member-preserved c = record {
  text = member_taken c.loop-member.is_later c.args.members.now c.loop-member.member-index _ c.loop-member.out.items c.put_member.new.out.items c.loop-member-test.true
      c.in_ok-put_member.ensures.text ∙ c.loop-member.invariant.text;
  fits = members_fit_more c.args.members.now c.loop-member.member-index _ c.loop-member-test.true c.loop-member.invariant.fits
      (words_of c.args.members.now c.loop-member.member-index _ c.loop-member-test.true c.requires).0 c.in_ok-put_member.ensures.fits;
}

pub returns-clause-text : goal.returns-clause-text
returns-clause-text c = on_ok_weaker c.end_line.result
    (members_ended c.loop-member.is_later c.args.members.now c.loop-member.member-index c.args.out.now.items c.loop-member.out.items c.end_line.new.out.items c.loop-member-test.false c.loop-member.invariant.text)
    c.end_line.ensures

pub returns-clause-fits : goal.returns-clause-fits
returns-clause-fits c = on_ok_weaker c.end_line.result
    (λ end. members_fit_all c.args.members.now c.loop-member.member-index c.loop-member-test.false c.loop-member.invariant.fits) c.end_line.ensures
