use Rattle.kq_line.proofs.Parts.{change_value}
use Rattle.kq_line.proofs.changes.change.Goals as goal

pub returns-clause-value : goal.returns-clause-value
returns-clause-value c =
    change_value c.args.text.now c.in_ok-members.members.now c.in_ok-tail.tail.now c.change_members.new.change c.in_ok-change.change
    c.in_ok-members.ensures.cut c.in_ok-tail.ensures.value c.in_ok-change.ensures
