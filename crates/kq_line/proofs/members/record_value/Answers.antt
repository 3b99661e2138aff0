-- The list of changes is the first.
use Rattle.std.proofs.Common.{true, refl}
use Rattle.kq_line.proofs.Parts.{changes_part, scalar_of_record, shows_list}
use Rattle.kq_line.proofs.members.record_value.Goals as goal

pub returns-in_ok-tail-in-Some-clause-value : goal.returns-in_ok-tail-in-Some-clause-value
returns-in_ok-tail-in-Some-clause-value c =
    changes_part (record { members = c.args.found.now.members; changes = c.change_list.new.changes; has_changes = true })
    c.args.text.now c.in-Some.items.now c.in_ok-tail-in-Some.tail.now c.change_list.new.changes.items
    c.in-Some.ensures.cut c.in_ok-tail-in-Some.ensures.value refl refl

pub returns-in_ok-tail-in-Some-clause-keeps : goal.returns-in_ok-tail-in-Some-clause-keeps
returns-in_ok-tail-in-Some-clause-keeps c =
    shows_list c.args.found.now (record { members = c.args.found.now.members; changes = c.change_list.new.changes; has_changes = true })
    c.if-found.false refl

pub returns-in-None-clause-value : goal.returns-in-None-clause-value
returns-in-None-clause-value c = scalar_of_record c.args.found.now c.args.text.now c.scalar.result c.scalar.ensures.value
