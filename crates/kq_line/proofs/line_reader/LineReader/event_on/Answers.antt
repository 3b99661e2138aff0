-- The whole line is the record.
use Rattle.std.proofs.Common.{◌≡◌, length, rules, tests}
use Rattle.kq_line.proofs.Parts.{line_event}
use Rattle.kq_line.proofs.line_reader.LineReader.event_on.Goals as goal

pub returns : goal.returns
returns c =
    let none : length c.in_ok-tail.tail.now ≡ 0 = search (rules, tests) in
    line_event c.args.line.now c.in_ok-members.members.now c.in_ok-tail.tail.now c.record_members.new.found c.event_from.result
    c.in_ok-members.ensures.cut none c.in_ok-tail.ensures.value c.event_from.ensures
