use Rattle.std.proofs.Common.{subst, arith, true, false}
use Rattle.kq_input.specs.Unread.{HasMore}
use Rattle.kq_input.proofs.LineFeeds.{found, not_found}
use Rattle.kq_input.proofs.lines.Lines.add.Goals as goal

pub returns-in_ok-put-in-Some-clause-more : goal.returns-in_ok-put-in-Some-clause-more
returns-in_ok-put-in-Some-clause-more c =
    let at = c.in-Some.ensures in
    subst (λ old. HasMore 1048577 old (record { line = c.put.new.line.items; waiting = c.skip.new.self }) true) c.self.view_is
    (found 1048577 c.self.inside.line.items c.self.inside.arrived c.as_slice-came.result.now c.put.new.line.items c.skip.new.self c.in-Some.end
    c.as_slice-came.ensures at.0.high (λ j lt e. at.0.before j (omega arith) lt e) at.1 c.in_ok-put-in-Some.ensures.put c.skip.ensures)

pub returns-in_ok-put-in-None-clause-more : goal.returns-in_ok-put-in-None-clause-more
returns-in_ok-put-in-None-clause-more c =
    subst (λ old. HasMore 1048577 old (record { line = c.put-in-None.new.line.items; waiting = c.skip-in-None.new.self }) false) c.self.view_is
    (not_found 1048577 c.self.inside.line.items c.self.inside.arrived c.as_slice-came.result.now c.put-in-None.new.line.items c.skip-in-None.new.self
    c.as_slice-came.ensures (λ j lt e. c.in-None.ensures j (omega arith) lt e) c.in_ok-put-in-None.ensures.put c.skip-in-None.ensures)
