use Rattle.std.proofs.Common.{ap, ◌∙◌}
use Rattle.kq_table.specs.Threads.{links_in, passed_over, ends_past}
use Rattle.kq_table.proofs.link.unlink.Goals as goal

pub returns-in-Some-clause-links : goal.returns-in-Some-clause-links
returns-in-Some-clause-links g c = c.join.ensures.links ∙ ap (λ o. passed_over o (links_in c.args.thread c.args.nodes.now)) c.in-Some.ensures

pub returns-in-Some-clause-ends : goal.returns-in-Some-clause-ends
returns-in-Some-clause-ends g c = c.join.ensures.ends ∙ ap (λ o. ends_past o c.args.ends.now) c.in-Some.ensures

pub returns-in_default-clause-links : goal.returns-in_default-clause-links
returns-in_default-clause-links g c = ap (λ o. passed_over o (links_in c.args.thread c.args.nodes.now)) c.in_default.ensures

pub returns-in_default-clause-ends : goal.returns-in_default-clause-ends
returns-in_default-clause-ends g c = ap (λ o. ends_past o c.args.ends.now) c.in_default.ensures
