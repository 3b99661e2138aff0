use Rattle.std.proofs.Common.{subst, arith}
use Rattle.kq_knote.specs.Quiet.{AreLater}
use Rattle.kq_knote.specs.Reserved.{Reserved}
use Rattle.kq_knote.proofs.QuietLaws.{later-all}
use Rattle.kq_knote.proofs.knotes.Knotes.is_quiet.Goals as goal

pub returns : goal.returns
returns c = λ _.
    subst (λ (v : Reserved). AreLater c.args.from c.args.to v.knotes) c.self.view_is
    (later-all c.self.inside.since c.self.inside.soonest c.args.from c.args.to c.self.inside.rows.rows c.self.invariant.begun c.requires.ordered
    c.requires.within (omega arith) (omega arith) c.self.invariant.quiet)
