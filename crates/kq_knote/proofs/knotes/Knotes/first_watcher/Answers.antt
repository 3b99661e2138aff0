use Rattle.std.proofs.Common.{ap, ◌∙◌}
use Rattle.kq_knote.specs.Index.{first_hinted}
use Rattle.kq_knote.specs.Reserved.{Reserved}
use Rattle.kq_knote.proofs.IndexLaws.{first-only}
use Rattle.kq_knote.proofs.knotes.Knotes.first_watcher.Goals as goal

pub returns : goal.returns
returns c = λ posted only.
    c.first_watching.ensures ∙ first-only posted c.args.target only c.self.inside.rows.rows
    ∙ ap (λ (v : Reserved). first_hinted posted v.knotes) c.self.view_is
