use Rattle.std.proofs.Common.{sym, ap, ◌∙◌}
use Rattle.kq_model.specs.Knote.{find_knote}
use Rattle.kq_knote.specs.Index.{hinted_keys}
use Rattle.kq_knote.specs.Reserved.{Reserved}
use Rattle.kq_knote.proofs.IndexLaws.{keys-only}
use Rattle.kq_knote.proofs.RowLaws.{find_row-knotes}
use Rattle.kq_knote.proofs.knotes.Knotes.lone_watcher.Goals as goal

pub returns-clause-found : goal.returns-clause-found
returns-clause-found c = λ knote is.
    ap (λ (v : Reserved). find_knote knote.key v.knotes) (sym c.self.view_is)
    ∙ sym (find_row-knotes knote.key c.self.inside.rows.rows) ∙ c.lone_watching.ensures.found knote is

pub returns-clause-alone : goal.returns-clause-alone
returns-clause-alone c = λ knote is posted only.
    ap (λ (v : Reserved). hinted_keys posted v.knotes) (sym c.self.view_is)
    ∙ sym (keys-only posted c.args.target only c.self.inside.rows.rows) ∙ c.lone_watching.ensures.alone knote is
