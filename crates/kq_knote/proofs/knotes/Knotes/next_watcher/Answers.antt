use Rattle.std.proofs.Common.{sym, ap, ◌∙◌, subst}
use Rattle.kq_knote.specs.Index.{first_hinted, behind, IsHinted}
use Rattle.kq_knote.specs.Reserved.{Reserved}
use Rattle.kq_knote.proofs.IndexLaws.{next-only}
use Rattle.kq_knote.proofs.knotes.Knotes.next_watcher.Goals as goal

pub returns : goal.returns
returns c = λ target posted only hinted.
    let key = c.args.key in
    c.next_watching_at.ensures
    ∙ next-only posted target only key c.self.inside.rows.rows
    (subst (λ (v : Reserved). IsHinted posted key v.knotes) (sym c.self.view_is) hinted)
    ∙ ap (λ (v : Reserved). first_hinted posted (behind key v.knotes)) c.self.view_is
