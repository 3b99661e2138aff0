use Rattle.std.proofs.Common.{Some, sym, ap, ◌∙◌}
use Rattle.kq_line.proofs.SignedLookUps.{truth_found}
use Rattle.kq_line.proofs.found.Found.truth_at.Goals as goal

pub returns-in-Truth : goal.returns-in-Truth
returns-in-Truth c = truth_found c.args.self.now c.args.name.now c.in-Truth.truth (ap Some (sym c.in-Truth.is) ∙ c.in_ok-truth.ensures)
