use Rattle.std.proofs.Common.{Some, sym, ap, ◌∙◌}
use Rattle.kq_line.proofs.LookUps.{flags_found}
use Rattle.kq_line.proofs.found.Found.flags_at.Goals as goal

pub returns-in-Flags : goal.returns-in-Flags
returns-in-Flags c = flags_found c.args.self.now c.args.name.now c.in-Flags.flags.0 _ (ap Some (sym c.in-Flags.is) ∙ c.in_ok-flags.ensures) (λ d h. h)
