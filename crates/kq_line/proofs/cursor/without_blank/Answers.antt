-- The blank is the gap.
use Rattle.std.proofs.Common.{[], ◌∷◌, refl, inl}
use Rattle.kq_line.proofs.cursor.without_blank.Goals as goal

pub returns-in-Some-clause-cut : goal.returns-in-Some-clause-cut
returns-in-Some-clause-cut c = (32 ∷ [], (inl refl, tt), c.in-Some.ensures.cut)
