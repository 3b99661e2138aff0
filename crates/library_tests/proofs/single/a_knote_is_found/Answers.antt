-- A kqueue has no knotes at first.
use Rattle.std.proofs.Common.{◌∙◌, refl}
use Rattle.kq_model.specs.Knote.{find_knote}
use Rattle.library_tests.proofs.single.a_knote_is_found.Goals as goal

pub attach-requires-clause-absent : goal.attach-requires-clause-absent
unfolding find_knote
attach-requires-clause-absent g c = rw (c.reserve.ensures.knotes ∙ c.new-knotes.ensures.knotes) refl
