use Rattle.kq_process.proofs.shelf.Shelf.find.Goals as goal

pub returns-clause-place : goal.returns-clause-place
returns-clause-place g c = rw (← c.self.view_is, ← c.deref.ensures.value) c.find.ensures
