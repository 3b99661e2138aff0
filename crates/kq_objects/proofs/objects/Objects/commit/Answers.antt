use Rattle.std.proofs.Common.{◌≡◌, ◌∙◌, sym, ap, rules}
use Rattle.kq_model.specs.Objects.{all_done}
use Rattle.kq_model.proofs.CountedObjects.{all_done-counted}
use Rattle.kq_objects.specs.Objects.{objects_of}
use Rattle.kq_objects.proofs.objects.Objects.commit.Goals as goal

pub returns-clause-model : goal.returns-clause-model
returns-clause-model c = λ m stands.
    let done : objects_of c.note_in_turn.new.self ≡ all_done c.args.plan.doings (objects_of c.args.self.now) = search rules in
    done ∙ ap (all_done c.args.plan.doings) stands ∙ sym (all_done-counted c.args.plan.doings m)
