use Rattle.std.proofs.Common.{◌++◌, ℕ, List, Option, OnOk, sym, subst}
use Rattle.std.proofs.lemmas.List.{append-nil}
use Rattle.kq_model.specs.declared.object.Target.{Target}
use Rattle.kq_model.specs.World.{named_by, views_of}
use Rattle.kq_process.specs.World.{world_of}
use Rattle.kq_projection.specs.RecordSubjects.{option_list}
use Rattle.kq_projection.specs.Touched.{all_named, targets_named, AreAmong}
use Rattle.kq_projection.proofs.history.touched.add_by_number.Goals as goal

pub returns-in-Some : goal.returns-in-Some
unfolding views_of
returns-in-Some c =
    let w = world_of c.args.world.now in
    let old : List Target = c.args.targets.now.items in
    let new : List Target = c.add_named.new.targets.items in
    let named : List Target = targets_named (named_by c.in-Some.pid c.in-Some.number w) in
    subst (λ (x : Option (ℕ × ℕ)). OnOk c.add_named.result (AreAmong (all_named (views_of w) (option_list x) ++ old) new)) (sym c.in-Some.is)
    (subst (λ (ts : List Target). OnOk c.add_named.result (AreAmong (ts ++ old) new)) (sym (append-nil named))
    (subst (λ n. OnOk c.add_named.result (AreAmong (targets_named n ++ old) new)) c.descriptor.ensures c.add_named.ensures))
