use Rattle.std.proofs.Common.{◌≡◌, ◌++◌, ◌∷◌, [], rules}
use Rattle.kq_projection.specs.Kqueues.{IsNew}
use Rattle.kq_projection.proofs.history.kqueues.Kqueues.bear.Goals as goal

pub returns-clause-concerned : goal.returns-clause-concerned
returns-clause-concerned c =
    let here = c.in_ok-concerned.concerned in
    let is : IsNew c.args.place c.args.owner here = search rules in
    let added : c.push-2.new.self.items ≡ c.args.self.now.concerned.items ++ here ∷ [] = search rules in
    (here, is, added)
