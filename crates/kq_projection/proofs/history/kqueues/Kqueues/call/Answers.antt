-- A call without changes names nothing.
use Rattle.std.proofs.Common.{◌≡◌, [], get_or, refl, sym, subst, rules}
use Rattle.std.proofs.lemmas.List.{nil_from_length}
use Rattle.kq_projection.specs.Kqueues.{IsNamedAt}
use Rattle.kq_projection.proofs.Known.{grows-nothing}
use Rattle.kq_projection.proofs.history.kqueues.Kqueues.call.Goals as goal

pub returns-then-is_empty-clause-named : goal.returns-then-is_empty-clause-named
returns-then-is_empty-clause-named g c =
    let k = c.args.self.now in
    let none : c.args.changes.now ≡ [] = nil_from_length c.args.changes.now (search rules) in
    subst (λ changes. IsNamedAt c.args.place (g.V.Views.sees c.args.views.now) changes k k) (sym none) (record {
      length_is = refl;
      owners = λ index d. refl;
      named = λ index d within here. grows-nothing (get_or k.concerned.items index d).sources;
      others = λ index d away. refl;
    })
