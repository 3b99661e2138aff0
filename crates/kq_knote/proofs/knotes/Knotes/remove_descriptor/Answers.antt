use Rattle.std.proofs.Common.{List, ap, ◌∙◌}
use Rattle.kq_model.specs.declared.filter.Filter.TheVariants.{Write, Vnode}
use Rattle.kq_model.specs.declared.key.Key.{Key}
use Rattle.kq_model.specs.Knote.{without_key, without_knote}
use Rattle.kq_model.specs.Tallied.{Knote}
use Rattle.kq_model.proofs.NumberLaws.{without-number, without-number_keys, three, three_keys}
use Rattle.kq_model.proofs.Tallied.{without_number-tallied}
use Rattle.kq_knote.proofs.knotes.Knotes.remove_descriptor.Goals as goal

pub returns-clause-knotes : goal.returns-clause-knotes
returns-clause-knotes c =
    c.remove-3.ensures.knotes
    ∙ ap (λ (ks : List Knote). without_knote (record { ident = c.from-ident.result; filter = Vnode }) ks)
    (c.remove-2.ensures.knotes ∙ ap (λ (ks : List Knote). without_knote (record { ident = c.from-ident.result; filter = Write }) ks) c.remove.ensures.knotes)
    ∙ ap (λ n. three n c.args.self.now.knotes) c.from-ident.ensures
    ∙ without-number c.args.number c.args.self.now.knotes

pub returns-clause-queue : goal.returns-clause-queue
returns-clause-queue c =
    c.remove-3.ensures.queue
    ∙ ap (λ (q : List Key). without_key (record { ident = c.from-ident.result; filter = Vnode }) q)
    (c.remove-2.ensures.queue ∙ ap (λ (q : List Key). without_key (record { ident = c.from-ident.result; filter = Write }) q) c.remove.ensures.queue)
    ∙ ap (λ n. three_keys n c.args.self.now.queue) c.from-ident.ensures
    ∙ without-number_keys c.args.number c.args.self.now.queue

pub returns-clause-model : goal.returns-clause-model
returns-clause-model c = λ ms same. returns-clause-knotes c ∙ without_number-tallied c.args.self.now.knotes ms same c.args.number
