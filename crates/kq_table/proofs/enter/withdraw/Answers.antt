use Rattle.std.proofs.Common.{ℕ, Option, refl, sym, ap, ◌∙◌, subst}
use Rattle.std.specs.HashMap.{get as found}
use Rattle.std.specs.Option.{option_and_then}
use Rattle.kq_table.specs.declared.node.Links.{Links}
use Rattle.kq_table.specs.declared.node.Thread.TheVariants.{Watch}
use Rattle.kq_table.specs.Kept.{ends_of, AreWatched}
use Rattle.kq_table.specs.Threads.{rows_in, links_in, without_slot}
use Rattle.kq_table.proofs.EnterLaws.{withdraw-nothing, withdraw-linked}
use Rattle.kq_table.proofs.enter.withdraw.Goals as goal

pub returns-in_default-clause-watched : goal.returns-in_default-clause-watched
returns-in_default-clause-watched g c = λ slots row here there distinct are.
    let target_of = g.T.Keyed.target_of in
    withdraw-nothing g.T.Target.PartialEq.eq target_of g.met.T.Target.Eq.laws (rows_in c.args.nodes.now) (links_in Watch c.args.nodes.now) c.args.targets.now slots c.args.slot row here are
    (sym (c.in_default.ensures ∙ ap (option_and_then target_of) here))

pub returns-clause-watched : goal.returns-clause-watched
returns-clause-watched g c = λ slots row here there distinct are.
    let alike = g.T.Target.PartialEq.eq in
    let target_of = g.T.Keyed.target_of in
    let nodes = c.args.nodes.now in
    let target = c.in-Some.target in
    subst (λ (f : ℕ → Option Links). AreWatched alike target_of (rows_in nodes) f c.unlink_from.new.targets (without_slot c.args.slot slots)) (sym c.unlink_from.ensures.links)
    (withdraw-linked alike target_of g.met.T.Target.Eq.laws (rows_in nodes) (links_in Watch nodes) c.args.targets.now slots c.args.slot row here are target
    (sym (c.in-Some.ensures ∙ ap (option_and_then target_of) here)) (ends_of (found alike c.args.targets.now target)) refl c.unlink_from.new.targets there c.unlink_from.ensures.noted)
