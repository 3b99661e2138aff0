use Rattle.std.proofs.Common.{◌<◌, ◌∙◌, List, ℕ, length, ap, sym, subst}
use Rattle.std.specs.List.{All}
use Rattle.std.proofs.lemmas.Result.{on_ok_weaker}
use Rattle.kq_projection.specs.declared.history.item.Source.{Source}
use Rattle.kq_projection.specs.Children.{children_at}
use Rattle.kq_projection.specs.MessageIndex.{comes_from}
use Rattle.kq_projection.specs.Sources.{Grows}
use Rattle.kq_projection.proofs.Known.{grows-nothing}
use Rattle.kq_projection.proofs.Picked.{standing-inside}
use Rattle.kq_projection.proofs.Worklist.{children-none, children-told}
use Rattle.kq_projection.proofs.history.message_index.MessageIndex.add_children.Goals as goal

pub returns-then-not-is_of_process-clause-grows : goal.returns-then-not-is_of_process-clause-grows
returns-then-not-is_of_process-clause-grows c =
    let none = children-none c.args.source (sym c.is_of_process.ensures ∙ c.if-not-is_of_process.true) c.args.self.now in
    subst (λ (ss : List Source). Grows ss c.args.all.now c.args.all.now) (sym none) (grows-nothing c.args.all.now)

pub add_told-requires : goal.add_told-requires
add_told-requires c =
    let items = c.args.self.now in
    let at = c.at.ensures in
    subst (λ (ns : List ℕ). All (λ n. n < length items) ns) (sym at) (standing-inside (comes_from c.args.source) items)

pub returns-clause-grows : goal.returns-clause-grows
returns-clause-grows c =
    let items = c.args.self.now in
    let at = c.at.ensures in
    on_ok_weaker c.add_told.result
    (subst (λ (ss : List Source). Grows ss c.args.all.now c.add_told.new.all) (ap (children_at items) at ∙ children-told items c.args.source))
    c.add_told.ensures.grows
