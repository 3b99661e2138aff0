use Rattle.std.proofs.Common.{◌≡◌, ◌∙◌, List, ap, sym, subst, rules}
use Rattle.indexmap.specs.IndexSet.{insert_key}
use Rattle.kq_projection.specs.contracts.history.item.SourceEq.TheImpl.Laws.{laws-law}
use Rattle.kq_projection.specs.declared.history.item.Source.{Source}
use Rattle.kq_projection.specs.Items.{has_source, source_eq}
use Rattle.kq_projection.specs.Sources.{Begins}
use Rattle.kq_projection.proofs.Known.{inserted-begins, inserted-has}
use Rattle.kq_projection.proofs.history.sources.Sources.add.Goals as goal

pub returns-clause-grows : goal.returns-clause-grows
returns-clause-grows c = λ (x : Source).
    let old : List Source = c.args.self.now.set.keys in
    let new : c.insert.new.self.keys ≡ insert_key source_eq old c.args.source = search rules in
    ap (λ ks. has_source ks x) new ∙ inserted-has laws-law old c.args.source x

pub returns-clause-begins : goal.returns-clause-begins
returns-clause-begins c =
    let old : List Source = c.args.self.now.set.keys in
    let new : c.insert.new.self.keys ≡ insert_key source_eq old c.args.source = search rules in
    subst (Begins old) (sym new) (inserted-begins old c.args.source)
