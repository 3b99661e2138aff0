-- The rows of one kqueue more, or of all.
use Rattle.std.proofs.Common.{◌∙◌, ap, sym}
use Rattle.std.specs.List.{flat_map}
use Rattle.std.proofs.lemmas.Iterator.Adapters.{YieldsList-from_vec}
use Rattle.std.proofs.lemmas.Iterator.Consumers.{YieldsList-end}
use Rattle.std.proofs.lemmas.List.{map-id}
use Rattle.kq_model.specs.declared.rows.Rows.{Rows}
use Rattle.kq_merge.proofs.merging.joined.Goals as goal

pub returns : goal.returns
returns c =
    let kqueues = c.args.kqueues.items in
    let gives = c.into_iter-kqueue-iterator.ensures.into_iter_gives in
    let seen = YieldsList-end (YieldsList-from_vec {s = c.into_iter-kqueue-iterator.result} kqueues gives.0 (gives.1 ∙ c.args.kqueues.ok.0))
    c.loop-kqueue.yielded c.loop-kqueue.kqueue-iterator c.loop-kqueue.yielded_by c.next.result c.next.new.self c.in-None.is c.next.ensures.steps in
    c.loop-kqueue.invariant ∙ ap (flat_map (λ (k : Rows). k.rows)) (sym (map-id c.loop-kqueue.yielded) ∙ seen.0)
