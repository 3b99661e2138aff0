use Rattle.std.proofs.Common.{◌≡◌, ◌∙◌, map, ap, sym}
use Rattle.std.proofs.lemmas.Iterator.Adapters.{YieldsList-from_vec}
use Rattle.std.proofs.lemmas.Iterator.Consumers.{YieldsList-end}
use Rattle.std.proofs.lemmas.List.{map-id}
use Rattle.kq_shares.specs.declared.going.Gone.{Gone}
use Rattle.kq_shares.proofs.shares.parted.Goals as goal

pub returns : goal.returns
returns c =
    let all = c.args.gone.items in
    let gives = c.into_iter-one-iterator.ensures.into_iter_gives in
    let seen = YieldsList-end (YieldsList-from_vec {s = c.into_iter-one-iterator.result} all gives.0 (gives.1 ∙ c.args.gone.ok.0))
    c.loop-one.yielded c.loop-one.one-iterator c.loop-one.yielded_by c.next.result c.next.new.self c.in-None.is c.next.ensures.steps in
    let same : c.loop-one.yielded ≡ all = sym (map-id c.loop-one.yielded) ∙ seen.0 in
    record {
      shares = c.loop-one.invariant.0 ∙ ap (map (λ (g : Gone). g.share)) same;
      rows = c.loop-one.invariant.1 ∙ ap (map (λ (g : Gone). g.rows.items)) same;
    }
