use Rattle.std.proofs.Common.{◌≡◌, ◌++◌, ◌∷◌, [], List, ℕ, take, get_or, ap, sym, subst, ◌∙◌}
use Rattle.std.proofs.lemmas.Grind.{flat_map-append}
use Rattle.std.proofs.lemmas.List.{append-nil, take_more}
use Rattle.kq_projection.specs.declared.history.item.Item.{Item}
use Rattle.kq_projection.specs.declared.history.item.Source.{Source}
use Rattle.kq_projection.specs.Children.{children_at, child_sources, child_told}
use Rattle.kq_projection.specs.MessageIndex.{item_at}
use Rattle.kq_projection.specs.Sources.{Grows, target_sources}
use Rattle.kq_projection.proofs.Known.{grows-then}
use Rattle.kq_projection.proofs.Worklist.{begins-then}
use Rattle.kq_projection.proofs.history.message_index.MessageIndex.add_told.Goals as goal

pub loop-number-preserved : goal.loop-number-preserved
loop-number-preserved c =
    let items = c.args.self.now in
    let ns = c.args.numbers.now in
    let i = c.loop-number.number-index in
    let n = get_or ns i 0 in
    let at = λ (k : ℕ). child_sources (item_at items k).what in
    let here : c.child_told.result ≡ child_told (item_at items n).what = c.child_told.ensures ∙ ap (λ (x : Item). child_told x.what) c.get-item.ensures in
    let more = flat_map-append at (take i ns) (n ∷ []) ∙ ap (λ ss. children_at items (take i ns) ++ ss) (append-nil (at n)) in
    let all = ap (children_at items) (take_more ns i 0 c.loop-number-test.true) ∙ more in
    record {
      grows = subst (λ (ss : List Source). Grows ss c.args.all.now c.add_target.new.self) (sym all)
          (grows-then (children_at items (take i ns)) (at n) c.args.all.now c.loop-number.all c.add_target.new.self c.loop-number.invariant.grows
          (subst (λ t. Grows (target_sources t) c.loop-number.all c.add_target.new.self) here c.in_ok-add_target.ensures.grows));
      begins = begins-then c.args.all.now.set.keys c.loop-number.all.set.keys c.add_target.new.self.set.keys
          c.loop-number.invariant.begins c.in_ok-add_target.ensures.begins;
    }
