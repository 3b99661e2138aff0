use Rattle.std.proofs.Common.{◌≡◌, ◌||◌, ◌+◌, ◌∙◌, ◌++◌, ◌∷◌, [], true, false, take, refl, sym, ap, arith}
use Rattle.std.proofs.lemmas.Bool.{or_left, or_right}
use Rattle.std.proofs.lemmas.List.{take_all, take_more, take-append-le}
use Rattle.std.proofs.lemmas.List.Elements.{All-contains_itself}
use Rattle.std.proofs.lemmas.List.Folds.{list_any-append}
use Rattle.std.proofs.lemmas.Option.{slice_get_within, get_or_from_slice_get}
use Rattle.kq_model.proofs.KnoteLaws.{by_test}
use Rattle.kq_projection.specs.declared.history.item.Source.{Source}
use Rattle.kq_projection.specs.declared.history.item.Source.TheVariants.{Clock}
use Rattle.kq_projection.specs.Children.{of_process, children_of}
use Rattle.kq_projection.specs.Items.{has_source, source_eq}
use Rattle.kq_projection.proofs.SameSource.{eq_is}
use Rattle.kq_projection.proofs.Worklist.{fork-told, from-children, is-process, no_more, past, there-itself}
use Rattle.kq_projection.proofs.history.message_index.MessageIndex.with_children.Goals as goal

pub loop-next-preserved : goal.loop-next-preserved
loop-next-preserved c =
    let items = c.args.self.now in
    let old = c.loop-next.all.set.keys in
    let new = c.add_children.new.all.set.keys in
    let next = c.loop-next.next in
    let s = c.in-Some.source in
    let kids = children_of items s in
    let inv = c.loop-next.invariant in
    let grows = c.in_ok-add_children.ensures.grows in
    let begins = c.in_ok-add_children.ensures.begins in
    let has = grows in
    let at = sym c.in-Some.ensures in
    let inside = slice_get_within old next s at in
    let there = get_or_from_slice_get old next s Clock at in
    let kept = λ (x : Source) (is : has_source old x ≡ true). has x ∙ or_left (has_source old x) (has_source kids x) is in
    let came = λ (x : Source) (is : has_source kids x ≡ true). has x ∙ or_right (has_source old x) (has_source kids x) is in
    let front : take (next + 1) new ≡ take next old ++ s ∷ [] =
    ap (take (next + 1)) begins.1 ∙ take-append-le (next + 1) old begins.0 (omega (arith, inside))
    ∙ take_more old next Clock inside ∙ ap (λ (x : Source). take next old ++ x ∷ []) there in
    record {
      more = λ x is. kept x (inv.more x is);
      least = λ among named closed x is.
          by_test (λ b. has_source old x ≡ b → b || has_source kids x ≡ true → among x ≡ true) (has_source old x)
          (λ _ before _. inv.least among named closed x before)
          (λ _ _ later. from-children items among closed s x (inv.least among named closed s (there-itself old next s at)) items (All-contains_itself items) later)
          refl (sym (has x) ∙ is);
      done = λ parent child told parent_in.
          let first = has_source (take next old) (of_process parent) in
          let both = sym (list_any-append (source_eq (of_process parent)) (take next old) (s ∷ [])) ∙ sym (ap (λ ss. has_source ss (of_process parent)) front) ∙ parent_in in
          by_test (λ b. first ≡ b → b || (source_eq (of_process parent) s || false) ≡ true → has_source new (of_process child) ≡ true) first
          (λ _ before _. kept (of_process child) (inv.done parent child told before))
          (λ _ _ here.
          let is = is-process parent s (sym (eq_is (of_process parent) s) ∙ no_more (source_eq (of_process parent) s) here) in
          came (of_process child) (ap (λ (x : Source). has_source (children_of items x) (of_process child)) is ∙ fork-told items parent child told))
          refl both;
    }

pub returns-in_default : goal.returns-in_default
returns-in_default c =
    let all = c.loop-next.all.set.keys in
    let inv = c.loop-next.invariant in
    let whole : take c.loop-next.next all ≡ all = take_all c.loop-next.next all (past all c.loop-next.next (sym c.in_default.ensures)) in
    record {
      more = inv.more;
      closed = λ parent child told there. inv.done parent child told (ap (λ ss. has_source ss (of_process parent)) whole ∙ there);
      least = inv.least;
    }
