use Rattle.std.proofs.Common.{◌≡◌, ◌+◌, ◌||◌, List, Some, true, take, take_all, get_or, sym, ap, ◌∙◌, subst, arith}
use Rattle.std.proofs.lemmas.List.Folds.{list_any_more}
use Rattle.std.specs.List.{list_any}
use Rattle.kq_model.specs.declared.key.Key.{Key}
use Rattle.kq_model.specs.declared.object.Hint.TheVariants.{Readable}
use Rattle.kq_model.specs.declared.object.Target.TheVariants.{Socket}
use Rattle.kq_model.specs.Knote.{key_eq}
use Rattle.kq_model.specs.Tallied.{Knote}
use Rattle.kq_model.specs.Targets.{Posted, is_target}
use Rattle.kq_knote.specs.Index.{AreHinted, is_hinted, is_shared}
use Rattle.kq_knote.specs.Reserved.{Reserved}
use Rattle.kq_knote.proofs.GatherLaws.{AreHinted-more}
use Rattle.kq_knote.proofs.knotes.Knotes.gather.Goals as goal

-- what a read past the end of the hints would give
abbrev no_hint : Posted
no_hint = (Socket 0, Readable)

pub loop-hint-init : goal.loop-hint-init
loop-hint-init c = record {
  so_far = λ k there. ap (list_any (key_eq k.key)) c.clear.ensures.items;
}

pub loop-hint-preserved : goal.loop-hint-preserved
loop-hint-preserved c =
    let posted = c.args.posted.now in
    let i = c.loop-hint.hint-index in
    let hint = get_or posted i no_hint in
    let ks = c.self.inside.rows.rows in
    let more_is : (k : Knote) → is_hinted (take (i + 1) posted) k ≡ (is_hinted (take i posted) k || is_target k.target hint.0) =
    λ k. list_any_more (λ (p : Posted). is_target k.target p.0) posted i no_hint (omega arith) in
    let shared : is_shared (Some hint.0) ≡ true = sym c.is_shared.ensures ∙ c.if-not-is_shared.false in
    let so_far = subst (λ (v : Reserved). AreHinted (take i posted) v.knotes c.loop-hint.found.items) (sym c.self.view_is) c.loop-hint.invariant.so_far in
    let more = AreHinted-more ks c.self.invariant.own_keys (take i posted) (take (i + 1) posted) hint.0 more_is shared c.loop-hint.found.items so_far in
    record {
      so_far = subst (λ (v : Reserved). AreHinted (take (i + 1) posted) v.knotes c.watching.new.found.items) c.self.view_is
          (subst (λ (keys : List Key). AreHinted (take (i + 1) posted) ks keys) (sym (c.watching.ensures.found c.if-not-watching.false)) more);
    }

pub returns : goal.returns
returns c = λ _. subst (λ (ps : List Posted). AreHinted ps c.args.self.now.knotes c.loop-hint.found.items)
    (take_all c.loop-hint.hint-index c.args.posted.now (omega arith)) c.loop-hint.invariant.so_far
