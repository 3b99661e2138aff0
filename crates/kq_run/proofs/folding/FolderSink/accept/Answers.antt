-- The fold that was begun went on.
use Rattle.std.proofs.Common.{◌≡◌, ◌∙◌, ℕ, List, Some, unwrap_or, refl, sym, ap, subst, rules}
use Rattle.kq_model.specs.declared.event.Event.{Event}
use Rattle.kq_trace.proofs.TakenParts.{events_in}
use Rattle.kq_run.specs.declared.fold.Fold.{Fold}
use Rattle.kq_run.specs.Folding.{GoesOn, IsFolded}
use Rattle.kq_run.proofs.folding.FolderSink.accept.Goals as goal

pub returns : goal.returns
returns g c =
    let new : Fold = c.in_ok-after_alone.field-0 in
    let is : c.args.self.now.fold ≡ Some c.in-Some.fold = search rules in
    let goes : GoesOn c.in-Some.fold new (events_in c.args.pieces.items) =
    subst (λ ps. GoesOn c.in-Some.fold new (events_in ps)) c.as_slice.ensures.value c.in_ok-after_alone.ensures in
    λ (version : ℕ) (so_far : List Event) long (old, was, folded).
    let same : old ≡ c.in-Some.fold = ap (λ o. unwrap_or o old) (sym was ∙ is) in
    (new, refl, goes.folded version so_far (subst (λ (f : Fold). IsFolded version f so_far) same folded))
