use Rattle.std.proofs.Common.{◌≡◌, ◌∷◌, ◌++◌, [], List, Some, add-one, take, slice_get, sym, ap, ◌∙◌, subst}
use Rattle.std.proofs.lemmas.List.{take_more}
use Rattle.std.proofs.lemmas.Option.{get_or_from_slice_get, slice_get_within}
use Rattle.kq_model.specs.declared.key.Key.{Key}
use Rattle.kq_model.specs.Kqueue.{AreOnce}
use Rattle.kq_kevent.specs.Arranged.{key_after}
use Rattle.kq_kevent.specs.Owned.{OwnedKqueue}
use Rattle.kq_kevent.proofs.ArrangeLaws.{key_after-next}
use Rattle.kq_kevent.proofs.kq.Kq.waiting.Goals as goal

pub loop-turn-preserved : goal.loop-turn-preserved
loop-turn-preserved c =
    let q = c.args.self.now.kq.queue in
    let i = c.loop-turn._turn in
    let key = c.in-Some.key in
    let at : slice_get q i ≡ Some key = sym c.loop-turn.invariant.next ∙ c.in-Some.is in
    let once : AreOnce q = subst (λ (v : OwnedKqueue). AreOnce v.kq.queue) c.self.view_is c.self.invariant.once in
    record {
      next = c.behind-next.ensures ∙ ap (λ (v : OwnedKqueue). key_after key v.kq.queue) c.self.view_is
          ∙ key_after-next q i key once at ∙ ap (slice_get q) (sym (add-one i));
      so_far = c.push_reserved.ensures.items ∙ ap (λ (l : List Key). l ++ key ∷ []) c.loop-turn.invariant.so_far
          ∙ sym (take_more q i key (slice_get_within q i key at)
          ∙ ap (λ (o : Key). take i q ++ o ∷ []) (get_or_from_slice_get q i key key at));
      capacity = c.push_reserved.ensures.capacity ∙ c.loop-turn.invariant.capacity;
    }
