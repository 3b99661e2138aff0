use Rattle.std.proofs.Common.{◌≡◌, ◌-◌, ◌+◌, ◌∷◌, ◌<◌, ℕ, List, cond, drop, get_or, length, refl, sym, ap, ◌∙◌, arith}
use Rattle.std.proofs.lemmas.List.{drop_all, drop_more}
use Rattle.kq_model.specs.declared.filter.Filter.TheVariants.{Read}
use Rattle.kq_model.specs.declared.key.Key.{Key}
use Rattle.kq_model.specs.Knote.{has_key, without_key}
use Rattle.kq_kevent.specs.Arranged.{arranged}
use Rattle.kq_kevent.proofs.ArrangeLaws.{arranged-nil, arranged-one_more}
use Rattle.kq_kevent.proofs.arrange.put_all_first.Goals as goal

-- what a read past the end of the keys would give
abbrev no_key : Key
no_key = record { ident = 0; filter = Read }

pub loop-at-init : goal.loop-at-init
loop-at-init c = record {
  so_far = sym (ap (λ (l : List Key). arranged l c.args.knotes.now.queue) (drop_all (length c.args.keys.now) c.args.keys.now (omega arith))
      ∙ arranged-nil c.args.knotes.now.queue);
  knotes = refl;
  room = refl;
}

pub loop-at-preserved : goal.loop-at-preserved
loop-at-preserved c =
    let keys = c.args.keys.now in
    let q = c.args.knotes.now.queue in
    let i = c.loop-at.at - 1 in
    let key = get_or keys i no_key in
    let next : c.loop-at.at ≡ i + 1 = omega arith in
    let within : i < length keys = omega arith in
    record {
      so_far = c.put_first_at.ensures.queue
          ∙ ap (λ (now : List Key). cond (has_key key now) (key ∷ without_key key now) now)
          (c.loop-at.invariant.so_far ∙ ap (λ (n : ℕ). arranged (drop n keys) q) next)
          ∙ arranged-one_more key (drop (i + 1) keys) q
          ∙ ap (λ (l : List Key). arranged l q) (sym (drop_more keys i no_key within));
      knotes = c.put_first_at.ensures.knotes ∙ c.loop-at.invariant.knotes;
      room = c.put_first_at.ensures.room ∙ c.loop-at.invariant.room;
    }

pub returns-clause-queue : goal.returns-clause-queue
returns-clause-queue c =
    let done : c.loop-at.at ≡ 0 = omega arith in
    c.loop-at.invariant.so_far
    ∙ ap (λ (n : ℕ). arranged (drop n c.args.keys.now) c.args.knotes.now.queue) done
