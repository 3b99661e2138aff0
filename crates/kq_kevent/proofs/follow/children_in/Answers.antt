use Rattle.std.proofs.Common.{◌≡◌, ℕ, ◌+◌, length, drop, get_or, Option, Some, None, cond, is_some, refl, sym, ap, ◌∙◌, arith}
use Rattle.std.proofs.lemmas.List.{at_drop_more, at_drop_all, length-append}
use Rattle.kq_model.specs.declared.object.Hint.TheVariants.{Readable}
use Rattle.kq_model.specs.declared.object.Target.TheVariants.{Socket}
use Rattle.kq_model.specs.Following.{all_forks, forks_of}
use Rattle.kq_model.specs.Targets.{Posted}
use Rattle.kq_kevent.specs.Telling.{fork_told}
use Rattle.kq_kevent.proofs.follow.children_in.Goals as goal
use Rattle.kq_kevent.proofs.follow.children_in.Goals.{then-is_some, else-is_some}

-- what a read past the end of the hints would give
abbrev no_hint : Posted
no_hint = (Socket 0, Readable)

-- as many as the test counts
counted : (f : Option (ℕ × ℕ)) → length (fork_told f) ≡ cond (is_some f) 1 0
unfolding fork_told
counted None = refl
counted (Some f) = refl

pub loop-told-preserved : goal.loop-told-preserved
unfolding all_forks
loop-told-preserved c =
    let hints = c.args.hints.now in
    let i = c.loop-told.told-index in
    let p = get_or hints i no_hint in
    let rest = drop (i + 1) hints in
    let split = at_drop_more (λ ps. length (all_forks ps)) hints i no_hint (omega arith) in
    let both = length-append (forks_of p.0 p.1) (all_forks rest) in
    let one = ap (length {A = _}) c.fork_in.ensures ∙ counted c.fork_in.result in
    elim c.if-is_some.branch [
      | then-is_some w ↦
          let told = one ∙ ap (λ b. cond b 1 0) (sym c.is_some.ensures ∙ w.if-is_some.true) in
          record {
            within = omega (arith, c.loop-told.invariant.within, w.children-is);
            most = omega (arith, c.loop-told.invariant.most, w.children-is, split, both, told);
          }
      | else-is_some w ↦
          let told = one ∙ ap (λ b. cond b 1 0) (sym c.is_some.ensures ∙ w.if-is_some.false) in
          record {
            within = omega (arith, c.loop-told.invariant.within, w.children-is);
            most = omega (arith, c.loop-told.invariant.most, w.children-is, split, both, told);
          }
    ]

pub returns-clause-most : goal.returns-clause-most
unfolding all_forks
returns-clause-most c =
    let none = at_drop_all (λ ps. length (all_forks ps)) c.args.hints.now c.loop-told.told-index (omega arith) in
    omega (arith, c.loop-told.invariant.most, none)
