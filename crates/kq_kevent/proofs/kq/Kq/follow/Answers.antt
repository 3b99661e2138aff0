use Rattle.std.proofs.Common.{◌+◌, cond, length, List, [], drop, get_or, refl, sym, ap, ◌∙◌, arith}
use Rattle.std.proofs.lemmas.Bool.{eq-eqb, ne_eqb}
use Rattle.std.proofs.lemmas.List.{at_drop_more, at_drop_all}
use Rattle.kq_model.specs.declared.object.Hint.TheVariants.{Readable}
use Rattle.kq_model.specs.declared.object.Target.TheVariants.{Socket}
use Rattle.kq_model.specs.Following.{Fork, all_forks, forks_of, followed_each}
use Rattle.kq_model.specs.Tallied.{Kqueue}
use Rattle.kq_model.specs.Targets.{Posted}
use Rattle.kq_model.proofs.Following.{each-append, each-longer}
use Rattle.kq_kevent.specs.Owned.{OwnedKqueue}
use Rattle.kq_kevent.proofs.kq.Kq.follow.Goals as goal

-- what a read past the end of the hints would give
abbrev no_hint : Posted
no_hint = (Socket 0, Readable)

pub returns-then-number-eq1-clause-kq : goal.returns-then-number-eq1-clause-kq
unfolding followed_each
returns-then-number-eq1-clause-kq c =
    let one = ap (λ (v : OwnedKqueue). v.version) (sym c.self.view_is) ∙ sym c.number.ensures.exact ∙ c.if-number-eq1.true in
    ap (λ (fs : List Fork). followed_each fs c.args.self.now.kq)
    (sym (ap (λ b. cond b [] (all_forks c.args.hints.now)) (eq-eqb c.args.self.now.version 1 one)))

pub loop-told-init : goal.loop-told-init
loop-told-init c = record { so_far = refl; owner = refl; version = refl; limit = refl }

-- the forks are all that the hints tell
pub follow_one-requires : goal.follow_one-requires
unfolding all_forks
follow_one-requires c =
    let hints = c.args.hints.now in
    let i = c.loop-told.told-index in
    let kq = c.loop-told.self.kq in
    let p = get_or hints i no_hint in
    let rest = drop (i + 1) hints in
    let later = ap (λ (fs : List Fork). followed_each fs c.args.self.now.kq) (sym
    (ap (λ b. cond b [] (all_forks hints))
    (ne_eqb c.args.self.now.version 1 (λ one. c.if-number-eq1.false (c.number.ensures.exact ∙ ap (λ (v : OwnedKqueue). v.version) c.self.view_is ∙ one))))) in
    let split = sym (at_drop_more (λ ps. followed_each (all_forks ps) kq) hints i no_hint (omega arith)) in
    let all = ap (λ (q : Kqueue). length q.knotes) (sym (each-append (forks_of p.0 p.1) (all_forks rest) kq) ∙ split ∙ c.loop-told.invariant.so_far ∙ later) in
    omega (arith, all, each-longer (all_forks rest) (followed_each (forks_of p.0 p.1) kq), c.loop-told.invariant.limit, c.requires)

pub loop-told-preserved : goal.loop-told-preserved
unfolding all_forks
loop-told-preserved c =
    let hints = c.args.hints.now in
    let i = c.loop-told.told-index in
    let kq = c.loop-told.self.kq in
    let p = get_or hints i no_hint in
    let rest = drop (i + 1) hints in
    let split = sym (at_drop_more (λ ps. followed_each (all_forks ps) kq) hints i no_hint (omega arith)) in
    record {
      so_far = ap (followed_each (all_forks rest)) c.follow_one.ensures.kq
          ∙ sym (each-append (forks_of p.0 p.1) (all_forks rest) kq) ∙ split ∙ c.loop-told.invariant.so_far;
      owner = c.follow_one.ensures.owner ∙ c.loop-told.invariant.owner;
      version = c.follow_one.ensures.version ∙ c.loop-told.invariant.version;
      limit = c.follow_one.ensures.limit ∙ c.loop-told.invariant.limit;
    }

pub returns-clause-kq : goal.returns-clause-kq
unfolding all_forks followed_each
returns-clause-kq c =
    let hints = c.args.hints.now in
    let later = ap (λ (fs : List Fork). followed_each fs c.args.self.now.kq) (sym
    (ap (λ b. cond b [] (all_forks hints))
    (ne_eqb c.args.self.now.version 1 (λ one. c.if-number-eq1.false (c.number.ensures.exact ∙ ap (λ (v : OwnedKqueue). v.version) c.self.view_is ∙ one))))) in
    sym (at_drop_all (λ ps. followed_each (all_forks ps) c.loop-told.self.kq) hints c.loop-told.told-index (omega arith))
    ∙ c.loop-told.invariant.so_far ∙ later

pub returns-clause-owner : goal.returns-clause-owner
returns-clause-owner c = c.loop-told.invariant.owner

pub returns-clause-version : goal.returns-clause-version
returns-clause-version c = c.loop-told.invariant.version

pub returns-clause-limit : goal.returns-clause-limit
returns-clause-limit c = c.loop-told.invariant.limit
