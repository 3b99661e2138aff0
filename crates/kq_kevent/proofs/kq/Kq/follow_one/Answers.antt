use Rattle.std.proofs.Common.{◌≤◌, List, length, sym, ap, ◌∙◌, subst}
use Rattle.kq_model.specs.Following.{Fork, followed_each}
use Rattle.kq_kevent.specs.Owned.{limit}
use Rattle.kq_kevent.specs.Telling.{fork_told}
use Rattle.kq_kevent.proofs.kq.Kq.follow_one.Goals as goal

pub follow_child-requires : goal.follow_child-requires
unfolding followed_each fork_told
follow_child-requires c =
    let kq = c.args.self.now.kq in
    let told = c.in-Some.ensures in
    subst (λ (fs : List Fork). length (followed_each fs kq).knotes ≤ limit c.args.self.now) told c.requires

pub returns-in-Some-clause-kq : goal.returns-in-Some-clause-kq
unfolding followed_each fork_told
returns-in-Some-clause-kq c =
    c.follow_child.ensures.kq ∙ ap (λ (fs : List Fork). followed_each fs c.args.self.now.kq) (sym c.in-Some.ensures)

pub returns-in_default-clause-kq : goal.returns-in_default-clause-kq
unfolding followed_each fork_told
returns-in_default-clause-kq c =
    ap (λ (fs : List Fork). followed_each fs c.args.self.now.kq) (sym c.in_default.ensures)
