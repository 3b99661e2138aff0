use Rattle.std.proofs.Common.{[], cond, length, ap, ◌∙◌, sym, arith}
use Rattle.std.proofs.lemmas.Bool.{eq-eqb, ne_eqb}
use Rattle.std.proofs.lemmas.Result.{on_ok_weaker}
use Rattle.kq_model.specs.Following.{all_forks, followed_each}
use Rattle.kq_model.specs.Hints.{notified}
use Rattle.kq_model.specs.Tallied.{Kqueue}
use Rattle.kq_model.proofs.Following.{each-most, notified-most}
use Rattle.kq_kevent.specs.Owned.{OwnedKqueue}
use Rattle.kq_kevent.proofs.kq.Kq.reserve_to_follow.Goals as goal

pub returns-then-number-eq1-clause-room : goal.returns-then-number-eq1-clause-room
unfolding followed_each
returns-then-number-eq1-clause-room c views =
    let hints = c.args.hints.now in
    let kq = c.args.self.now.kq in
    let one = ap (λ (v : OwnedKqueue). v.version) (sym c.self.view_is) ∙ sym c.number.ensures.exact ∙ c.if-number-eq1.true in
    let none = ap (λ b. length (followed_each (cond b [] (all_forks hints)) (notified views hints kq)).knotes)
    (eq-eqb c.args.self.now.version 1 one) in
    omega (arith, none, notified-most views hints kq)

pub returns-clause-room : goal.returns-clause-room
returns-clause-room c =
    let hints = c.args.hints.now in
    let now = c.reserve_for.new.self in
    let two = c.reserve_for.ensures.version ∙ ap (λ (v : OwnedKqueue). v.version) (sym c.self.view_is) in
    let later = λ (views : _). ap (λ b. length (followed_each (cond b [] (all_forks hints)) (notified views hints now.kq)).knotes)
    (ne_eqb now.version 1 (λ is. c.if-number-eq1.false (c.number.ensures.exact ∙ sym two ∙ is))) in
    on_ok_weaker c.reserve_for.result (λ room views. omega (
      arith,
      later views,
      each-most (all_forks hints) (notified views hints now.kq),
      notified-most views hints now.kq,
      ap (λ (q : Kqueue). length q.knotes) c.reserve_for.ensures.kq,
      c.children_in-children.ensures.most,
      room,
    )) c.reserve_for.ensures.room
