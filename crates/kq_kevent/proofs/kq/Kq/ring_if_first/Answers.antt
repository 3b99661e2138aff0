use Rattle.std.proofs.Common.{◌≡◌, true, false, cond, eqb, [], ◌∷◌, Some, sym, ap, ◌∙◌}
use Rattle.std.proofs.lemmas.Bool.{eq-eqb, ne_eqb}
use Rattle.std.proofs.lemmas.Option.{MatchOption-at_some}
use Rattle.kq_model.specs.Knote.{find_knote}
use Rattle.kq_model.specs.Tallied.{Knote}
use Rattle.kq_kevent.specs.Ringing.{first_of, rung_each, with_rung}
use Rattle.kq_kevent.proofs.kq.Kq.ring_if_first.Goals as goal

pub returns-then-first_after-moment-clause-kq : goal.returns-then-first_after-moment-clause-kq
unfolding rung_each
returns-then-first_after-moment-clause-kq c =
    let at : eqb (first_of c.args.from c.args.knote) c.args.moment ≡ true = eq-eqb _ _ (sym c.first_after.ensures ∙ c.if-first_after-moment.true) in
    let kq = c.args.self.now.kq in
    let there : find_knote c.knote.inside.key kq.knotes ≡ Some c.args.knote = ap (λ (k : Knote). find_knote k.key kq.knotes) c.knote.view_is ∙ c.requires.there in
    MatchOption-at_some _ (λ (k : Knote). c.ring_key.new.self.kq ≡ with_rung c.args.from c.args.to k kq) c.args.knote there c.ring_key.ensures.kq ∙ ap (λ b. rung_each c.args.from c.args.to (cond b (c.args.knote ∷ []) []) c.args.self.now.kq) (sym at)

pub returns-else-first_after-moment-clause-kq : goal.returns-else-first_after-moment-clause-kq
unfolding rung_each
returns-else-first_after-moment-clause-kq c =
    let off : eqb (first_of c.args.from c.args.knote) c.args.moment ≡ false = ne_eqb _ _ (λ e. c.if-first_after-moment.false (c.first_after.ensures ∙ e)) in
    ap (λ b. rung_each c.args.from c.args.to (cond b (c.args.knote ∷ []) []) c.args.self.now.kq) (sym off)
