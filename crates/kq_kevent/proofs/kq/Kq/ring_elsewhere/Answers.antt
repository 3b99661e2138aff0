use Rattle.std.proofs.Common.{◌≡◌, None, Some, refl, sym, ap, ◌∙◌, subst}
use Rattle.std.specs.Option.{MatchOption}
use Rattle.kq_model.specs.declared.key.Key.{Key}
use Rattle.kq_model.specs.Knote.{find_knote}
use Rattle.kq_model.proofs.KnoteLaws.{find_knote-key}
use Rattle.kq_model.specs.Tallied.{Knote}
use Rattle.kq_kevent.specs.Owned.{OwnedKqueue}
use Rattle.kq_kevent.specs.Ringing.{with_rung}
use Rattle.kq_kevent.proofs.kq.Kq.ring_elsewhere.Goals as goal

pub returns-in_default-clause-kq : goal.returns-in_default-clause-kq
returns-in_default-clause-kq c =
    let kq = c.args.self.now.kq in
    let absent : find_knote c.args.key kq.knotes ≡ None =
    ap (λ (v : OwnedKqueue). find_knote c.args.key v.kq.knotes) (sym c.self.view_is) ∙ sym c.in_default.ensures.knote in
    subst (λ o. MatchOption o (kq ≡ kq) (λ (k : Knote). kq ≡ with_rung c.args.from c.args.to k kq)) (sym absent) refl

pub returns-clause-kq : goal.returns-clause-kq
returns-clause-kq c =
    let kq = c.args.self.now.kq in
    let found : find_knote c.args.key kq.knotes ≡ Some c.in-Some.found.row =
    ap (λ (v : OwnedKqueue). find_knote c.args.key v.kq.knotes) (sym c.self.view_is) ∙ sym c.in-Some.ensures.knote in
    subst (λ o. MatchOption o (c.ring.new.self.kq ≡ kq) (λ (k : Knote). c.ring.new.self.kq ≡ with_rung c.args.from c.args.to k kq)) (sym found) c.ring.ensures.kq

pub ring-requires-clause-there : goal.ring-requires-clause-there
ring-requires-clause-there c =
    let kq = c.args.self.now.kq in
    let found : find_knote c.args.key kq.knotes ≡ Some c.in-Some.found.row =
    ap (λ (v : OwnedKqueue). find_knote c.args.key v.kq.knotes) (sym c.self.view_is) ∙ sym c.in-Some.ensures.knote in
    ap (λ (key : Key). find_knote key kq.knotes) (sym (find_knote-key c.args.key kq.knotes c.in-Some.found.row found)) ∙ found
