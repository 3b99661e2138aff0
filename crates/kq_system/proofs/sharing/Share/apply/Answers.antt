use Rattle.std.proofs.Common.{◌≡◌, ◌∙◌, ◌+◌, ◌==◌, ℕ, Some, sym, ap, subst, arith}
use Rattle.std.proofs.lemmas.Bool.Decides.{nat_tests}
use Rattle.kq_model.specs.ClosedNumbers.{ClosesAll}
use Rattle.kq_model.specs.Tallying.{tallying}
use Rattle.kq_model.specs.Objects.{counted}
use Rattle.kq_model.specs.Shares.{dealt, if_own, share}
use Rattle.kq_model.specs.System.{Stepped, step}
use Rattle.kq_model.proofs.Shares.{share-again}
use Rattle.kq_model.proofs.ShareSteps.{shared-step}
use Rattle.kq_model.proofs.ShareTallied.{share_step-tallied}
use Rattle.kq_system.specs.Dealing.{share_for}
use Rattle.kq_system.specs.Sharing.{ShareState, own_of, IsShareStep}
use Rattle.kq_system.specs.SystemState.{system_of}
use Rattle.kq_system.proofs.ShareLemmas.{share-closes}
use Rattle.kq_system.proofs.sharing.Share.apply.Goals as goal

swapped : (a b : ℕ) → (a == b) ≡ (b == a)
swapped a b = grind (arith, nat_tests)

pub invariant_of-self-2 : goal.invariant_of-self-2
invariant_of-self-2 c =
    let old = c.self.inside in
    let own = dealt (share_for old.dealing) old.number in
    let place = old.system.applied + 1 in
    let mine = ap (λ n. n == old.number)
    (ap (λ p. share_for old.dealing (Some (p + 1))) (sym c.applied-place.ensures) ∙ sym c.share_for.ensures) in
    let beside = c.in_ok-stepped.ensures.reply own mine c.self.invariant.1 in (
      c.self.invariant.0,
      ap (share own) beside.0 ∙ share-again own (step place c.args.event.now (system_of old.system)).system ∙ sym beside.0,
    )

pub returns-clause-reply : goal.returns-clause-reply
unfolding share_for
returns-clause-reply c =
    let old = c.self.inside in
    let own = dealt (share_for old.dealing) old.number in
    let place = old.system.applied + 1 in
    let e = c.args.event.now in
    let s = system_of old.system in
    let mine = ap (λ n. n == old.number)
    (ap (λ p. share_for old.dealing (Some (p + 1))) (sym c.applied-place.ensures) ∙ sym c.share_for.ensures) in
    let beside = c.in_ok-stepped.ensures.reply own mine c.self.invariant.1 in
    let shared = shared-step own place e s c.self.invariant.1 in
    subst (λ (now : ShareState). IsShareStep (own_of now) (now.state.applied + 1) e (system_of now.state)
    (system_of c.apply_beside-stepped.new.system) c.own_reply.result) c.self.view_is (
      beside.0 ∙ sym (ap (λ (t : Stepped tallying counted). t.system) shared),
      c.own_reply.ensures ∙ ap (λ b. if_own b c.in_ok-stepped.field-0) (swapped old.number 0)
          ∙ ap (if_own (0 == old.number)) beside.1
          ∙ sym (ap (λ (t : Stepped tallying counted). t.reply) shared),
    )

pub returns-clause-model : goal.returns-clause-model
returns-clause-model c m same =
    let now = c.args.self.now in
    let steps = returns-clause-reply c in
    share_step-tallied (own_of now) (now.state.applied + 1) c.args.event.now (system_of now.state)
    (system_of c.apply_beside-stepped.new.system) c.own_reply.result m same steps.0 steps.1

pub returns-clause-closed : goal.returns-clause-closed
returns-clause-closed c =
    let now = c.args.self.now in
    let steps = returns-clause-reply c in
    subst (ClosesAll (now.state.applied + 1) c.args.event.now (system_of now.state)) (sym steps.0)
    (share-closes (own_of now) (now.state.applied + 1) c.args.event.now (system_of now.state))
