use Rattle.std.proofs.Common.{◌≡◌, ◌∙◌, ◌+◌, ◌∷◌, [], map, length, ap, sym, subst, arith, length-append}
use Rattle.std.proofs.lemmas.List.{length-map, map-append}
use Rattle.kq_model.specs.System.{empty_system}
use Rattle.kq_shares.specs.Whole.{AreFrom, IsShareOf}
use Rattle.kq_shares.proofs.WholeLemmas.{from-push, share-new, value}
use Rattle.kq_shares.proofs.shares.Shares.new.Goals as goal

pub loop-number-preserved : goal.loop-number-preserved
loop-number-preserved c =
    let xs = c.loop-number.shares.items in
    let b = c.in_ok-new.field-0 in
    let s = empty_system c.args.version in
    let items = c.in_ok-push.ensures.items in
    let here : IsShareOf c.loop-number.number c.args.dealing 0 s c.in_ok-share.share =
    share-new c.args.version c.loop-number.number c.args.dealing c.in_ok-share.share c.in_ok-share.ensures.system
    c.in_ok-share.ensures.applied c.in_ok-share.ensures.number c.in_ok-share.ensures.dealing in
    let boxed : IsShareOf c.loop-number.number c.args.dealing 0 s (value b) =
    subst (IsShareOf c.loop-number.number c.args.dealing 0 s) (sym c.in_ok-new.ensures.ok) here in
    let count : length (map value xs) ≡ c.loop-number.number = length-map xs value ∙ c.loop-number.invariant.0 in (
      ap length items ∙ length-append xs (b ∷ []) ∙ ap (λ n. n + 1) c.loop-number.invariant.0,
      subst (λ ys. AreFrom 0 c.args.dealing 0 s ys) (sym (ap (map value) items ∙ map-append value xs (b ∷ [])))
          (from-push 0 c.args.dealing 0 s (map value xs) (value b) c.loop-number.invariant.1
          (subst (λ n. IsShareOf n c.args.dealing 0 s (value b)) (let e : c.loop-number.number ≡ 0 + length (map value xs) = omega (arith, count) in e) boxed)),
    )
