-- One share more has gone.
use Rattle.std.proofs.Common.{Global, Box, ◌≡◌, ◌++◌, ◌∷◌, [], List, map, of_calls, rules, sym, subst}
use Rattle.std.proofs.lemmas.List.{map-append}
use Rattle.kq_system.specs.Sharing.{ShareState}
use Rattle.kq_system.specs.declared.sharing.Share.{Share}
use Rattle.kq_shares.specs.Going.{events_in, HasGone, HaveGone}
use Rattle.kq_shares.proofs.GoneLemmas.{gone-push}
use Rattle.kq_shares.proofs.starting.+fn-go_all-join+arg3+go_all.Goals as goal

pub returns-clause-gone : goal.returns-clause-gone
returns-clause-gone g t c =
    let value : Box Share Global → ShareState = λ s. s.value in
    let es = events_in c.args.pieces.now in
    let share = c.in-Some.share in
    let left = c.pop.new.self.items in
    let one = c.in_ok-joined.field-0 in
    let all = c.in_ok-gone.gone.items in
    let now = c.push-2.new.self.items in
    let popped : c.args.shares.items ≡ left ++ share ∷ [] = search rules in
    let pushed : now ≡ all ++ one ∷ [] = search rules in
    let here : HasGone share.value es one.share.value one.rows.items = search (rules, of_calls) in
    let others : HaveGone (map value left) es all = search (rules, of_calls) in
    subst (λ xs. HaveGone (map value xs) es now) (sym popped)
    (subst (λ (olds : List ShareState). HaveGone olds es now) (sym (map-append value left (share ∷ [])))
    (subst (HaveGone (map value left ++ value share ∷ []) es) (sym pushed) (gone-push (map value left) (value share) es all one others here)))
