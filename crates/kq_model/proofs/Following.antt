-- Children that are followed one fork after the other: each brings one knote at most.
use Rattle.std.proofs.Common.{◌≡◌, ◌+◌, ◌≤◌, cond, List, [], ◌∷◌, ◌++◌, length, Option, Some, None, refl, sym, ap, ◌∙◌, arith}
use Rattle.std.proofs.lemmas.Option.{none-some, same_Some}
use Rattle.std.proofs.lemmas.List.{length_push, length-append}
use Rattle.kq_model.specs.Following.{Fork, process_key, follows, child_knote, heir, with_heir, heir_in, followed_each}
use Rattle.kq_model.specs.Hearing.{Hearing}
use Rattle.kq_model.specs.Hints.{hints_for, alerted, if_there, knotes_alerted, notified}
use Rattle.kq_model.specs.Knote.{Knote, find_knote}
use Rattle.kq_model.specs.Kqueue.{Kqueue}
use Rattle.kq_model.specs.Targets.{Posted}
use Rattle.kq_model.specs.Views.{Views}
use Rattle.kq_model.proofs.KnoteLaws.{by_test}

module _ {S : Type 0} {h : Hearing S} where
  pub each-append : (fs gs : List Fork) (kq : Kqueue h) → followed_each (fs ++ gs) kq ≡ followed_each gs (followed_each fs kq)
  unfolding followed_each
  each-append [] gs kq = refl
  each-append (f ∷ fs) gs kq = each-append fs gs (with_heir (heir_in f kq) kq)

  pub heir-longer : (heir : Option (Knote h)) (kq : Kqueue h) → length kq.knotes ≤ length (with_heir heir kq).knotes
  unfolding with_heir
  heir-longer None kq = omega arith
  heir-longer (Some k) kq = omega (arith, length_push kq.knotes k)

  pub each-longer : (fs : List Fork) (kq : Kqueue h) → length kq.knotes ≤ length (followed_each fs kq).knotes
  unfolding followed_each
  each-longer [] kq = omega arith
  each-longer (f ∷ fs) kq =
      omega (arith, heir-longer (heir_in f kq) kq, each-longer fs (with_heir (heir_in f kq) kq))

  heir-most : (heir : Option (Knote h)) (kq : Kqueue h) → length (with_heir heir kq).knotes ≤ length kq.knotes + 1
  unfolding with_heir
  heir-most None kq = omega arith
  heir-most (Some k) kq = omega (arith, length_push kq.knotes k)

  -- one for each fork at most
  pub each-most : (fs : List Fork) (kq : Kqueue h) → length (followed_each fs kq).knotes ≤ length kq.knotes + length fs
  unfolding followed_each
  each-most [] kq = omega arith
  each-most (f ∷ fs) kq =
      omega (arith, heir-most (heir_in f kq) kq, each-most fs (with_heir (heir_in f kq) kq))

  -- no knote comes by what is heard
  there-most : (found : Option (Knote h)) → length (if_there found) ≤ 1
  unfolding if_there
  there-most None = omega arith
  there-most (Some k) = omega arith

  alerting-most : (views : Views) (posted : List Posted) (ks : List (Knote h)) → length (knotes_alerted views posted ks) ≤ length ks
  unfolding knotes_alerted
  alerting-most views posted [] = omega arith
  alerting-most views posted (k ∷ ks) =
      let found = alerted views (hints_for k posted) k in
      omega (arith, length-append (if_there found) (knotes_alerted views posted ks), there-most found, alerting-most views posted ks)

  pub notified-most : (views : Views) (posted : List Posted) (kq : Kqueue h) → length (notified views posted kq).knotes ≤ length kq.knotes
  unfolding notified
  notified-most views posted kq = alerting-most views posted kq.knotes

  -- a heir needs a place
  pub heir-one : (heir : Option (Knote h)) (k : Knote h) (kq : Kqueue h) → heir ≡ Some k → length (with_heir heir kq).knotes ≡ length kq.knotes + 1
  unfolding with_heir
  heir-one heir k kq is = ap (λ n. length (with_heir n kq).knotes) is ∙ length_push kq.knotes k

  -- it is the child's, which had none
  abbrev IsOfChild : Fork → Option (Knote h) → Knote h → Type 0
  IsOfChild f present k = (present ≡ None) × (k.key ≡ process_key f.child)

  pub heir-new : (f : Fork) (parent present : Option (Knote h)) (k : Knote h) → heir f parent present ≡ Some k → IsOfChild f present k
  unfolding heir
  heir-new f (Some p) None k is =
      by_test (λ b. cond b (Some (child_knote f p)) None ≡ Some k → IsOfChild f None k) (follows f.parent p)
      (λ _ one. (refl, ap (λ (x : Knote h). x.key) (sym (same_Some (child_knote f p) k one)))) (λ _ none. absurd (none-some k none)) is
  heir-new f None present k is = absurd (none-some k is)
  heir-new f (Some p) (Some x) k is = absurd (none-some k is)

  pub heir-absent : (f : Fork) (kq : Kqueue h) (k : Knote h) → heir_in f kq ≡ Some k → find_knote k.key kq.knotes ≡ None
  heir-absent f kq k is =
      let new = heir-new f (find_knote (process_key f.parent) kq.knotes) (find_knote (process_key f.child) kq.knotes) k is in
      ap (λ key. find_knote key kq.knotes) new.1 ∙ new.0
