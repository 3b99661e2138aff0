-- What registration comes to in each case, and how the code's steps make it up.
use Rattle.std.proofs.Common.{◌≡◌, true, false, cond, List, Option, Some, None, sym, ap, ◌∙◌, subst}
use Rattle.kq_model.specs.declared.change.Change.{Change}
use Rattle.kq_model.specs.declared.errno.Errno.{Errno}
use Rattle.kq_model.specs.declared.errno.Errno.TheVariants.{EBADF, EINVAL}
use Rattle.kq_model.specs.declared.key.Key.{Key}
use Rattle.kq_model.specs.Caller.{Caller}
use Rattle.kq_model.specs.ChangedKnote.{key_of, fresh, begun, replaced, restarted, changed, switched, attended, made, modified}
use Rattle.kq_model.specs.Knote.{find_knote}
use Rattle.kq_model.specs.Kqueue.{IsSound}
use Rattle.kq_model.specs.Refusals.{is_malformed, is_unopened}
use Rattle.kq_model.specs.Registration.{decided, decision, Refuse, Remove, Make, Modify, with_made, with_removed, with_modified, carried_out, register}
use Rattle.kq_model.specs.Tallied.{Decision, Knote, Kqueue}

pub same_kqueue : (ks : List Knote) (q : List Key) (kq : Kqueue) → ks ≡ kq.knotes → q ≡ kq.queue
    → ◌≡◌ {A = Kqueue} (record { knotes = ks; queue = q }) kq
same_kqueue ks q kq e f = ap (λ (k : List Knote). kqueue k q) e ∙ ap (kqueue kq.knotes) f
  where
    kqueue : List Knote → List Key → Kqueue
    kqueue k r = record { knotes = k; queue = r }

pub IsSound-at : (ks : List Knote) (q : List Key) (kq : Kqueue) → ks ≡ kq.knotes → q ≡ kq.queue → IsSound kq
    → IsSound (record { knotes = ks; queue = q })
IsSound-at ks q kq e f sound = subst IsSound (sym (same_kqueue ks q kq e f)) sound

pub made-by : (caller : Caller) (c : Change) (first k : Knote) → first ≡ begun c.filter caller c (fresh caller c)
    → k ≡ attended caller.views first → k ≡ made caller c
unfolding made
made-by caller c first k e f = f ∙ ap (attended caller.views) e

pub modified-by : (caller : Caller) (c : Change) (k k1 k2 k3 k4 k5 : Knote) → k1 ≡ replaced c k → k2 ≡ restarted c.filter caller c k1
    → k3 ≡ changed c.filter c k2 → k4 ≡ switched c k3 → k5 ≡ attended caller.views k4 → k5 ≡ modified caller c k
unfolding modified
modified-by caller c k k1 k2 k3 k4 k5 e1 e2 e3 e4 e5 =
    e5 ∙ ap (attended caller.views)
    (e4 ∙ ap (switched c) (e3 ∙ ap (changed c.filter c) (e2 ∙ ap (restarted c.filter caller c) e1)))

-- ---- the decision

pub decision-unopened : (caller : Caller) (present : Option Knote) (c : Change) → is_malformed c ≡ false
    → is_unopened caller c ≡ true → decision caller present c ≡ Refuse EBADF
unfolding decision
decision-unopened caller present c good unopened =
    ap (λ b. cond b (Refuse EINVAL) (cond (is_unopened caller c) (Refuse EBADF) (decided caller present c))) good
    ∙ ap (λ b. cond b (Refuse EBADF) (decided caller present c)) unopened

pub decision-opened : (caller : Caller) (present : Option Knote) (c : Change) → is_malformed c ≡ false
    → is_unopened caller c ≡ false → decision caller present c ≡ decided caller present c
unfolding decision
decision-opened caller present c good opened =
    ap (λ b. cond b (Refuse EINVAL) (cond (is_unopened caller c) (Refuse EBADF) (decided caller present c))) good
    ∙ ap (λ b. cond b (Refuse EBADF) (decided caller present c)) opened

-- ---- the cases of a registration

module _ (caller : Caller) (c : Change) (kq : Kqueue) where
  -- what is decided in this kqueue
  abbrev pub here_decided : Decision
  here_decided = decision caller (find_knote (key_of c) kq.knotes) c

  pub register-refused : (e : Errno) → Refuse e ≡ here_decided → register caller c kq ≡ record { kq = kq; error = Some e }
  unfolding register carried_out
  register-refused e is = ap (carried_out caller c kq) (sym is)

  pub register-removed : Remove ≡ here_decided → register caller c kq ≡ record { kq = with_removed (key_of c) kq; error = None }
  unfolding register carried_out
  register-removed is = ap (carried_out caller c kq) (sym is)

  pub register-made : Make ≡ here_decided → register caller c kq ≡ record { kq = with_made (made caller c) kq; error = None }
  unfolding register carried_out
  register-made is = ap (carried_out caller c kq) (sym is)

  pub register-modified : (k : Knote) → Modify k ≡ here_decided → register caller c kq ≡ record
      { kq = with_modified c (modified caller c k) kq; error = None }
  unfolding register carried_out
  register-modified k is = ap (carried_out caller c kq) (sym is)
