-- The changes of a call leave kqueues that are alike so, with the same entries and answer.
use Rattle.std.proofs.Common.{◌≡◌, ℕ, Bool, true, false, cond, nat_lt, ◌&&◌, List, [], ◌∷◌, ◌++◌, length, Option, Some, None, option_map, refl, sym, ap, ◌∙◌, subst}
use Rattle.std.proofs.lemmas.Bool.{cond_both}
use Rattle.kq_model.specs.declared.change.Change.{Change}
use Rattle.kq_model.specs.declared.errno.Errno.{Errno}
use Rattle.kq_model.specs.declared.errno.Errno.TheVariants.{ENOENT, EBADF, EINVAL}
use Rattle.kq_model.specs.declared.kevent.Kevent.{Kevent}
use Rattle.kq_model.specs.declared.key.Key.{Key}
use Rattle.kq_model.specs.declared.reply.Reply.{Reply}
use Rattle.kq_model.specs.Bits.{asks, add, delete}
use Rattle.kq_model.specs.Call.{ended, entry_of, is_answered, after, process}
use Rattle.kq_model.specs.Caller.{Caller}
use Rattle.kq_model.specs.ChangedKnote.{key_of, made, modified}
use Rattle.kq_model.specs.Knote.{key_eq, find_knote, with_knote, without_knote}
use Rattle.kq_model.specs.Refusals.{is_malformed, is_unopened, own_refusal}
use Rattle.kq_model.specs.Registration.{Refuse, Remove, Make, Modify, unless_refused, decided, decision, carried_out, register}
use Rattle.kq_model.specs.Tallied.{Decision, Knote, Kqueue, Processed, Registered}
use Rattle.kq_model.proofs.KeyLaws.{same_key, key_eq-refl, key_eq-sym}
use Rattle.kq_model.proofs.KnoteLaws.{by_test, found_or, find_knote-append, find_knote-here, find_knote-key, find_knote-later, find_knote-none, find_knote-with_other, find_knote-without_same, find_knote-without_other}
use Rattle.kq_model.proofs.RegistrationLaws.{made-key, modified-key}
use Rattle.kq_model.specs.Tallying.{tallying}
use Rattle.kq_kevent.specs.Beginning.{answer_after, begun}
use Rattle.kq_judge.proofs.Alike.{AreAlike, Tells, told, told-so, told-again}
use Rattle.kq_judge.proofs.AlikeTurns.{put-found}
use Rattle.kq_judge.proofs.Telling.{telling, modified-any, is_ready}

module _ (caller : Caller) (c : Change) where
  -- ---- what a decision makes of the knote of its key, and its error

  abbrev decided_knote : Option Knote → Decision → Option Knote
  decided_knote o (Refuse e) = o
  decided_knote o Remove = None
  decided_knote o Make = found_or o (Some (made caller c))
  decided_knote o (Modify k) = Some (modified caller c k)

  abbrev error_of : Decision → Option Errno
  error_of (Refuse e) = Some e
  error_of Remove = None
  error_of Make = None
  error_of (Modify k) = None

  carried-error : (kq : Kqueue) (d : Decision) → (carried_out caller c kq d).error ≡ error_of d
  unfolding carried_out
  carried-error kq (Refuse e) = refl
  carried-error kq Remove = refl
  carried-error kq Make = refl
  carried-error kq (Modify k) = refl

  -- what is modified is the knote that was found
  abbrev Fits : Option Knote → Decision → Type 0
  Fits o (Refuse e) = Unit {0}
  Fits o Remove = Unit {0}
  Fits o Make = Unit {0}
  Fits o (Modify k) = o ≡ Some k

  unless-fits : (o : Option Knote) (e : Option Errno) (d : Decision) → Fits o d → Fits o (unless_refused e d)
  unfolding unless_refused
  unless-fits o None d fits = fits
  unless-fits o (Some e) d fits = tt

  decided-fits : (o : Option Knote) → Fits o (decided caller o c)
  unfolding decided
  decided-fits None =
      cond_both (asks c.flags add) _ _ (Fits None) (λ _. unless-fits None (own_refusal c.filter caller true c) Make tt) (λ _. tt)
  decided-fits (Some k) =
      cond_both (asks c.flags delete) _ _ (Fits (Some k)) (λ _. tt)
      (λ _. cond_both (asks c.flags add) _ _ (Fits (Some k))
      (λ _. unless-fits (Some k) (own_refusal c.filter caller false c) (Modify k) refl) (λ _. refl))

  decision-fits : (o : Option Knote) → Fits o (decision caller o c)
  unfolding decision
  decision-fits o =
      cond_both (is_malformed c) _ _ (Fits o) (λ _. tt)
      (λ _. cond_both (is_unopened caller c) _ _ (Fits o) (λ _. tt) (λ _. decided-fits o))

  -- ---- what is found then

  module _ (kq : Kqueue) where
    made-here : find_knote {h = tallying} (key_of c) (made caller c ∷ []) ≡ Some (made caller c)
    made-here =
        find_knote-here (key_of c) (made caller c) []
        (ap (key_eq (key_of c)) (made-key tallying caller c) ∙ key_eq-refl (key_of c))

    carried-finds : (d : Decision) → Fits (find_knote (key_of c) kq.knotes) d
        → find_knote (key_of c) (carried_out caller c kq d).kq.knotes ≡ decided_knote (find_knote (key_of c) kq.knotes) d
    unfolding carried_out
    carried-finds (Refuse e) fits = refl
    carried-finds Remove fits = find_knote-without_same (key_of c) kq.knotes
    carried-finds Make fits =
        find_knote-append (key_of c) kq.knotes (made caller c ∷ [])
        ∙ ap (found_or (find_knote (key_of c) kq.knotes)) made-here
    carried-finds (Modify k) fits =
        put-found (modified caller c k) k (key_of c) kq.knotes (modified-key tallying caller c k) fits

    nothing-new : (o : Option Knote) → found_or o None ≡ o
    nothing-new None = refl
    nothing-new (Some k) = refl

    carried-other : (other : Key) (d : Decision) → Fits (find_knote (key_of c) kq.knotes) d → key_eq (key_of c) other ≡ false
        → find_knote other (carried_out caller c kq d).kq.knotes ≡ find_knote other kq.knotes
    unfolding carried_out
    carried-other other (Refuse e) fits apart = refl
    carried-other other Remove fits apart = find_knote-without_other other (key_of c) kq.knotes apart
    carried-other other Make fits apart =
        find_knote-append other kq.knotes (made caller c ∷ [])
        ∙ ap (found_or (find_knote other kq.knotes))
        (find_knote-later other (made caller c) []
        (ap (key_eq other) (made-key tallying caller c) ∙ key_eq-sym other (key_of c) ∙ apart) ∙ find_knote-none tallying other)
        ∙ nothing-new (find_knote other kq.knotes)
    carried-other other (Modify k) fits apart =
        find_knote-with_other other (modified caller c k) kq.knotes
        (ap (λ (x : Key). key_eq x other) (modified-key tallying caller c k ∙ sym (find_knote-key (key_of c) kq.knotes k fits)) ∙ apart)

  -- ---- it is told by what the knote has to tell

  abbrev Agree : Option Knote → Option Knote → Decision → Decision → Type 0
  Agree o p d e = (told caller.views (decided_knote o d) ≡ told caller.views (decided_knote p e)) × (error_of d ≡ error_of e)

  module _ (k : Knote) where
    abbrev o : Option Knote
    o = Some k

    abbrev p : Option Knote
    p = Some (telling caller.views k)

    refused-agree : (e : Errno) → Agree o p (Refuse e) (Refuse e)
    refused-agree e = (told-again caller.views (Some k), refl)

    modified-agree : Agree o p (Modify k) (Modify (telling caller.views k))
    modified-agree = (ap Some (sym (modified-any caller c k (k.active && is_ready caller.views k))), refl)

    unless-agree : (e : Option Errno)
        → Agree o p (unless_refused e (Modify k)) (unless_refused e (Modify (telling caller.views k)))
    unfolding unless_refused
    unless-agree None = modified-agree
    unless-agree (Some e) = refused-agree e

    decided-agree : Agree o p (decided caller o c) (decided caller p c)
    unfolding decided
    decided-agree =
        by_test (λ b. Agree o p (cond b Remove (cond (asks c.flags add) (unless_refused (own_refusal c.filter caller false c) (Modify k)) (Modify k)))
        (cond b Remove (cond (asks c.flags add) (unless_refused (own_refusal c.filter caller false c) (Modify (telling caller.views k))) (Modify (telling caller.views k)))))
        (asks c.flags delete) (λ _. (refl, refl))
        (λ _. by_test (λ b. Agree o p (cond b (unless_refused (own_refusal c.filter caller false c) (Modify k)) (Modify k))
        (cond b (unless_refused (own_refusal c.filter caller false c) (Modify (telling caller.views k))) (Modify (telling caller.views k))))
        (asks c.flags add) (λ _. unless-agree (own_refusal c.filter caller false c)) (λ _. modified-agree))

    decision-agree : Agree o p (decision caller o c) (decision caller p c)
    unfolding decision
    decision-agree =
        by_test (λ b. Agree o p (cond b (Refuse EINVAL) (cond (is_unopened caller c) (Refuse EBADF) (decided caller o c)))
        (cond b (Refuse EINVAL) (cond (is_unopened caller c) (Refuse EBADF) (decided caller p c))))
        (is_malformed c) (λ _. refused-agree EINVAL)
        (λ _. by_test (λ b. Agree o p (cond b (Refuse EBADF) (decided caller o c)) (cond b (Refuse EBADF) (decided caller p c)))
        (is_unopened caller c) (λ _. refused-agree EBADF) (λ _. decided-agree))

  abbrev decided_of : Option Knote → Option Knote
  decided_of o = decided_knote o (decision caller o c)

  decided-tells : Tells caller.views caller.views decided_of
  decided-tells None = refl
  decided-tells (Some k) = (decision-agree k).0

  error-tells : (o : Option Knote) → error_of (decision caller o c) ≡ error_of (decision caller (told caller.views o) c)
  error-tells None = refl
  error-tells (Some k) = (decision-agree k).1

  -- ---- a change of two kqueues

  module _ (kq lq : Kqueue) (alike : AreAlike caller.views kq.knotes lq.knotes) where
    registered-error : (register caller c kq).error ≡ (register caller c lq).error
    unfolding register
    registered-error =
        let o = find_knote (key_of c) kq.knotes in
        let p = find_knote (key_of c) lq.knotes in
        carried-error kq (decision caller o c) ∙ error-tells o
        ∙ ap (λ x. error_of (decision caller x c)) (alike.same (key_of c))
        ∙ sym (error-tells p) ∙ sym (carried-error lq (decision caller p c))

    registered-finds : (q : Kqueue)
        → find_knote (key_of c) (register caller c q).kq.knotes ≡ decided_of (find_knote (key_of c) q.knotes)
    unfolding register
    registered-finds q =
        let o = find_knote (key_of c) q.knotes in
        carried-finds q (decision caller o c) (decision-fits o)

    registered-other : (q : Kqueue) (other : Key) → key_eq (key_of c) other ≡ false
        → find_knote other (register caller c q).kq.knotes ≡ find_knote other q.knotes
    unfolding register
    registered-other q other apart =
        let o = find_knote (key_of c) q.knotes in
        carried-other q other (decision caller o c) (decision-fits o) apart

    registered-alike : AreAlike caller.views (register caller c kq).kq.knotes (register caller c lq).kq.knotes
    registered-alike = record {
      same = λ other.
          by_test (λ b. key_eq (key_of c) other ≡ b
          → told caller.views (find_knote other (register caller c kq).kq.knotes)
          ≡ told caller.views (find_knote other (register caller c lq).kq.knotes)) (key_eq (key_of c) other)
          (λ _ same. subst (λ (x : Key). told caller.views (find_knote x (register caller c kq).kq.knotes)
          ≡ told caller.views (find_knote x (register caller c lq).kq.knotes)) (same_key (key_of c) other same)
          (ap (told caller.views) (registered-finds kq)
          ∙ told-so caller.views caller.views decided_of decided-tells (find_knote (key_of c) kq.knotes) (find_knote (key_of c) lq.knotes) (alike.same (key_of c))
          ∙ sym (ap (told caller.views) (registered-finds lq))))
          (λ _ apart. ap (told caller.views) (registered-other kq other apart) ∙ alike.same other
          ∙ sym (ap (told caller.views) (registered-other lq other apart))) refl;
    }

-- ---- all changes of a call

module _ (caller : Caller) (room : ℕ) where
  pub record GoAlike (p q : Processed) : Type 0 where
    pub knotes : AreAlike caller.views p.kq.knotes q.kq.knotes
    pub placed : p.placed ≡ q.placed
    pub answer : p.answer ≡ q.answer

  abbrev Goes : (List Kevent → Kqueue → Processed) → Type 0
  Goes rest = (placed : List Kevent) (kq lq : Kqueue) → AreAlike caller.views kq.knotes lq.knotes
      → GoAlike (rest placed kq) (rest placed lq)

  after-alike : (rest : List Kevent → Kqueue → Processed) (c : Change) (placed : List Kevent) (kq lq : Kqueue) (e : Option Errno)
      → Goes rest → AreAlike caller.views kq.knotes lq.knotes
      → GoAlike (after rest room c placed (record { kq = kq; error = e })) (after rest room c placed (record { kq = lq; error = e }))
  unfolding after
  after-alike rest c placed kq lq e goes alike =
      let more = placed ++ entry_of c e ∷ [] in
      let over : Kqueue → Processed = λ q. record { kq = q; placed = placed; answer = Some (ended e placed) } in
      by_test (λ b. GoAlike (cond b (cond (nat_lt (length placed) room) (rest more kq) (over kq)) (rest placed kq))
      (cond b (cond (nat_lt (length placed) room) (rest more lq) (over lq)) (rest placed lq))) (is_answered c e)
      (λ _. by_test (λ b. GoAlike (cond b (rest more kq) (over kq)) (cond b (rest more lq) (over lq))) (nat_lt (length placed) room)
      (λ _. goes more kq lq alike) (λ _. record { knotes = alike; placed = refl; answer = refl }))
      (λ _. goes placed kq lq alike)

  pub process-alike : (cs : List Change) → Goes (process caller room cs)
  unfolding process
  process-alike [] placed kq lq alike = record { knotes = alike; placed = refl; answer = refl }
  process-alike (c ∷ cs) placed kq lq alike =
      let r = register caller c kq in
      let s = register caller c lq in
      subst (λ (e : Option Errno). GoAlike (after (process caller room cs) room c placed r)
      (after (process caller room cs) room c placed (record { kq = s.kq; error = e }))) (registered-error caller c kq lq alike)
      (after-alike (process caller room cs) c placed r.kq s.kq r.error (process-alike cs) (registered-alike caller c kq lq alike))

  pub begun-alike : (cs : List Change) (kq lq : Kqueue) → AreAlike caller.views kq.knotes lq.knotes
      → AreAlike caller.views (begun caller room cs kq).kq.knotes (begun caller room cs lq).kq.knotes
  unfolding begun
  begun-alike cs kq lq alike = (process-alike cs [] kq lq alike).knotes

  pub begun-answer : (cs : List Change) (kq lq : Kqueue) → AreAlike caller.views kq.knotes lq.knotes
      → (begun caller room cs kq).answer ≡ (begun caller room cs lq).answer
  unfolding begun
  begun-answer cs kq lq alike =
      let went = process-alike cs [] kq lq alike in
      let p = process caller room cs [] kq in
      let q = process caller room cs [] lq in
      ap (λ x. answer_after x p.answer) went.placed ∙ ap (answer_after q.placed) went.answer
