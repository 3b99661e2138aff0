-- What the answer of a call promises: events of the kqueue as its changes left it, or entries alone; and
-- a call is its changes with room 0, and then a poll.
use Rattle.std.proofs.Common.{◌≡◌, ℕ, Bool, cond, ◌<◌, ◌≤◌, true, false, ◌⊎◌, inl, inr, List, [], ◌∷◌, ◌++◌, length, Option, Some, None, refl, sym, ap, ◌∙◌, subst, arith}
use Rattle.std.proofs.lemmas.Bool.{ltb-true, ltb-false}
use Rattle.std.proofs.lemmas.List.{length_push}
use Rattle.std.specs.Prelude.{nat_lt}
use Rattle.kq_model.specs.Caller.{Caller}
use Rattle.kq_model.specs.Tallying.{tallying}
use Rattle.kq_model.specs.declared.change.Change.{Change}
use Rattle.kq_model.specs.declared.errno.Errno.{Errno}
use Rattle.kq_model.specs.declared.kevent.Kevent.{Kevent}
use Rattle.kq_model.specs.declared.reply.Reply.TheVariants.{Events}
use Rattle.kq_model.specs.Bits.{asks, add, delete, error}
use Rattle.kq_model.specs.Call.{entry_of, is_answered, ended, after, process, returned, by_entries, by_answer, concluded, call}
use Rattle.kq_model.specs.CallLaws.{Each, IsAnswer, kqueue_after_changes, AreQuiet, IsChangesThenPoll}
use Rattle.kq_model.specs.Knote.{find_knote}
use Rattle.kq_model.specs.Kqueue.{IsSound}
use Rattle.kq_model.specs.Registration.{unless_refused, Refuse, Remove, Make, Modify, decided, decision, carried_out, register}
use Rattle.kq_model.specs.Views.{Views}
use Rattle.kq_model.specs.ChangedKnote.{key_of, made, modified}
use Rattle.kq_model.specs.Refusals.{is_malformed, is_unopened, own_refusal}
use Rattle.kq_model.specs.Tallied.{Called, Decision, Knote, Kqueue, Processed, Registered, Retrieved}
use Rattle.kq_model.proofs.KnoteLaws.{by_test, find_knote-key}
use Rattle.kq_kevent.proofs.CallLaws.{after_by, call-through}
use Rattle.kq_model.proofs.RegistrationLaws.{made-key, modified-key}
use Rattle.kq_kevent.proofs.KnoteSteps.{modified-active}
use Rattle.kq_kevent.proofs.SoundLaws.{IsSound-made, IsSound-removed, IsSound-modified}
use Rattle.kq_kevent.proofs.TakenLaws.{nil_in_order, AreTaken-retrieval}
use Rattle.kq_kevent.proofs.TurnLaws.{retrieval-going, going-full}

-- ---- a registration keeps a kqueue sound

-- what a decision takes for granted of the knote of its change
abbrev Fits : Option Knote → Decision → Type 0
Fits present (Refuse e) = Unit {0}
Fits present Remove = Unit {0}
Fits present Make = present ≡ None
Fits present (Modify k) = present ≡ Some k

fits_either : (present : Option Knote) (b : Bool) (x y : Decision) → Fits present x → Fits present y
    → Fits present (cond b x y)
fits_either present true x y left right = left
fits_either present false x y left right = right

fits_unless : (present : Option Knote) (e : Option Errno) (d : Decision) → Fits present d
    → Fits present (unless_refused e d)
unfolding unless_refused
fits_unless present None d fits = fits
fits_unless present (Some e) d fits = tt

decided-fits : (caller : Caller) (present : Option Knote) (c : Change) → Fits present (decided caller present c)
unfolding decided
decided-fits caller None c =
    fits_either None (asks c.flags add) _ _ (fits_unless None (own_refusal c.filter caller true c) Make refl) tt
decided-fits caller (Some k) c =
    fits_either (Some k) (asks c.flags delete) _ _ tt
    (fits_either (Some k) (asks c.flags add) _ _ (fits_unless (Some k) (own_refusal c.filter caller false c)
    (Modify k) refl) refl)

decision-fits : (caller : Caller) (present : Option Knote) (c : Change) → Fits present (decision caller present c)
unfolding decision
decision-fits caller present c =
    fits_either present (is_malformed c) _ _ tt (fits_either present (is_unopened caller c) _ _ tt
    (decided-fits caller present c))

IsSound-carried : (caller : Caller) (c : Change) (kq : Kqueue) → IsSound kq → (d : Decision)
    → Fits (find_knote (key_of c) kq.knotes) d → IsSound (carried_out caller c kq d).kq
unfolding carried_out
IsSound-carried caller c kq sound (Refuse e) fits = sound
IsSound-carried caller c kq sound Remove fits = IsSound-removed kq (key_of c) sound
IsSound-carried caller c kq sound Make fits =
    IsSound-made kq (made caller c) sound (ap (λ o. find_knote o kq.knotes) (made-key tallying caller c) ∙ fits)
IsSound-carried caller c kq sound (Modify k) fits =
    let of_key = modified-key tallying caller c k ∙ sym (find_knote-key (key_of c) kq.knotes k fits) in
    IsSound-modified kq c (modified caller c k) k sound of_key (ap (λ o. find_knote o kq.knotes) of_key ∙ fits)
    (modified-active caller c k)

pub IsSound-register : (caller : Caller) (c : Change) (kq : Kqueue) → IsSound kq → IsSound (register caller c kq).kq
unfolding register
IsSound-register caller c kq sound =
    let present = find_knote (key_of c) kq.knotes in
    IsSound-carried caller c kq sound (decision caller present c) (decision-fits caller present c)

-- ---- the changes of a call

-- after one change: an entry was placed, no room was left for it, or none was due
after-cases : (P : Processed → Type 0) (rest : List Kevent → Kqueue → Processed) (room : ℕ) (c : Change)
    (placed : List Kevent) (r : Registered)
    → (length placed < room → P (rest (placed ++ entry_of c r.error ∷ []) r.kq))
    → (room ≤ length placed → P (record { kq = r.kq; placed = placed; answer = Some (ended r.error placed) }))
    → P (rest placed r.kq) → P (after rest room c placed r)
unfolding after
after-cases P rest room c placed r places full passes =
    by_test (λ b. P (after_by rest c placed r b (nat_lt (length placed) room))) (is_answered c r.error)
    (λ _. by_test (λ f. nat_lt (length placed) room ≡ f → P (after_by rest c placed r true f))
    (nat_lt (length placed) room)
    (λ _ e. places (ltb-true (length placed) room e)) (λ _ e. full (ltb-false (length placed) room e)) refl)
    (λ _. passes)

pub IsSound-process : (caller : Caller) (room : ℕ) (cs : List Change) (placed : List Kevent) (kq : Kqueue)
    → IsSound kq → IsSound (process caller room cs placed kq).kq
unfolding process
IsSound-process caller room [] placed kq sound = sound
IsSound-process caller room (c ∷ cs) placed kq sound =
    let r = register caller c kq in
    let still = IsSound-register caller c kq sound in
    after-cases (λ (p : Processed). IsSound p.kq) (process caller room cs) room c placed r
    (λ _. IsSound-process caller room cs (placed ++ entry_of c r.error ∷ []) r.kq still)
    (λ _. still)
    (IsSound-process caller room cs placed r.kq still)

abbrev IsEntry : Kevent → Type 0
IsEntry e = asks e.flags error ≡ true

-- the changes went through, or ended the call where no room was left
abbrev IsEnd : ℕ → Processed → Type 0
IsEnd room p =
    (p.answer ≡ None) ⊎ ((e : Option Errno) × (p.answer ≡ Some (ended e p.placed)) × (room ≤ length p.placed))

record IsProcessed (room : ℕ) (p : Processed) : Type 0 where
  entries : Each IsEntry p.placed
  within : length p.placed ≤ room
  ending : IsEnd room p

entry-error : (c : Change) (e : Option Errno) → IsEntry (entry_of c e)
unfolding entry_of
entry-error c e = refl

entries-push : (es : List Kevent) (e : Kevent) → Each IsEntry es → IsEntry e → Each IsEntry (es ++ e ∷ [])
entries-push [] e all is = (is, tt)
entries-push (x ∷ es) e all is = (all.0, entries-push es e all.1 is)

process-is : (caller : Caller) (room : ℕ) (cs : List Change) (placed : List Kevent) (kq : Kqueue)
    → Each IsEntry placed → length placed ≤ room → IsProcessed room (process caller room cs placed kq)
unfolding process
process-is caller room [] placed kq entries within = record { entries = entries; within = within; ending = inl refl }
process-is caller room (c ∷ cs) placed kq entries within =
    let r = register caller c kq in
    after-cases (IsProcessed room) (process caller room cs) room c placed r
    (λ fits. process-is caller room cs (placed ++ entry_of c r.error ∷ []) r.kq
    (entries-push placed (entry_of c r.error) entries (entry-error c r.error))
    (omega (arith, length_push placed (entry_of c r.error))))
    (λ full. record { entries = entries; within = within; ending = inr (r.error, refl, full) })
    (process-is caller room cs placed r.kq entries within)

-- ---- the answer

-- entries without room for more
full_answer : (views : Views) (room : ℕ) (kq : Kqueue) (es : List Kevent) → Each IsEntry es → length es ≤ room
    → room ≤ length es → IsAnswer views room kq kq (Events es)
full_answer views room kq [] entries within full = inr (record {
  in_order = nil_in_order kq.queue;
  once = tt;
  within = within;
  due = tt;
  oneshot_gone = tt;
  no_error = tt;
  complete = λ less key there. absurd (omega arith);
})
full_answer views room kq (e ∷ es) entries within full =
    inl (record { entries = entries; some = omega arith; within = within; untouched = refl })

ended_answer : (views : Views) (room : ℕ) (kq : Kqueue) (es : List Kevent) (e : Option Errno) → Each IsEntry es
    → length es ≤ room → room ≤ length es → IsAnswer views room kq kq (ended e es)
unfolding ended
ended_answer views room kq es None entries within full = full_answer views room kq es entries within full
ended_answer views room kq es (Some e) entries within full = refl

through_answer : (views : Views) (room : ℕ) (kq : Kqueue) (es : List Kevent) → IsSound kq → Each IsEntry es
    → length es ≤ room → IsAnswer views room kq (by_entries views room es kq).kq (by_entries views room es kq).reply
unfolding by_entries returned
through_answer views room kq [] sound entries within = inr (AreTaken-retrieval views room kq sound)
through_answer views room kq (e ∷ es) sound entries within =
    inl (record { entries = entries; some = omega arith; within = within; untouched = refl })

abbrev Answers : Views → ℕ → Kqueue → Called → Type 0
Answers views room kq called = IsAnswer views room kq called.kq called.reply

concluded_answer : (views : Views) (room : ℕ) (p : Processed) → IsSound p.kq → IsProcessed room p → IsEnd room p
    → Answers views room p.kq (concluded views room p)
unfolding concluded by_answer
concluded_answer views room p sound is (inl through) =
    subst (λ a. Answers views room p.kq (by_answer views room p a)) (sym through)
    (through_answer views room p.kq p.placed sound is.entries is.within)
concluded_answer views room p sound is (inr full) =
    subst (λ a. Answers views room p.kq (by_answer views room p a)) (sym full.1)
    (ended_answer views room p.kq p.placed full.0 is.entries is.within full.2)

pub call-answer : (caller : Caller) (room : ℕ) (cs : List Change) (kq : Kqueue) → IsSound kq
    → IsAnswer caller.views room (kqueue_after_changes caller room cs kq) (call caller room cs kq).kq
    (call caller room cs kq).reply
unfolding call
call-answer caller room cs kq sound =
    let is = process-is caller room cs [] kq tt (omega arith) in
    concluded_answer caller.views room (process caller room cs [] kq) (IsSound-process caller room cs [] kq sound) is
    is.ending

-- ---- changes, then a poll

quiet_process : (caller : Caller) (cs : List Change) (kq : Kqueue) → AreQuiet caller cs kq
    → (next : Kqueue) × ((room : ℕ) → process caller room cs [] kq ≡ record { kq = next; placed = []; answer = None })
unfolding process after
quiet_process caller [] kq quiet = (kq, λ room. refl)
quiet_process caller (c ∷ cs) kq quiet =
    let r = register caller c kq in
    let later = quiet_process caller cs r.kq quiet.1 in (
      later.0,
      λ room. ap (λ b. after_by (process caller room cs) c [] r b (nat_lt (length {A = Kevent} []) room))
          quiet.0 ∙ later.1 room,
    )

process-nil : (caller : Caller) (room : ℕ) (kq : Kqueue) → process caller room [] [] kq ≡ record
    { kq = kq; placed = []; answer = None }
unfolding process
process-nil caller room kq = refl

pub by_entries-nil : (views : Views) (kq : Kqueue) → (by_entries views 0 [] kq).kq ≡ kq
unfolding by_entries returned
by_entries-nil views kq =
    ap (λ (r : Retrieved). r.kq) (retrieval-going views 0 kq ∙ going-full views (length kq.queue) kq)

pub changes_then_poll : (caller : Caller) (room : ℕ) (cs : List Change) (kq : Kqueue)
    → IsChangesThenPoll caller room cs kq
changes_then_poll caller room cs kq quiet =
    let later = quiet_process caller cs kq quiet in
    let next = later.0 in
    let rest = ap (λ (c : Called). c.kq) (call-through caller 0 cs kq next [] (later.1 0))
    ∙ by_entries-nil caller.views next in
    call-through caller room cs kq next [] (later.1 room)
    ∙ sym (call-through caller room [] next next [] (process-nil caller room next))
    ∙ ap (call caller room []) (sym rest)
