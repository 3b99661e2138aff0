-- A call, change by change, and what its end comes to.
use Rattle.std.proofs.Common.{◌≡◌, ℕ, suc, ◌+◌, ◌<◌, ◌≤◌, Bool, true, false, cond, not, List, [], ◌∷◌, ◌++◌, length, drop, get_or, Option, Some, None, refl, sym, ap, ◌∙◌, arith}
use Rattle.std.proofs.lemmas.Bool.{lt-ltb, le-ltb}
use Rattle.std.proofs.lemmas.List.{drop_more, drop_all, length_push}
use Rattle.std.specs.Prelude.{nat_lt}
use Rattle.kq_model.specs.Caller.{Caller}
use Rattle.kq_model.specs.declared.change.Change.{Change}
use Rattle.kq_model.specs.declared.errno.Errno.{Errno}
use Rattle.kq_model.specs.declared.kevent.Kevent.{Kevent}
use Rattle.kq_model.specs.declared.key.Key.{Key}
use Rattle.kq_model.specs.declared.reply.Reply.{Reply}
use Rattle.kq_model.specs.declared.reply.Reply.TheVariants.{Events, Failed}
use Rattle.kq_model.specs.Call.{entry_of, is_answered, ended, after, process, returned, by_entries, by_answer, concluded, call}
use Rattle.kq_model.specs.Knote.{find_knote, has_key, key_eq, without_key, queued}
use Rattle.kq_model.specs.Registration.{queue_for, is_restart, without_restarted, Refuse, Remove, Make, Modify, decision, carried_out, register}
use Rattle.kq_model.specs.Retrieval.{retrieval}
use Rattle.kq_model.specs.Views.{Views}
use Rattle.kq_model.specs.ChangedKnote.{key_of, modified}
use Rattle.kq_model.specs.Tallied.{Called, Decision, Knote, Kqueue, Processed, Registered}
use Rattle.kq_model.proofs.KnoteLaws.{by_test}
use Rattle.kq_kevent.specs.Owned.{OwnedKqueue, caller}

-- ---- the queue grows by one key at most

abbrev kept : Key → List Key → Bool → List Key
kept x rest b = cond (not b) (x ∷ rest) rest

length-without_key : (gone : Key) (q : List Key) → length (without_key gone q) ≤ length q
length-without_key gone [] = omega arith
length-without_key gone (x ∷ q) =
    by_test (λ b. length (kept x (without_key gone q) b) ≤ suc (length q)) (key_eq gone x)
    (λ _. omega (arith, length-without_key gone q)) (λ _. omega (arith, length-without_key gone q))

abbrev put_if_absent : Key → List Key → Bool → List Key
put_if_absent k q b = cond b q (q ++ k ∷ [])

length-queued : (k : Key) (q : List Key) → length (queued k q) ≤ length q + 1
length-queued k q =
    by_test (λ b. length (put_if_absent k q b) ≤ length q + 1) (has_key k q)
    (λ _. omega arith) (λ _. omega (arith, length_push q k))

abbrev queue_by : Knote → List Key → Bool → Bool → List Key
queue_by k q enabled active = cond enabled (cond active (queued k.key q) q) (without_key k.key q)

length-queue_for : (k : Knote) (q : List Key) → length (queue_for k q) ≤ length q + 1
unfolding queue_for
length-queue_for k q =
    by_test (λ e. length (queue_by k q e k.active) ≤ length q + 1) k.enabled
    (λ _. by_test (λ a. length (queue_by k q true a) ≤ length q + 1) k.active
    (λ _. length-queued k.key q) (λ _. omega arith))
    (λ _. omega (arith, length-without_key k.key q))

length-without_restarted : (c : Change) (q : List Key) → length (without_restarted c q) ≤ length q
length-without_restarted c q =
    by_test (λ b. length (cond b (without_key (key_of c) q) q) ≤ length q) (is_restart c)
    (λ _. length-without_key (key_of c) q) (λ _. omega arith)

length-carried_out : (by : Caller) (c : Change) (kq : Kqueue) (d : Decision) → length (carried_out by c kq d).kq.queue
    ≤ length kq.queue + 1
unfolding carried_out
length-carried_out by c kq (Refuse e) = omega arith
length-carried_out by c kq Remove = omega (arith, length-without_key (key_of c) kq.queue)
length-carried_out by c kq Make = length-queue_for _ kq.queue
length-carried_out by c kq (Modify k) =
    omega (
      arith,
      length-queue_for (modified by c k) (without_restarted c kq.queue),
      length-without_restarted c
          kq.queue,
    )

pub length-register : (by : Caller) (c : Change) (kq : Kqueue)
    → length (register by c kq).kq.queue ≤ length kq.queue + 1
unfolding register
length-register by c kq = length-carried_out by c kq (decision by (find_knote (key_of c) kq.knotes) c)

-- ---- the changes one by one; d is the default of a read past the end

process-drop : (by : Caller) (room : ℕ) (cs : List Change) (i : ℕ) (d : Change) (placed : List Kevent) (kq : Kqueue)
    → i < length cs → process by room (drop i cs) placed kq ≡ after (process by room (drop (i + 1) cs)) room
    (get_or cs i d) placed (register by (get_or cs i d) kq)
unfolding process
process-drop by room cs i d placed kq within =
    ap (λ l. process by room l placed kq) (drop_more cs i d within)

abbrev pub after_by : (List Kevent → Kqueue → Processed) → Change → List Kevent → Registered → Bool → Bool → Processed
after_by rest c placed r answered fits =
    cond answered (cond fits (rest (placed ++ entry_of c r.error ∷ []) r.kq)
    (record { kq = r.kq; placed = placed; answer = Some (ended r.error placed) })) (rest placed r.kq)

-- the registration with its parts named
registered : (r : Registered) (next : Kqueue) (error : Option Errno) → next ≡ r.kq → error ≡ r.error
    → r ≡ record { kq = next; error = error }
registered r next error e f = ap (λ (q : Kqueue). make q r.error) (sym e) ∙ ap (make next) (sym f)
  where
    make : Kqueue → Option Errno → Registered
    make q x = record { kq = q; error = x }

pub process-passes : (by : Caller) (room : ℕ) (cs : List Change) (i : ℕ) (d : Change) (placed : List Kevent)
    (kq next : Kqueue) (error : Option Errno) → i < length cs → next ≡ (register by (get_or cs i d) kq).kq
    → error ≡ (register by (get_or cs i d) kq).error → is_answered (get_or cs i d) error ≡ false
    → process by room (drop i cs) placed kq ≡ process by room (drop (i + 1) cs) placed next
unfolding after
process-passes by room cs i d placed kq next error within e f answered =
    let c = get_or cs i d in
    let rest = process by room (drop (i + 1) cs) in
    process-drop by room cs i d placed kq within
    ∙ ap (after rest room c placed) (registered (register by c kq) next error e f)
    ∙ ap (λ b. after_by rest c placed (record { kq = next; error = error }) b (nat_lt (length placed) room)) answered

pub process-places : (by : Caller) (room : ℕ) (cs : List Change) (i : ℕ) (d : Change) (placed : List Kevent)
    (kq next : Kqueue) (error : Option Errno) → i < length cs → next ≡ (register by (get_or cs i d) kq).kq
    → error ≡ (register by (get_or cs i d) kq).error → is_answered (get_or cs i d) error ≡ true → length placed < room
    → process by room (drop i cs) placed kq ≡ process by room (drop (i + 1) cs)
    (placed ++ entry_of (get_or cs i d) error ∷ []) next
unfolding after
process-places by room cs i d placed kq next error within e f answered fits =
    let c = get_or cs i d in
    let rest = process by room (drop (i + 1) cs) in
    process-drop by room cs i d placed kq within
    ∙ ap (after rest room c placed) (registered (register by c kq) next error e f)
    ∙ ap (λ b. after_by rest c placed (record { kq = next; error = error }) b (nat_lt (length placed) room)) answered
    ∙ ap (λ b. after_by rest c placed (record { kq = next; error = error }) true b) (lt-ltb (length placed) room fits)

pub process-ends : (by : Caller) (room : ℕ) (cs : List Change) (i : ℕ) (d : Change) (placed : List Kevent)
    (kq next : Kqueue) (error : Option Errno) → i < length cs → next ≡ (register by (get_or cs i d) kq).kq
    → error ≡ (register by (get_or cs i d) kq).error → is_answered (get_or cs i d) error ≡ true → room ≤ length placed
    → process by room (drop i cs) placed kq ≡ record { kq = next; placed = placed; answer = Some (ended error placed) }
unfolding after
process-ends by room cs i d placed kq next error within e f answered full =
    let c = get_or cs i d in
    let rest = process by room (drop (i + 1) cs) in
    process-drop by room cs i d placed kq within
    ∙ ap (after rest room c placed) (registered (register by c kq) next error e f)
    ∙ ap (λ b. after_by rest c placed (record { kq = next; error = error }) b (nat_lt (length placed) room)) answered
    ∙ ap (λ b. after_by rest c placed (record { kq = next; error = error }) true b) (le-ltb (length placed) room full)

pub process-through : (by : Caller) (room : ℕ) (cs : List Change) (i : ℕ) (placed : List Kevent) (kq : Kqueue)
    → length cs ≤ i → process by room (drop i cs) placed kq ≡ record { kq = kq; placed = placed; answer = None }
unfolding process
process-through by room cs i placed kq over = ap (λ l. process by room l placed kq) (drop_all i cs over)

-- ---- the end of a call

pub call-ended : (by : Caller) (room : ℕ) (cs : List Change) (kq next : Kqueue) (placed : List Kevent) (reply : Reply)
    → process by room cs [] kq ≡ record { kq = next; placed = placed; answer = Some reply }
    → record { kq = next; reply = reply } ≡ call by room cs kq
unfolding call concluded by_answer
call-ended by room cs kq next placed reply is = sym (ap (concluded by.views room) is)

pub call-through : (by : Caller) (room : ℕ) (cs : List Change) (kq next : Kqueue) (placed : List Kevent)
    → process by room cs [] kq ≡ record { kq = next; placed = placed; answer = None }
    → call by room cs kq ≡ by_entries by.views room placed next
unfolding call concluded by_answer
call-through by room cs kq next placed is = ap (concluded by.views room) is

pub call-entries : (by : Caller) (room : ℕ) (cs : List Change) (kq next : Kqueue) (placed : List Kevent)
    → process by room cs [] kq ≡ record { kq = next; placed = placed; answer = None } → (length placed ≡ 0 → ⊥)
    → record { kq = next; reply = Events placed } ≡ call by room cs kq
unfolding by_entries
call-entries by room cs kq next placed is some = sym (call-through by room cs kq next placed is ∙ listed placed some)
  where
    listed : (es : List Kevent) → (length es ≡ 0 → ⊥) → by_entries by.views room es next ≡ record
        { kq = next; reply = Events es }
    listed [] none = absurd (none refl)
    listed (e ∷ es) none = refl

pub call-retrieves : (by : Caller) (room : ℕ) (cs : List Change) (kq next last : Kqueue) (placed events : List Kevent)
    → process by room cs [] kq ≡ record { kq = next; placed = placed; answer = None } → placed ≡ []
    → retrieval by.views room next ≡ record { kq = last; events = events }
    → record { kq = last; reply = Events events } ≡ call by room cs kq
unfolding by_entries returned
call-retrieves by room cs kq next last placed events is none taken =
    sym (call-through by room cs kq next placed is ∙ ap (λ es. by_entries by.views room es next) none
    ∙ ap returned taken)

abbrev pub called : Kqueue → Reply → Called
called kq reply = record { kq = kq; reply = reply }

-- a change that failed without room ends the call with its error
pub call-fails : (by : Caller) (room : ℕ) (cs : List Change) (kq next : Kqueue) (placed : List Kevent)
    (error : Option Errno) (e : Errno) → process by room cs [] kq ≡ record
    { kq = next; placed = placed; answer = Some (ended error placed) } → error ≡ Some e
    → record { kq = next; reply = Failed e } ≡ call by room cs kq
unfolding ended
call-fails by room cs kq next placed error e is failed =
    ap (λ (x : Option Errno). called next (ended x placed)) (sym failed) ∙ call-ended by room cs kq next placed
    (ended error placed) is

-- a receipt without room ends the call with the entries placed before
pub call-full : (by : Caller) (room : ℕ) (cs : List Change) (kq next : Kqueue) (placed : List Kevent)
    (error : Option Errno) → process by room cs [] kq ≡ record
    { kq = next; placed = placed; answer = Some (ended error placed) } → error ≡ None
    → record { kq = next; reply = Events placed } ≡ call by room cs kq
unfolding ended
call-full by room cs kq next placed error is fine =
    ap (λ (x : Option Errno). called next (ended x placed)) (sym fine) ∙ call-ended by room cs kq next placed
    (ended error placed) is

-- the owner calls as before
pub same_caller : (views : Views) (kq before : OwnedKqueue) → kq.owner ≡ before.owner → kq.version ≡ before.version
    → caller views kq ≡ caller views before
same_caller views kq before owner version =
    ap (λ pid. calls pid kq.version) owner ∙ ap (calls before.owner) version
  where
    calls : ℕ → ℕ → Caller
    calls pid n = record { views = views; owner = pid; version = n }

-- what was processed from an equal kqueue
pub process-from : (by first : Caller) (room : ℕ) (cs : List Change) (kq start : Kqueue) (p : Processed) → by ≡ first
    → kq ≡ start → process by room cs [] kq ≡ p → process first room cs [] start ≡ p
process-from by first room cs kq start p same_caller same_kq is =
    ap (λ o. process o room cs [] start) (sym same_caller) ∙ ap (process by room cs []) (sym same_kq) ∙ is
