-- A call in two steps: what its changes come to, that reading is then what is left of it, and the same in tallies.
use Rattle.std.proofs.Common.{◌≡◌, ℕ, ◌≤◌, Bool, true, false, cond, List, [], ◌∷◌, ◌++◌, length, Option, Some, None, refl, sym, ap, ◌∙◌, arith}
use Rattle.std.specs.Prelude.{nat_lt}
use Rattle.std.proofs.lemmas.List.{length_push}
use Rattle.kq_model.specs.declared.change.Change.{Change}
use Rattle.kq_model.specs.declared.errno.Errno.{Errno}
use Rattle.kq_model.specs.declared.kevent.Kevent.{Kevent}
use Rattle.kq_model.specs.declared.reply.Reply.{Reply}
use Rattle.kq_model.specs.Call.{Processed, entry_of, is_answered, ended, after, process, by_entries, by_answer, concluded, call}
use Rattle.kq_model.specs.CallLaws.{kqueue_after_changes}
use Rattle.kq_model.specs.Caller.{Caller}
use Rattle.kq_model.specs.Hearing.{Hearing, listed}
use Rattle.kq_model.specs.Tallying.{tallying}
use Rattle.kq_model.specs.Kqueue.{Kqueue}
use Rattle.kq_model.specs.Recast.{tallied}
use Rattle.kq_model.specs.Registration.{register}
use Rattle.kq_model.specs.Tallied as code
use Rattle.kq_model.specs.Views.{Views}
use Rattle.kq_model.proofs.KnoteLaws.{by_test}
use Rattle.kq_model.proofs.Tallied.{register-tallied, register-error-tallied}
use Rattle.kq_kevent.specs.Beginning.{Begun, begun, read, gone_on, answer_after, answer_of_entries, IsCallInSteps, IsTalliedBeginning}
use Rattle.kq_kevent.proofs.AnswerLaws.{by_entries-nil}
use Rattle.kq_kevent.proofs.CallLaws.{after_by, call-ended, call-entries, call-through}

module _ {S : Type 0} {h : Hearing S} where
  -- ---- reading alone

  pub call-nil : (caller : Caller) (room : ℕ) (kq : Kqueue h) → call caller room [] kq ≡ read caller.views room kq
  unfolding call concluded by_answer by_entries process read
  call-nil caller room kq = refl

  pub changed-nil : (caller : Caller) (room : ℕ) (kq : Kqueue h) → kqueue_after_changes caller room [] kq ≡ kq
  unfolding process
  changed-nil caller room kq = refl

  -- ---- beginning, and then reading

  pub begun-is : (caller : Caller) (room : ℕ) (changes : List Change) (kq : Kqueue h) (p : Processed h)
      → process caller room changes [] kq ≡ p
      → record { kq = p.kq; answer = answer_after p.placed p.answer } ≡ begun caller room changes kq
  unfolding begun
  begun-is caller room changes kq p is = ap begin_of (sym is)
    where
      begin_of : Processed h → Begun h
      begin_of q = record { kq = q.kq; answer = answer_after q.placed q.answer }

  gone_entries : (views : Views) (room : ℕ) (b : Begun h) (placed : List Kevent)
      → gone_on views room b (answer_of_entries placed) ≡ by_entries views room placed b.kq
  unfolding gone_on answer_of_entries by_entries read
  gone_entries views room b [] = refl
  gone_entries views room b (e ∷ placed) = refl

  gone_after : (views : Views) (room : ℕ) (p : Processed h) (b : Begun h) (answer : Option Reply) → b.kq ≡ p.kq
      → gone_on views room b (answer_after p.placed answer) ≡ by_answer views room p answer
  unfolding gone_on answer_after by_answer
  gone_after views room p b (Some reply) same = ap (λ (q : Kqueue h). record { kq = q; reply = reply }) same
  gone_after views room p b None same =
      gone_entries views room b p.placed ∙ ap (by_entries views room p.placed) same

  pub call-in-steps : (caller : Caller) (room : ℕ) (changes : List Change) (kq : Kqueue h)
      → IsCallInSteps caller room changes kq
  unfolding begun call concluded
  call-in-steps caller room changes kq =
      let p = process caller room changes [] kq in
      gone_after caller.views room p (begun caller room changes kq) p.answer refl

-- ---- the changes alone are those of a call

-- entries that are placed stay
process-longer : (by : Caller) (room : ℕ) (cs : List Change) (placed : List Kevent) (kq : code.Kqueue)
    → length placed ≤ length (process by room cs placed kq).placed
unfolding process after
process-longer by room [] placed kq = omega arith
process-longer by room (c ∷ cs) placed kq =
    let r = register by c kq in
    let rest = process by room cs in
    by_test (λ a. length placed ≤ length (after_by rest c placed r a (nat_lt (length placed) room)).placed)
    (is_answered c r.error)
    (λ _. by_test (λ f. length placed ≤ length (after_by rest c placed r true f).placed) (nat_lt (length placed) room)
    (λ _. omega (
      arith,
      process-longer by room cs (placed ++ entry_of c r.error ∷ []) r.kq,
      length_push placed (entry_of c r.error),
    ))
    (λ _. omega arith))
    (λ _. process-longer by room cs placed r.kq)

-- where no entry was placed and no change ended the call, its room makes no difference
process-quiet : (by : Caller) (room : ℕ) (cs : List Change) (kq : code.Kqueue)
    → (process by room cs [] kq).placed ≡ [] → (process by room cs [] kq).answer ≡ None
    → process by 0 cs [] kq ≡ record { kq = (process by room cs [] kq).kq; placed = []; answer = None }
unfolding process after
process-quiet by room [] kq none through = refl
process-quiet by room (c ∷ cs) kq none through =
    let r = register by c kq in
    let rest = process by room cs in
    let fits = nat_lt (length {A = Kevent} []) room in
    by_test (λ a. is_answered c r.error ≡ a → (after_by rest c [] r a fits).placed ≡ []
    → (after_by rest c [] r a fits).answer ≡ None
    → after_by (process by 0 cs) c [] r (is_answered c r.error) (nat_lt (length {A = Kevent} []) 0)
    ≡ record { kq = (after_by rest c [] r a fits).kq; placed = []; answer = None }) (is_answered c r.error)
    (λ _ _. by_test (λ f. (after_by rest c [] r true f).placed ≡ [] → (after_by rest c [] r true f).answer ≡ None
    → after_by (process by 0 cs) c [] r (is_answered c r.error) (nat_lt (length {A = Kevent} []) 0)
    ≡ record { kq = (after_by rest c [] r true f).kq; placed = []; answer = None }) fits
    (λ _ no _.
    let longer = process-longer by room cs (entry_of c r.error ∷ []) r.kq in
    let nothing = ap (length {A = Kevent}) no in
    absurd (omega (arith, longer, nothing)))
    (λ _ _ ends. absurd (cc)))
    (λ _ quiet no goes. ap (λ a. after_by (process by 0 cs) c [] r a (nat_lt (length {A = Kevent} []) 0)) quiet
    ∙ process-quiet by room cs r.kq no goes) refl none through

-- the end of the changes, in each case
by_end : (by : Caller) (room : ℕ) (cs : List Change) (kq next : code.Kqueue) (placed : List Kevent)
    (answer : Option Reply) → process by room cs [] kq ≡ record { kq = next; placed = placed; answer = answer }
    → (placed ≡ [] → answer ≡ None → process by 0 cs [] kq ≡ record { kq = next; placed = []; answer = None })
    → (other : ℕ) × ((call by other cs kq).kq ≡ next)
by_end by room cs kq next placed (Some reply) is quiet =
    (room, sym (ap (λ (d : code.Called). d.kq) (call-ended by room cs kq next placed reply is)))
by_end by room cs kq next (e ∷ placed) None is quiet = (
  room,
  sym (ap (λ (d : code.Called). d.kq)
      (call-entries by room cs kq next (e ∷ placed) is (λ zero. absurd (omega (arith, zero))))),
)
by_end by room cs kq next [] None is quiet = (
  0,
  ap (λ (d : code.Called). d.kq) (call-through by 0 cs kq next [] (quiet refl refl))
      ∙ by_entries-nil by.views next,
)

-- The kqueue after the changes of a call is the kqueue after some call with these changes: this one, where it reads no
-- events, and else that without room.
pub changes-by-call : (by : Caller) (room : ℕ) (cs : List Change) (kq : code.Kqueue)
    → (other : ℕ) × ((call by other cs kq).kq ≡ (begun by room cs kq).kq)
unfolding begun
changes-by-call by room cs kq =
    let p = process by room cs [] kq in
    by_end by room cs kq p.kq p.placed p.answer refl (process-quiet by room cs kq)

-- ---- in tallies

module _ {S : Type 0} {h : Hearing S} where
  -- after one change
  abbrev branch : (List Kevent → Kqueue h → Processed h) → Change → List Kevent → Kqueue h → Option Errno → Bool → Bool
      → Processed h
  branch rest c placed kq error answered fits =
      cond answered (cond fits (rest (placed ++ entry_of c error ∷ []) kq)
      (record { kq = kq; placed = placed; answer = Some (ended error placed) })) (rest placed kq)

abbrev tallied_processed : Processed listed → Processed tallying
tallied_processed p = record { kq = tallied p.kq; placed = p.placed; answer = p.answer }

branch-tallied : (rest : List Kevent → Kqueue tallying → Processed tallying)
    (other : List Kevent → Kqueue listed → Processed listed) (c : Change) (placed : List Kevent)
    (kq : Kqueue tallying) (m : Kqueue listed) (error : Option Errno)
    → ((placed : List Kevent) → rest placed kq ≡ tallied_processed (other placed m)) → kq ≡ tallied m
    → (answered fits : Bool) → branch rest c placed kq error answered fits
    ≡ tallied_processed (branch other c placed m error answered fits)
branch-tallied rest other c placed kq m error goes same true true = goes (placed ++ entry_of c error ∷ [])
branch-tallied rest other c placed kq m error goes same true false =
    ap (λ (q : Kqueue tallying). ends q) same
  where
    ends : Kqueue tallying → Processed tallying
    ends q = record { kq = q; placed = placed; answer = Some (ended error placed) }
branch-tallied rest other c placed kq m error goes same false fits = goes placed

process-tallied : (caller : Caller) (room : ℕ) (cs : List Change) (placed : List Kevent) (kq : Kqueue tallying)
    (m : Kqueue listed) → kq ≡ tallied m
    → process caller room cs placed kq ≡ tallied_processed (process caller room cs placed m)
unfolding process after
process-tallied caller room [] placed kq m same = ap through same
  where
    through : Kqueue tallying → Processed tallying
    through q = record { kq = q; placed = placed; answer = None }
process-tallied caller room (c ∷ cs) placed kq m same =
    let r = register caller c kq in
    let s = register caller c m in
    let fits = nat_lt (length placed) room in
    let kqs : r.kq ≡ tallied s.kq = register-tallied kq m same caller c in
    ap (λ (e : Option Errno). branch (process caller room cs) c placed r.kq e (is_answered c e) fits)
    (register-error-tallied kq m same caller c)
    ∙ branch-tallied (process caller room cs) (process caller room cs) c placed r.kq s.kq s.error
    (λ more. process-tallied caller room cs more r.kq s.kq kqs) kqs (is_answered c s.error) fits

-- what the code's kqueue begins with is what the definitions' does
pub begun-tallied : (caller : Caller) (room : ℕ) (cs : List Change) (kq next : Kqueue tallying) (m : Kqueue listed)
    (answer : Option Reply) → kq ≡ tallied m
    → ◌≡◌ {A = Begun tallying} (record { kq = next; answer = answer }) (begun caller room cs kq)
    → IsTalliedBeginning next answer (begun caller room cs m)
unfolding begun
begun-tallied caller room cs kq next m answer same is =
    let both = process-tallied caller room cs [] kq m same in (
      ap (λ (b : Begun tallying). b.kq) is ∙ ap (λ (p : Processed tallying). p.kq) both,
      ap (λ (b : Begun tallying). b.answer) is
          ∙ ap (λ (p : Processed tallying). answer_after p.placed p.answer) both,
    )
