-- A kevent call commutes with a change of how what was heard is kept, and gives the same reply.
use Rattle.std.proofs.Common.{◌≡◌, ℕ, Bool, cond, List, [], ◌∷◌, ◌++◌, length, ltb, Option, Some, None, refl, sym, ap, ◌∙◌}
use Rattle.kq_model.specs.declared.change.Change.{Change}
use Rattle.kq_model.specs.declared.filter.Filter.{Filter}
use Rattle.kq_model.specs.declared.kevent.Kevent.{Kevent}
use Rattle.kq_model.specs.declared.reply.Reply.{Reply}
use Rattle.kq_model.specs.Call.{Processed, Called, entry_of, is_answered, ended, after, process, returned, by_entries, by_answer, concluded, call}
use Rattle.kq_model.specs.Caller.{Caller}
use Rattle.kq_model.specs.Hearing.{Hearing}
use Rattle.kq_model.specs.Kqueue.{Kqueue}
use Rattle.kq_model.specs.Recast.{IsHearingMap, recast_kqueue}
use Rattle.kq_model.specs.Registration.{Registered, register}
use Rattle.kq_model.specs.Views.{Views}
use Rattle.kq_model.proofs.RecastKnote.{cond-map}
use Rattle.kq_model.proofs.RecastRegistration.{recast_registered, register-recast}
use Rattle.kq_model.proofs.RecastRetrieval.{retrieval-recast}

module _ {S T : Type 0} {h : Hearing S} {g : Hearing T} {f : Filter → S → T} (is : IsHearingMap h g f) where
  abbrev re_kq : Kqueue h → Kqueue g
  re_kq kq = recast_kqueue g f kq

  abbrev recast_processed : Processed h → Processed g
  recast_processed p = record { kq = re_kq p.kq; placed = p.placed; answer = p.answer }

  abbrev pub recast_called : Called h → Called g
  recast_called r = record { kq = re_kq r.kq; reply = r.reply }

  after-recast : (rest : List Kevent → Kqueue g → Processed g) (other : List Kevent → Kqueue h → Processed h)
      → ((placed : List Kevent) (kq : Kqueue h) → rest placed (re_kq kq) ≡ recast_processed (other placed kq))
      → (room : ℕ) (c : Change) (placed : List Kevent) (r : Registered h) → after rest room c placed (recast_registered is r) ≡ recast_processed (after other room c placed r)
  unfolding after
  after-recast rest other same room c placed r =
      ap (λ p. cond answered (cond (ltb (length placed) room) p stopped) (rest placed (re_kq r.kq))) (same (placed ++ entry_of c r.error ∷ []) r.kq)
      ∙ ap (λ p. cond answered (cond (ltb (length placed) room) (recast_processed further) stopped) p) (same placed r.kq)
      ∙ ap (λ p. cond answered p (recast_processed (other placed r.kq))) (sym (cond-map recast_processed (ltb (length placed) room) further _))
      ∙ sym (cond-map recast_processed answered _ (other placed r.kq))
    where
      answered : Bool
      answered = is_answered c r.error

      further : Processed h
      further = other (placed ++ entry_of c r.error ∷ []) r.kq

      stopped : Processed g
      stopped = record { kq = re_kq r.kq; placed = placed; answer = Some (ended r.error placed) }

  process-recast : (caller : Caller) (room : ℕ) (changes : List Change) (placed : List Kevent) (kq : Kqueue h)
      → process caller room changes placed (re_kq kq) ≡ recast_processed (process caller room changes placed kq)
  unfolding process
  process-recast caller room [] placed kq = refl
  process-recast caller room (c ∷ changes) placed kq =
      ap (after (process caller room changes) room c placed) (register-recast is caller c kq)
      ∙ after-recast (process caller room changes) (process caller room changes) (process-recast caller room changes) room c placed (register caller c kq)

  by_entries-recast : (views : Views) (room : ℕ) (placed : List Kevent) (kq : Kqueue h) → by_entries views room placed (re_kq kq) ≡ recast_called (by_entries views room placed kq)
  unfolding by_entries returned
  by_entries-recast views room [] kq = ap returned (retrieval-recast is views room kq)
  by_entries-recast views room (entry ∷ entries) kq = refl

  by_answer-recast : (views : Views) (room : ℕ) (p : Processed h) (answer : Option Reply) → by_answer views room (recast_processed p) answer ≡ recast_called (by_answer views room p answer)
  unfolding by_answer
  by_answer-recast views room p (Some reply) = refl
  by_answer-recast views room p None = by_entries-recast views room p.placed p.kq

  pub call-recast : (caller : Caller) (room : ℕ) (changes : List Change) (kq : Kqueue h) → call caller room changes (re_kq kq) ≡ recast_called (call caller room changes kq)
  unfolding call concluded
  call-recast caller room changes kq =
      let p = process caller room changes [] kq in
      ap (concluded caller.views room) (process-recast caller room changes [] kq) ∙ by_answer-recast caller.views room p p.answer
