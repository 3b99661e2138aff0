-- The history of a live system replays: its replies are those of the fold of its events.
use Rattle.std.proofs.Common.{◌≡◌, ℕ, ◌+◌, List, [], ◌∷◌, ◌++◌, refl, sym, ap, ap₂, ◌∙◌, subst}
use Rattle.kq_lock.specs.Calls.{Leads}
use Rattle.kq_model.specs.declared.event.Event.{Event}
use Rattle.kq_model.specs.declared.filter.Filter.{Filter}
use Rattle.kq_model.specs.declared.reply.Reply.{Reply}
use Rattle.kq_model.specs.declared.row.Row.{Row}
use Rattle.kq_model.specs.Hearing.{Hearing}
use Rattle.kq_model.specs.Tallying.{tallying}
use Rattle.kq_model.specs.Objects.{Keeping, counted}
use Rattle.kq_model.specs.Recast.{IsHearingMap, recast_system}
use Rattle.kq_model.specs.System as system
use Rattle.kq_model.specs.System.{Stepped, empty_system, step, row_of, rows, rows_by, rows_after}
use Rattle.kq_model.specs.Tallied.{System}
use Rattle.kq_model.proofs.CountedObjects.{CountsAll, listed-counts}
use Rattle.kq_model.proofs.RecastSystem.{step-recast}
use Rattle.kq_model.proofs.RecastTally.{tally_of-map}
use Rattle.kq_system.specs.SystemState.{IsStep, system_of}
use Rattle.kq_live.specs.declared.machine.LiveMachine.{LiveMachine}
use Rattle.kq_live.specs.LiveSteps.{IsEmpty, IsNextStep}
use Rattle.kq_live.specs.Lives.{LiveCall, Replays, events_of, replies_of}
use Rattle.kq_live.specs.Replies.{replies, replies_after, replies_by, rows_of}

-- ---- the replies are the same, however what was heard and the objects are kept

module _ {S T A B C D : Type 0} {h : Hearing S} {g : Hearing T} {f : Filter → S → T} {k : Keeping A B C D} (is : IsHearingMap h g f) (counts : CountsAll k) where
  replies_after-recast : (place : ℕ) (s : system.System h k) (es : List Event) → replies_after place (recast_system g f s) es ≡ replies_after place s es
  unfolding replies_after
  replies_after-recast place s [] = refl
  replies_after-recast place s (e ∷ es) =
      ap (λ (t : Stepped g counted). t.reply ∷ replies_after (place + 1) t.system es) (step-recast is counts place e s)
      ∙ ap (λ rest. (step place e s).reply ∷ rest) (replies_after-recast (place + 1) (step place e s).system es)

  replies_by-recast : (version : ℕ) (es : List Event) → replies_by h k version es ≡ replies_by g counted version es
  unfolding replies_by
  replies_by-recast version es = sym (replies_after-recast 1 (empty_system version) es)

replies-tallied : (version : ℕ) (es : List Event) → replies version es ≡ replies_by tallying counted version es
unfolding replies
replies-tallied version es = replies_by-recast tally_of-map listed-counts version es

-- ---- the rows of a trace are those of its replies

rows_after-replies : {S A B C D : Type 0} {h : Hearing S} {k : Keeping A B C D} (place : ℕ) (s : system.System h k)
    (es : List Event) → rows_of place (replies_after place s es) ≡ rows_after place s es
unfolding rows_of replies_after rows_after
rows_after-replies place s [] = refl
rows_after-replies place s (e ∷ es) =
    ap (λ (rest : List Row). row_of place (step place e s).reply ++ rest)
    (rows_after-replies (place + 1) (step place e s).system es)

pub rows-replies : (version : ℕ) (es : List Event) → rows_of 1 (replies version es) ≡ rows version es
unfolding rows rows_by replies replies_by
rows-replies version es = rows_after-replies 1 (empty_system version) es

-- ---- a history of the machine

abbrev pub next_step : LiveMachine → Event → Reply → LiveMachine → Type 0
next_step v e a w = IsNextStep v e a w

leads_replies : (o w : LiveMachine) (place : ℕ) (s : System) (log : List LiveCall) → Leads next_step o log w
    → system_of o ≡ s → o.applied + 1 ≡ place → replies_of log ≡ replies_after place s (events_of log)
unfolding replies_after
leads_replies o w place s [] h is at = refl
leads_replies o w place s (c ∷ cs) h is at =
    let u : LiveMachine = h.0 in
    let first : IsStep place c.step (system_of o) (system_of u) c.answer =
    subst (λ (p : ℕ). IsStep p c.step (system_of o) (system_of u) c.answer) at h.1.0 in
    let now : IsStep place c.step s (system_of u) c.answer =
    subst (λ (t : System). IsStep place c.step t (system_of u) c.answer) is first in
    let rest = leads_replies u w (place + 1) (step place c.step s).system cs h.2 now.0
    (ap (λ (n : ℕ). n + 1) (h.1.1 ∙ at)) in
    ap₂ (λ (r : Reply) (rs : List Reply). r ∷ rs) now.1 rest

-- a history that begins with the empty system replays
pub legal_replays : (version : ℕ) (o w : LiveMachine) (log : List LiveCall) → Leads next_step o log w
    → IsEmpty version o → Replays version log
unfolding replies_by
legal_replays version o w log h empty =
    leads_replies o w 1 (empty_system version) log h empty.0 (ap (λ (n : ℕ). n + 1) empty.1)
    ∙ sym (replies-tallied version (events_of log))
