-- What one record and one line leave.
use Rattle.std.proofs.Common.{◌≡◌, ◌∙◌, ℕ, ◌+◌, List, Result, Ok, Err, refl, sym, ap, ap₂, subst, arith}
use Rattle.kq_model.specs.declared.event.Event.{Event}
use Rattle.kq_model.specs.declared.line_fault.LineFault.{LineFault}
use Rattle.kq_model.specs.declared.reply.Reply.{Reply}
use Rattle.kq_model.specs.Hearing.{listed}
use Rattle.kq_model.specs.Objects as objects
use Rattle.kq_model.specs.Reading.{record_on}
use Rattle.kq_model.specs.Recast.{IsTalliedStep, tallied_system}
use Rattle.kq_model.specs.Report.{calls_in, events_in}
use Rattle.kq_model.specs.System.{System, step}
use Rattle.kq_system.specs.SystemState.{SystemState, system_of}
use Rattle.kq_step.specs.Stepping.{Standing, after_line, answer_line, answer_to, fault_line, next_step, read_next, replied_line, with_step}
use Rattle.kq_step.specs.Stood.{HasAnswered, HasReplied, IsAt, Stood}

-- the step of the code's system is that of the standing
stepped_at : (e : Event) (m : Standing) (old new : SystemState) (r : Reply)
    → ((s : System listed objects.listed) → system_of old ≡ tallied_system s → IsTalliedStep (system_of new) r (step (old.applied + 1) e s))
    → system_of old ≡ tallied_system m.system → old.applied ≡ m.records → IsTalliedStep (system_of new) r (next_step e m)
stepped_at e m old new r steps same place = subst (λ n. IsTalliedStep (system_of new) r (step (n + 1) e m.system)) place (steps m.system same)

pub replied : (e : Event) (old new : SystemState) (calls events more_calls more_events : ℕ) (r : Reply) (text : List ℕ)
    → ((s : System listed objects.listed) → system_of old ≡ tallied_system s → IsTalliedStep (system_of new) r (step (old.applied + 1) e s))
    → new.applied ≡ old.applied + 1 → more_calls ≡ calls_in r → more_events ≡ events_in r → text ≡ replied_line new.applied r
    → HasReplied e (record { system = old; calls = calls; events = events })
    (record { system = new; calls = calls + more_calls; events = events + more_events }) text
replied e old new calls events more_calls more_events r text steps next is_calls is_events is = record {
  at = λ m at.
      let t = stepped_at e m old new r steps at.system at.records in
      record {
        system = t.0;
        records = next ∙ ap (λ n. n + 1) at.records;
        calls = ap₂ (λ a b. a + b) at.calls (is_calls ∙ ap calls_in t.1);
        events = ap₂ (λ a b. a + b) at.events (is_events ∙ ap events_in t.1);
      };
  said = λ m at.
      let t = stepped_at e m old new r steps at.system at.records in
      is ∙ ap₂ replied_line (next ∙ ap (λ n. n + 1) at.records) t.1;
}

-- a record on a line
pub answered_record : (number : ℕ) (line text : List ℕ) (old new : Stood) (event : Event)
    → record_on (old.system.applied + 2) line ≡ Ok event → HasReplied event old new text → HasAnswered number line old new text
unfolding after_line answer_to answer_line
answered_record number line text old new event is has = record {
  at = λ m at.
      let same : read_next m line ≡ Ok event = ap (λ n. record_on (n + 2) line) (sym at.records) ∙ is in
      rw same (has.at m at);
  said = λ m at.
      let same : read_next m line ≡ Ok event = ap (λ n. record_on (n + 2) line) (sym at.records) ∙ is in
      rw same (has.said m at);
}

-- a line with a fault changes nothing
pub answered_fault : (number : ℕ) (line text : List ℕ) (old : Stood) (fault : LineFault)
    → record_on (old.system.applied + 2) line ≡ Err fault → text ≡ fault_line number fault → HasAnswered number line old old text
unfolding after_line answer_to answer_line
answered_fault number line text old fault is has = record {
  at = λ m at.
      let same : read_next m line ≡ Err fault = ap (λ n. record_on (n + 2) line) (sym at.records) ∙ is in
      rw same at;
  said = λ m at.
      let same : read_next m line ≡ Err fault = ap (λ n. record_on (n + 2) line) (sym at.records) ∙ is in
      rw same has;
}
