-- What contracts see of the code's system and counts, and where they stand.
use Rattle.std.specs.Prelude.{◌≡◌, ◌+◌, ℕ, List}
use Rattle.kq_model.specs.declared.event.Event.{Event}
use Rattle.kq_model.specs.Recast.{tallied_system}
use Rattle.kq_system.specs.SystemState.{SystemState, system_of}
use Rattle.kq_step.specs.Stepping.{Standing, after_line, answer_line, answer_to, next_step, read_next, replied_line}
use Rattle.kq_step.specs.Stepping.{with_step}

pub record Stood : Type 0 where
  pub system : SystemState
  pub calls : ℕ
  pub events : ℕ

-- they stand for these; the code's system keeps counts and unions of what was recorded and heard
pub record IsAt (m : Standing) (s : Stood) : Type 0 where
  pub system : system_of s.system ≡ tallied_system m.system
  pub records : s.system.applied ≡ m.records
  pub calls : s.calls ≡ m.calls
  pub events : s.events ≡ m.events

-- the record was carried out, and this is the line of its reply
pub record HasReplied (e : Event) (old new : Stood) (text : List ℕ) : Type 0 where
  pub at : (m : Standing) → IsAt m old → IsAt (with_step (next_step e m) m) new
  pub said : (m : Standing) → IsAt m old → text ≡ replied_line (m.records + 1) (next_step e m).reply

-- the line of this number was carried out, and this is the line of its answer
pub record HasAnswered (number : ℕ) (line : List ℕ) (old new : Stood) (text : List ℕ) : Type 0 where
  pub at : (m : Standing) → IsAt m old → IsAt (after_line (read_next m line) m) new
  pub said : (m : Standing) → IsAt m old → text ≡ answer_line (answer_to number (read_next m line) m)
