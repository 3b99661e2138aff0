-- What the answers to a trace come to: a fold over its records, which ends at the first answer that no order gives, or
-- the first record that could not be, unless these are permitted. An answer that no order gives is not known to be
-- wrong where an earlier call of the kqueue has no answer and left its order open.
use Rattle.std.specs.Prelude.{◌≡◌, ◌⊎◌, ◌+◌, ℕ, Bool, true, false, List, [], ◌∷◌}
use Rattle.std.specs.Prelude.{Option, Some, None}
use Rattle.kq_answers.specs.declared.answer.Answer.{Answer}
use Rattle.kq_judge.specs.declared.member.Ignored.{Ignored}
use Rattle.kq_model.specs.declared.event.Event.{Event}
use Rattle.kq_model.specs.System.{empty_system}
use Rattle.kq_model.specs.Tallied.{System}
use Rattle.kq_check.specs.declared.verdict.Verdict.{Verdict}
use Rattle.kq_check.specs.declared.verdict.Verdict.TheVariants as verdict
use Rattle.kq_check.specs.declared.judging.Next.{Next}
use Rattle.kq_check.specs.declared.judging.Next.TheVariants.{On, Over}
use Rattle.kq_check.specs.declared.outcome.Outcome.{Outcome}
use Rattle.kq_check.specs.declared.outcome.Outcome.TheVariants.{Equal, Allowed, Refused, Unknown, Impossible}
use Rattle.kq_check.specs.LeftOpen.{is_open, kqueue_of, open_with, opened}
use Rattle.kq_check.specs.Replies.{behind_place, given_at}
use Rattle.kq_check.specs.Stepped.{IsStepped}

-- all was right: the first place at which the order was another one, if there is one
abbrev pub ended : Option ℕ → Outcome
ended None = Equal
ended (Some first) = Allowed first

-- the first place at which the order was another one, once there is one
abbrev pub first_at : ℕ → Option ℕ → Option ℕ
first_at place None = Some place
first_at place (Some first) = Some first

-- the run goes on behind this verdict, and this is then the first place at which the order was another one
abbrev pub GoesOn : Bool → ℕ → Verdict → Option ℕ → Option ℕ → Type 0
GoesOn permits place verdict.Equal first later = later ≡ first
GoesOn permits place verdict.Allowed first later = later ≡ first_at place first
GoesOn permits place verdict.Refused first later = ⊥
GoesOn permits place (verdict.Impossible why) first later = (permits ≡ true) × (later ≡ first)

-- what is said of an answer that no order gives, by whether the order of its kqueue was open
abbrev pub refused : Bool → ℕ → Outcome
refused true place = Unknown place
refused false place = Refused place

-- it ends there
abbrev pub EndsAt : Bool → Bool → ℕ → Verdict → Outcome → Type 0
EndsAt permits unsure place verdict.Equal o = ⊥
EndsAt permits unsure place verdict.Allowed o = ⊥
EndsAt permits unsure place verdict.Refused o = o ≡ refused unsure place
EndsAt permits unsure place (verdict.Impossible why) o = (permits ≡ false) × (o ≡ Impossible place why)

-- the outcome of the records from a place on, where the order of these kqueues is open
abbrev pub IsJudgedFrom : List Ignored → Bool → ℕ → System → List Event → List Answer → Option ℕ → List ℕ
    → Outcome → Type 0
IsJudgedFrom ignored permits place s [] answers first unsure o = o ≡ ended first
IsJudgedFrom ignored permits place s (e ∷ es) answers first unsure o =
    (v : Verdict) × (next : System) × IsStepped ignored place e (given_at place answers) s v next
    × (EndsAt permits (is_open (kqueue_of e s) unsure) place v o
    ⊎ ((later : Option ℕ) × GoesOn permits place v first later
    × IsJudgedFrom ignored permits (place + 1) next es (behind_place place answers) later
    (open_with (opened place e (given_at place answers) s) unsure) o))

-- the outcome of a trace of this version
abbrev pub IsJudged : List Ignored → Bool → ℕ → List Event → List Answer → Outcome → Type 0
IsJudged ignored permits version events answers o =
    IsJudgedFrom ignored permits 1 (empty_system version) events answers None [] o

-- what is known behind a verdict
abbrev pub IsNext : Bool → Bool → ℕ → Verdict → Option ℕ → Next → Type 0
IsNext permits unsure place v first (On later) = GoesOn permits place v first later
IsNext permits unsure place v first (Over o) = EndsAt permits unsure place v o
