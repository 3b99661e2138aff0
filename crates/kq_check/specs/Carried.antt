-- The run before a place: each record carried out, a call by its answer. Where an order of the queue gives the answer,
-- events are read in that order; else in the order of the queue as it stands.
use Rattle.std.specs.Prelude.{◌≡◌, ◌⊎◌, ℕ, ◌+◌, ◌-◌, List, [], ◌∷◌, take, Option, Some, None, nat_lt, slice_get}
use Rattle.std.specs.Prelude.{if◌then◌else◌}
use Rattle.kq_answers.specs.declared.answer.Answer.{Answer}
use Rattle.kq_answers.specs.declared.answer.Given.{Given}
use Rattle.kq_judge.specs.declared.member.Ignored.{Ignored}
use Rattle.kq_model.specs.declared.change.Change.{Change}
use Rattle.kq_model.specs.declared.event.Event.{Event}
use Rattle.kq_model.specs.declared.event.Event.TheVariants.{Kevent as KeventRecord}
use Rattle.kq_model.specs.declared.reply.Reply.{Reply}
use Rattle.kq_model.specs.System.{empty_system, step}
use Rattle.kq_model.specs.Tallied.{System}
use Rattle.kq_system.specs.Beginning.{begun}
use Rattle.kq_check.specs.declared.verdict.Verdict.{Verdict}
use Rattle.kq_check.specs.Replies.{behind_place, given_at}
use Rattle.kq_check.specs.Stepped.{IsArranged, system_read}

-- the record at a place; places count from 1
abbrev pub record_at : ℕ → List Event → Option Event
record_at at events = if nat_lt 0 at then slice_get events (at - 1) else None

-- it is no call
abbrev pub IsNoCall : Event → Type 0
IsNoCall e = (pid fd : ℕ) (changes : List Change) (room : ℕ) → e ≡ KeventRecord pid fd changes room → ⊥

-- a call reads its events, from the system that its changes left
abbrev pub IsReadOn : List Ignored → ℕ → ℕ → ℕ → ℕ → Option Given → System → Reply → System → Type 0
IsReadOn ignored place pid fd room given s reply next =
    (v : Verdict) × (arranged : System) × IsArranged ignored pid fd room given s v arranged
    × (reply ≡ (step place (KeventRecord pid fd [] room) arranged).reply)
    × (next ≡ system_read place pid fd room arranged)

-- a call that began, by its reply, if it has one already
abbrev pub IsGoneOn : List Ignored → ℕ → ℕ → ℕ → ℕ → Option Given → Option Reply → System → System → Type 0
IsGoneOn ignored place pid fd room given (Some reply) s next = next ≡ s
IsGoneOn ignored place pid fd room given None s next =
    (reply : Reply) × IsReadOn ignored place pid fd room given s reply next

abbrev pub IsCallCarried : List Ignored → ℕ → ℕ → ℕ → List Change → ℕ → Option Given → System → System → Type 0
IsCallCarried ignored place pid fd changes room given s next =
    IsGoneOn ignored place pid fd room given (begun place (KeventRecord pid fd changes room) s).answer
    (begun place (KeventRecord pid fd changes room) s).system next

-- the record at a place, with its answer, takes the system to the next one
abbrev pub IsCarried : List Ignored → ℕ → Event → Option Given → System → System → Type 0
IsCarried ignored place e given s next =
    ((pid : ℕ) × (fd : ℕ) × (changes : List Change) × (room : ℕ) × (e ≡ KeventRecord pid fd changes room)
    × IsCallCarried ignored place pid fd changes room given s next)
    ⊎ (IsNoCall e × (next ≡ (step place e s).system))

-- these records do, of which the first stands at this place; what answers are left then
abbrev pub AreCarried : List Ignored → ℕ → System → List Event → List Answer → System → List Answer → Type 0
AreCarried ignored place s [] answers next rest = (next ≡ s) × (rest ≡ answers)
AreCarried ignored place s (e ∷ es) answers next rest =
    (mid : System) × IsCarried ignored place e (given_at place answers) s mid
    × AreCarried ignored (place + 1) mid es (behind_place place answers) next rest

-- the system once all records before a place were carried out, and the answers from there on
abbrev pub IsRunBefore : List Ignored → ℕ → List Event → List Answer → ℕ → System → List Answer → Type 0
IsRunBefore ignored version events answers at next rest =
    AreCarried ignored 1 (empty_system version) (take (at - 1) events) answers next rest
