-- Another judge: behind each answer that some order of the queue gives he goes on from any such order. Where each call
-- has its answer he comes to one verdict, whichever orders he takes.
use Rattle.std.specs.Prelude.{◌≡◌, ◌⊎◌, ◌+◌, ℕ, Bool, true, false, List, [], ◌∷◌, Option, Some, None}
use Rattle.std.specs.List.Sorted.{IsPermutation}
use Rattle.std.specs.Option.{is_some}
use Rattle.kq_answers.specs.declared.answer.Answer.{Answer}
use Rattle.kq_answers.specs.declared.answer.Given.{Given}
use Rattle.kq_answers.specs.declared.answer.Given.TheVariants as given
use Rattle.kq_judge.specs.declared.member.Ignored.{Ignored}
use Rattle.kq_judge.specs.Same.{AreSame}
use Rattle.kq_model.specs.declared.event.Event.{Event}
use Rattle.kq_model.specs.declared.event.Event.TheVariants.{Kevent as KeventRecord}
use Rattle.kq_model.specs.declared.kevent.Kevent.{Kevent}
use Rattle.kq_model.specs.declared.key.Key.{Key}
use Rattle.kq_model.specs.declared.reply.Reply.{Reply}
use Rattle.kq_model.specs.Retrieval.{retrieval}
use Rattle.kq_model.specs.System.{empty_system, step}
use Rattle.kq_model.specs.Tallied.{Live, System}
use Rattle.kq_model.specs.World.{views_of}
use Rattle.kq_system.specs.Beginning.{begun, live_named, place_named, with_live_at}
use Rattle.kq_check.specs.declared.outcome.Outcome.{Outcome}
use Rattle.kq_check.specs.declared.outcome.Outcome.TheVariants.{Equal, Allowed, Refused, Unknown, Impossible}
use Rattle.kq_check.specs.declared.verdict.Verdict.{Verdict}
use Rattle.kq_check.specs.declared.verdict.Verdict.TheVariants as verdict
use Rattle.kq_check.specs.Judged.{EndsAt, GoesOn}
use Rattle.kq_check.specs.Placed.{is_call}
use Rattle.kq_check.specs.Replies.{IsVerdictOf, behind_place, given_at}
use Rattle.kq_check.specs.Stepped.{IsInSome, system_read}

-- the queue of the kqueue that was made at a place, in this order
abbrev pub ordered_at : Option ℕ → List Key → List Live → List Live
ordered_at None order live = live
ordered_at (Some place) order live = with_live_at place (λ l. record l.kq { queue = order }) live

-- of that which a number names
abbrev pub ordered_in : ℕ → ℕ → List Key → System → System
ordered_in pid fd order s = record s { live = ordered_at (place_named pid fd s) order s.live }

-- this order of the queue gives these events, but for what is not compared, and they are read in it
pub record IsReadIn (ignored : List Ignored) (place pid fd room : ℕ) (own : List Kevent) (l : Live) (s next : System)
    : Type 0 where
  pub order : List Key
  pub permutes : IsPermutation l.kq.queue order
  pub same : AreSame ignored (retrieval (views_of s.world) room (record l.kq { queue = order })).events own
  pub next_is : next ≡ system_read place pid fd room (ordered_in pid fd order s)

-- some order gives them, or none
abbrev pub IsReadOr : List Ignored → ℕ → ℕ → ℕ → ℕ → List Kevent → Live → System → Verdict → System → Type 0
IsReadOr ignored place pid fd room own l s verdict.Equal next = IsReadIn ignored place pid fd room own l s next
IsReadOr ignored place pid fd room own l s verdict.Allowed next = ⊥
IsReadOr ignored place pid fd room own l s verdict.Refused next = IsInSome ignored room l s own → ⊥
IsReadOr ignored place pid fd room own l s (verdict.Impossible why) next = ⊥

abbrev pub IsReadOn : List Ignored → ℕ → ℕ → ℕ → ℕ → List Kevent → Option Live → System → Verdict → System → Type 0
IsReadOn ignored place pid fd room own None s v next = v ≡ verdict.Refused
IsReadOn ignored place pid fd room own (Some l) s v next = IsReadOr ignored place pid fd room own l s v next

-- a call that reads events, by its answer, which it has
abbrev pub IsReadAs : List Ignored → ℕ → ℕ → ℕ → ℕ → Option Given → System → Verdict → System → Type 0
IsReadAs ignored place pid fd room None s v next = ⊥
IsReadAs ignored place pid fd room (Some (given.Events own)) s v next =
    IsReadOn ignored place pid fd room own (live_named pid fd s) s v next
IsReadAs ignored place pid fd room (Some (given.Failed number)) s v next = v ≡ verdict.Refused
IsReadAs ignored place pid fd room (Some (given.Impossible why)) s v next = v ≡ verdict.Refused

-- a call that began, by its reply, if it has one already
abbrev pub IsCallTaken : List Ignored → ℕ → ℕ → ℕ → ℕ → Option Given → Option Reply → System → Verdict → System
    → Type 0
IsCallTaken ignored place pid fd room given (Some reply) s v next = IsVerdictOf reply given v × (next ≡ s)
IsCallTaken ignored place pid fd room given None s v next = IsReadAs ignored place pid fd room given s v next

-- The record at a place, with its answer, comes to this verdict, and the system to the next one. Behind an answer that
-- is refused nothing is said of it.
abbrev pub IsTaken : List Ignored → ℕ → Event → Option Given → System → Verdict → System → Type 0
IsTaken ignored place (KeventRecord pid fd changes room) given s v next =
    IsCallTaken ignored place pid fd room given (begun place (KeventRecord pid fd changes room) s).answer
    (begun place (KeventRecord pid fd changes room) s).system v next
IsTaken ignored place e given s v next = IsVerdictOf (step place e s).reply given v × (next ≡ (step place e s).system)

-- he comes to this outcome, which knows of no order
abbrev pub IsJudgedInAnyFrom : List Ignored → Bool → ℕ → System → List Event → List Answer → Outcome → Type 0
IsJudgedInAnyFrom ignored permits place s [] answers o = o ≡ Equal
IsJudgedInAnyFrom ignored permits place s (e ∷ es) answers o =
    (v : Verdict) × (next : System) × IsTaken ignored place e (given_at place answers) s v next
    × (EndsAt permits false place v o
    ⊎ (GoesOn permits place v None None
    × IsJudgedInAnyFrom ignored permits (place + 1) next es (behind_place place answers) o))

-- of a trace of this version
abbrev pub IsJudgedInAnyOrder : List Ignored → Bool → ℕ → List Event → List Answer → Outcome → Type 0
IsJudgedInAnyOrder ignored permits version events answers o =
    IsJudgedInAnyFrom ignored permits 1 (empty_system version) events answers o

-- the outcome without the place at which the order was another one
abbrev pub without_order : Outcome → Outcome
without_order Equal = Equal
without_order (Allowed first) = Equal
without_order (Refused at) = Refused at
without_order (Unknown at) = Unknown at
without_order (Impossible at why) = Impossible at why

-- each call has its answer
abbrev pub AreAnswered : ℕ → List Event → List Answer → Type 0
AreAnswered place [] answers = Unit {0}
AreAnswered place (e ∷ es) answers =
    (is_call e ≡ true → is_some (given_at place answers) ≡ true)
    × AreAnswered (place + 1) es (behind_place place answers)

-- He comes to this outcome where each call has its answer; and whichever orders he takes, to no other.
pub record IsOutcomeInAnyOrder (ignored : List Ignored) (permits : Bool) (version : ℕ) (events : List Event)
    (answers : List Answer) (o : Outcome) : Type 0 where
  pub some : AreAnswered 1 events answers
      → IsJudgedInAnyOrder ignored permits version events answers (without_order o)
  pub no_other : (other : Outcome) → IsJudgedInAnyOrder ignored permits version events answers other
      → other ≡ without_order o
