-- What one record and its answer come to. A call whose answer is the one of the queue's order goes on in that order;
-- where another order gives the answer, the kevents of the answer come first, and then the call reads events.
use Rattle.std.specs.Prelude.{◌≡◌, ℕ, List, [], ◌∷◌, map, Option, Some, None}
use Rattle.kq_answers.specs.declared.answer.Given.{Given}
use Rattle.kq_answers.specs.declared.answer.Given.TheVariants as given
use Rattle.kq_judge.specs.declared.member.Ignored.{Ignored}
use Rattle.kq_judge.specs.Allowed.{IsAllowed}
use Rattle.kq_judge.specs.Same.{AreSame}
use Rattle.kq_model.specs.declared.event.Event.{Event}
use Rattle.kq_model.specs.declared.event.Event.TheVariants.{Kevent as KeventRecord}
use Rattle.kq_model.specs.declared.kevent.Kevent.{Kevent}
use Rattle.kq_model.specs.declared.reply.Reply.{Reply}
use Rattle.kq_model.specs.CallLaws.{key_of_event}
use Rattle.kq_model.specs.Retrieval.{retrieval}
use Rattle.kq_model.specs.System.{step}
use Rattle.kq_model.specs.Tallied.{Live, System}
use Rattle.kq_model.specs.World.{views_of}
use Rattle.kq_system.specs.Beginning.{arranged_in, begun, live_named}
use Rattle.kq_check.specs.declared.verdict.Verdict.{Verdict}
use Rattle.kq_check.specs.declared.verdict.Verdict.TheVariants.{Equal, Allowed, Refused, Impossible}
use Rattle.kq_check.specs.Replies.{IsVerdictOf}

-- what is there, as a list
abbrev pub listed : {X : Type 0} → Option X → List X
listed None = []
listed (Some x) = x ∷ []

-- the system once a call has read its events, in the order in which they stand
abbrev pub system_read : ℕ → ℕ → ℕ → ℕ → System → System
system_read place pid fd room s = (step place (KeventRecord pid fd [] room) s).system

-- these events are those that the order of the queue gives, but for what is not compared
abbrev pub IsInOrder : List Ignored → ℕ → Live → System → List Kevent → Type 0
IsInOrder ignored room live s own = AreSame ignored (retrieval (views_of s.world) room live.kq).events own

-- some order gives them
abbrev pub IsInSome : List Ignored → ℕ → Live → System → List Kevent → Type 0
IsInSome ignored room live s own = IsAllowed ignored (views_of s.world) room live.kq own

-- the order of the queue gives these events, another one does, or none
abbrev pub IsOrderOf : List Ignored → ℕ → List Kevent → Live → System → Verdict → Type 0
IsOrderOf ignored room own live s Equal = IsInOrder ignored room live s own
IsOrderOf ignored room own live s Allowed =
    (IsInOrder ignored room live s own → ⊥) × IsInSome ignored room live s own
IsOrderOf ignored room own live s Refused = IsInSome ignored room live s own → ⊥
IsOrderOf ignored room own live s (Impossible why) = ⊥

-- a number that names no kqueue has none; behind a call that began it names one
abbrev pub IsOrder : List Ignored → ℕ → List Kevent → Option Live → System → Verdict → Type 0
IsOrder ignored room own None s v = v ≡ Refused
IsOrder ignored room own (Some live) s v = IsOrderOf ignored room own live s v

-- another order is taken
abbrev pub arranged_by : ℕ → ℕ → List Kevent → Verdict → System → System
arranged_by pid fd own Allowed s = arranged_in pid fd (map key_of_event own) s
arranged_by pid fd own _ s = s

-- the order in which events are read that are answered by these
abbrev pub IsArrangedOf : List Ignored → ℕ → ℕ → ℕ → List Kevent → Option Live → System → Verdict
    → System → Type 0
IsArrangedOf ignored pid fd room own live s v next =
    IsOrder ignored room own live s v × (next ≡ arranged_by pid fd own v s)

-- the same by the answer, if there is one
abbrev pub IsArranged : List Ignored → ℕ → ℕ → ℕ → Option Given → System → Verdict → System
    → Type 0
IsArranged ignored pid fd room None s v next = (v ≡ Equal) × (next ≡ s)
IsArranged ignored pid fd room (Some (given.Events own)) s v next =
    IsArrangedOf ignored pid fd room own (live_named pid fd s) s v next
IsArranged ignored pid fd room (Some (given.Failed number)) s v next = (v ≡ Refused) × (next ≡ s)
IsArranged ignored pid fd room (Some (given.Impossible why)) s v next = (v ≡ Refused) × (next ≡ s)

-- events are read where the answer is not refused
abbrev pub IsReadBy : Verdict → ℕ → ℕ → ℕ → ℕ → System → System → Type 0
IsReadBy Refused place pid fd room s next = Unit {0}
IsReadBy _ place pid fd room s next = next ≡ system_read place pid fd room s

-- a call that reads events, from the system that its changes left to the next one
abbrev pub IsRead : List Ignored → ℕ → ℕ → ℕ → ℕ → Option Given → System → Verdict → System
    → Type 0
IsRead ignored place pid fd room given s v next =
    (arranged : System) × IsArranged ignored pid fd room given s v arranged
    × IsReadBy v place pid fd room arranged next

-- a call that began, by its reply, if it has one already
abbrev pub IsCalled : List Ignored → ℕ → ℕ → ℕ → ℕ → Option Given → Option Reply → System
    → Verdict → System → Type 0
IsCalled ignored place pid fd room given (Some reply) s v next = IsVerdictOf reply given v × (next ≡ s)
IsCalled ignored place pid fd room given None s v next = IsRead ignored place pid fd room given s v next

-- The record at a place, with its answer, comes to this verdict, and the system to the next one. Behind an answer that
-- is refused nothing is said of it.
abbrev pub IsStepped : List Ignored → ℕ → Event → Option Given → System → Verdict → System → Type 0
IsStepped ignored place (KeventRecord pid fd changes room) given s v next =
    IsCalled ignored place pid fd room given (begun place (KeventRecord pid fd changes room) s).answer
    (begun place (KeventRecord pid fd changes room) s).system v next
IsStepped ignored place e given s v next =
    IsVerdictOf (step place e s).reply given v × (next ≡ (step place e s).system)
