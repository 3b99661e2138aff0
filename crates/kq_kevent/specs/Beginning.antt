-- A kevent call in two steps: its changes, and then, where these gave no answer, the retrieval. Between the two one
-- may look at the queue, and put it into another order.
use Rattle.std.specs.Prelude.{◌≡◌, ℕ, List, [], ◌∷◌, Option, Some, None}
use Rattle.kq_model.specs.declared.change.Change.{Change}
use Rattle.kq_model.specs.declared.kevent.Kevent.{Kevent}
use Rattle.kq_model.specs.declared.reply.Reply.{Reply}
use Rattle.kq_model.specs.declared.reply.Reply.TheVariants.{Events}
use Rattle.kq_model.specs.Call.{Called, call, process, returned}
use Rattle.kq_model.specs.Caller.{Caller}
use Rattle.kq_model.specs.Hearing.{Hearing, listed}
use Rattle.kq_model.specs.Tallying.{tallying}
use Rattle.kq_model.specs.Kqueue.{Kqueue}
use Rattle.kq_model.specs.Recast.{tallied}
use Rattle.kq_model.specs.Retrieval.{retrieval}
use Rattle.kq_model.specs.Views.{Views}

pub record Begun {S : Type 0} (h : Hearing S) : Type 0 where
  pub kq : Kqueue h
  -- the answer of the call; none where it goes on to read events
  pub answer : Option Reply

-- entries that were placed are the answer
unfoldable pub answer_of_entries : List Kevent → Option Reply
answer_of_entries [] = None
answer_of_entries (entry ∷ entries) = Some (Events (entry ∷ entries))

-- a change ended the call with an answer, or all went through
unfoldable pub answer_after : List Kevent → Option Reply → Option Reply
answer_after placed (Some reply) = Some reply
answer_after placed None = answer_of_entries placed

module _ {S : Type 0} {h : Hearing S} where
  -- the changes of a call, and its answer where it reads no events
  unfoldable pub begun : Caller → ℕ → List Change → Kqueue h → Begun h
  begun caller room changes kq = record {
    kq = (process caller room changes [] kq).kq;
    answer = answer_after (process caller room changes [] kq).placed (process caller room changes [] kq).answer;
  }

  -- the retrieval alone
  unfoldable pub read : Views → ℕ → Kqueue h → Called h
  read views room kq = returned (retrieval views room kq)

  -- what becomes of a call that began so, where nothing comes between
  unfoldable pub gone_on : Views → ℕ → Begun h → Option Reply → Called h
  gone_on views room b (Some reply) = record { kq = b.kq; reply = reply }
  gone_on views room b None = read views room b.kq

  -- beginning a call, and then reading where that gave no answer, is the call
  abbrev pub IsCallInSteps : Caller → ℕ → List Change → Kqueue h → Type 0
  IsCallInSteps caller room changes kq =
      gone_on caller.views room (begun caller room changes kq) (begun caller room changes kq).answer
      ≡ call caller room changes kq

-- the beginning of a call, in tallies, is this one
abbrev pub IsTalliedBeginning : Kqueue tallying → Option Reply → Begun listed → Type 0
IsTalliedBeginning kq answer b = (kq ≡ tallied b.kq) × (answer ≡ b.answer)
