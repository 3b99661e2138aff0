-- What contracts see of a book.
use Rattle.std.specs.Prelude.{◌≡◌, ℕ, ◌^◌, ◌<◌, List, length, map}
use Rattle.kq_lock.specs.declared.entry.Entry.{Entry}
use Rattle.kq_lock.specs.Merging.{IsMerge}
use Rattle.kq_serve.specs.Shares.{shares}
use Rattle.kq_model.specs.declared.event.Event.{Event}
use Rattle.kq_model.specs.declared.reply.Reply.{Reply}
use Rattle.kq_model.specs.Limits.{IsVersion}
use Rattle.kq_live.specs.Owners.{actor}
use Rattle.kq_live.specs.Replies.{replies}

-- the version of the format, the events and their replies
pub record Recorded : Type 0 where
  pub version : ℕ
  pub events : List Event
  pub replies : List Reply

-- the events replay, reply by reply, to the replies
abbrev pub IsReplayed : Recorded → Type 0
IsReplayed book = book.replies ≡ replies book.version book.events

abbrev pub events_in : List (Entry Event Reply) → List Event
events_in entries = map (λ (e : Entry Event Reply). e.step) entries

abbrev pub replies_in : List (Entry Event Reply) → List Reply
replies_in entries = map (λ (e : Entry Event Reply). e.answer) entries

abbrev pub recorded : ℕ → List (Entry Event Reply) → Recorded
recorded version entries = record { version = version; events = events_in entries; replies = replies_in entries }

-- The entries replay, in a version of the trace's format, and a trace can have as many events.
pub record IsBook (version : ℕ) (entries : List (Entry Event Reply)) : Type 0 where
  pub version_known : IsVersion version
  pub replays : IsReplayed (recorded version entries)
  pub countable : length entries < 2 ^ 31

-- The book of a run of these events by so many threads: a merge of the threads' shares, each whole and in its
-- order, and nothing else.
pub record IsRun (version threads : ℕ) (events : List Event) (book : Recorded) : Type 0 where
  pub version_is : book.version ≡ version
  pub merged : IsMerge (shares actor threads threads events) book.events
  pub replays : IsReplayed book
