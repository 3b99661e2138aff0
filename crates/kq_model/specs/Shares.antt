-- Shares of the system, for threads that fold one trace together. A share goes over all records and keeps the whole
-- world, but of the kqueues only its own. A test says what is its own: the kqueue that was made at a place, or the rows
-- that have no kqueue, which are those of impossible records.
use Rattle.std.specs.Prelude.{◌≡◌, ◌⊎◌, ◌<◌, ◌==◌, ℕ, ◌+◌, Bool, true, List, [], ◌∷◌, ◌++◌, filter, Option, Some, None}
use Rattle.std.specs.Prelude.{if◌then◌else◌}
use Rattle.std.specs.List.{flat_map, range_with_len}
use Rattle.std.specs.List.Sorted.{IsPermutation}
use Rattle.kq_model.specs.declared.event.Event.{Event}
use Rattle.kq_model.specs.declared.reply.Reply.{Reply}
use Rattle.kq_model.specs.declared.reply.Reply.TheVariants as reply
use Rattle.kq_model.specs.declared.row.Row.{Row}
use Rattle.kq_model.specs.Hearing.{Hearing}
use Rattle.kq_model.specs.Objects.{Keeping}
use Rattle.kq_model.specs.OwnedRows.{OwnedRow, all_rows, Rise}
use Rattle.kq_model.specs.System.{Live, System, Stepped, step, row_of, rows_after}
use Rattle.kq_model.specs.World.{Planned, Impossible, Possible}

module _ {S A B C D : Type 0} {h : Hearing S} {k : Keeping A B C D} (own : Option ℕ → Bool) where
  -- a system without the kqueues of others
  unfoldable pub share : System h k → System h k
  share s = record s { live = filter (λ (l : Live h). own (Some l.place)) s.live }

  -- a step without the kqueue that it made for others, and without the reply that is theirs
  unfoldable pub own_step : Stepped h k → Stepped h k
  own_step t = record {
    system = share t.system;
    reply = if own t.kqueue then t.reply else reply.Done;
    kqueue = t.kqueue;
  }

  -- ---- one step of a share, and its fold

  unfoldable pub share_step : ℕ → Event → System h k → Stepped h k
  share_step place e s = own_step (step place e s)

  unfoldable pub share_after : ℕ → System h k → List Event → System h k
  share_after place s [] = s
  share_after place s (e ∷ es) = share_after (place + 1) (share_step place e s).system es

  unfoldable pub share_rows : ℕ → System h k → List Event → List Row
  share_rows place s [] = []
  share_rows place s (e ∷ es) =
      row_of place (share_step place e s).reply ++ share_rows (place + 1) (share_step place e s).system es

-- a reply, where those to impossible records are its own or not
unfoldable pub if_own : Bool → Reply → Reply
if_own mine (reply.Impossible why) = if mine then reply.Impossible why else reply.Done
if_own mine r = r

-- a kqueue that the record makes is its own
abbrev pub BearsOwn : (Option ℕ → Bool) → ℕ → Planned → Type 0
BearsOwn own place (Impossible why) = Unit {0}
BearsOwn own place (Possible p) = (p.born ≡ None) ⊎ (own (Some place) ≡ true)

-- those of a fold that are its own, in their order
abbrev pub own_rows : (Option ℕ → Bool) → List OwnedRow → List Row
own_rows own rows = all_rows (filter (λ (r : OwnedRow). own r.kqueue) rows)

-- ---- all shares of a system, by their numbers from 0 on

-- `deal` says to which share a kqueue goes, and to which the rows of none
abbrev pub dealt : (Option ℕ → ℕ) → ℕ → Option ℕ → Bool
dealt deal number who = deal who == number

-- there are so many shares
abbrev pub AreDealt : (Option ℕ → ℕ) → ℕ → Type 0
AreDealt deal shares = (who : Option ℕ) → deal who < shares

module _ {S A B C D : Type 0} {h : Hearing S} {k : Keeping A B C D} (deal : Option ℕ → ℕ) (shares : ℕ) where
  -- what the shares of a system give over these events, one behind the other
  abbrev pub rows_of_shares : ℕ → System h k → List Event → List Row
  rows_of_shares place s es =
      flat_map (λ number. share_rows (dealt deal number) place (share (dealt deal number) s) es)
      (range_with_len 0 shares)

  -- these are the rows of the whole system, each once, which stand by rising place
  abbrev pub AreShared : ℕ → System h k → List Event → Type 0
  AreShared place s es =
      IsPermutation (rows_of_shares place s es) (rows_after place s es) × Rise (rows_after place s es)
