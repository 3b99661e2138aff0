-- What the calls of the lock tell of a live system.
use Rattle.std.proofs.Common.{◌≡◌, ℕ, ◌+◌, ◌-◌, ◌^◌, ◌<◌, ◌≤◌, Some, List, [], ◌∷◌, ◌++◌, length, map, sum_by, set, refl, sym, ap, ap₂, ◌∙◌, subst, arith}
use Rattle.std.proofs.Math.ListN.{length-map}
use mathlib.Core.Option.{some}
use lib.ListN.{get_elem?}
use Rattle.kq_lock.specs.declared.entry.Entry.{Entry}
use Rattle.kq_lock.specs.Calls.{Leads, calls_by, entry_of, plain}
use Rattle.kq_lock.specs.Merging.{IsMerge}
use Rattle.kq_lock.specs.Seats.{Called, Ends, LockName}
use Rattle.kq_lock.proofs.Beginnings.{sum_set}
use Rattle.kq_serve.specs.Shares.{Serves, shares}
use Rattle.kq_serve.proofs.Sharing.{total_all}
use Rattle.kq_model.specs.declared.event.Event.{Event}
use Rattle.kq_model.specs.declared.reply.Reply.{Reply}
use Rattle.kq_model.specs.Limits.{IsVersion}
use Rattle.kq_live.specs.declared.machine.LiveMachine.{LiveMachine}
use Rattle.kq_live.specs.LiveSteps.{IsEmpty}
use Rattle.kq_live.specs.Lives.{IsCalled, IsWhole, LiveCall, LiveName, LiveSeated, OpensEmpty, Replays, events_of, replies_of}
use Rattle.kq_live.specs.Owners.{actor}
use Rattle.kq_live.specs.Recorded.{IsBook, IsReplayed, IsRun, events_in, recorded, replies_in}
use Rattle.kq_live.specs.Replies.{replies}
use Rattle.kq_live.proofs.Replaying.{legal_replays, next_step}

-- ---- the opening

pub opened_empty : (lock : LockName LiveMachine) (machine : LiveMachine) (version last : ℕ)
    → lock.opening ≡ Some machine → lock.last ≡ last → IsEmpty version machine → IsVersion version
    → last ≤ 2 ^ 31 - 1 → OpensEmpty lock version
opened_empty lock machine version last opened most empty known few =
    (machine, opened, empty, known, subst (λ (n : ℕ). n ≤ 2 ^ 31 - 1) (sym most) few)

-- ---- one call

pub is_called : (lock : LockName LiveMachine) (version : ℕ) (v w : LiveSeated) (event : Event) (at : ℕ) (reply : Reply)
    (seen_len : ℕ) → OpensEmpty lock version → v.lock ≡ lock → Called next_step v w event at reply seen_len
    → IsCalled version v w event at reply seen_len
is_called lock version v w event at reply seen_len opens same h =
    let legal = h.grows.legal in
    let opened : Some opens.0 ≡ Some legal.0 =
    sym opens.1 ∙ (sym (ap (λ (l : LockName LiveMachine). l.opening) same) ∙ legal.2) in
    let begun : opens.0 ≡ legal.0 = cc in
    let empty = subst (λ (o : LiveMachine). IsEmpty version o) begun opens.2 in
    let number : w.number ≡ v.number = ap (λ (z : LiveSeated). z.number) h.same in record {
      same = h.same;
      begins = h.grows.begins;
      replays = legal_replays version legal.0 legal.1 w.seen legal.3 empty;
      ends = h.grows.ends;
      own = ap (λ (n : ℕ). calls_by n w.seen) number ∙ h.grows.own;
      place = h.place;
      shorter = h.shorter;
    }

-- ---- the whole history

plain_events : (log : List LiveCall) → events_in (plain log) ≡ events_of log
plain_events [] = refl
plain_events (c ∷ cs) = ap (λ (es : List Event). c.step ∷ es) (plain_events cs)

plain_replies : (log : List LiveCall) → replies_in (plain log) ≡ replies_of log
plain_replies [] = refl
plain_replies (c ∷ cs) = ap (λ (rs : List Reply). c.answer ∷ rs) (plain_replies cs)

book_replays : (version : ℕ) (log : List LiveCall) (history : List (Entry Event Reply)) → history ≡ plain log
    → Replays version log → IsReplayed (recorded version history)
book_replays version log history is h =
    ap replies_in is ∙ (plain_replies log ∙ (h
    ∙ ap (replies version) (sym (ap events_in is ∙ plain_events log))))

pub ended_book : (lock : LockName LiveMachine) (version : ℕ) (v : LiveSeated) (value : LiveMachine)
    (history : List (Entry Event Reply)) → OpensEmpty lock version → Ends next_step lock v value history
    → IsBook version history
ended_book lock version v value history opens end =
    let legal = end.legal in
    let opened : Some opens.0 ≡ Some legal.0 = sym opens.1 ∙ legal.1 in
    let begun : opens.0 ≡ legal.0 = cc in
    let empty = subst (λ (o : LiveMachine). IsEmpty version o) begun opens.2 in
    let short = end.short in let last = opens.4 in
    let long : length history ≡ length end.log = ap length end.is ∙ length-map end.log entry_of in record {
      version_known = opens.3;
      replays = book_replays version end.log history end.is
          (legal_replays version legal.0 value end.log legal.2 empty);
      countable = omega arith;
    }

pub ended_whole : (live : LiveName) (v : LiveSeated) (value : LiveMachine) (history : List (Entry Event Reply))
    → Ends next_step live.lock v value history → IsWhole live v (recorded live.version history)
ended_whole live v value history end = record {
  log = end.log;
  version = refl;
  events = ap events_in end.is ∙ plain_events end.log;
  replies = ap replies_in end.is ∙ plain_replies end.log;
  seen = end.seen;
  short = end.short;
  own = end.own;
}

-- ---- a run by many threads

merge_length : {X : Type 0} (ls : List (List X)) (xs : List X) → IsMerge ls xs → length xs ≡ sum_by length ls
merge_length ls [] h = sym h
merge_length ls (x ∷ xs) h =
    let rest = merge_length (set ls h.0 h.1) xs h.3 in
    let less = sum_set length ls h.0 (x ∷ h.1) h.1 h.2 in omega arith

pub run_book : (version threads : ℕ) (events : List Event) (o value : LiveMachine) (history : List (Entry Event Reply))
    → IsVersion version → 1 ≤ threads → length events < 2 ^ 31 → IsEmpty version o
    → Serves next_step o value (shares actor threads threads events) history → IsBook version history
run_book version threads events o value history known there few empty h =
    let long = merge_length (shares actor threads threads events) (events_in history) h.merged in
    let all = total_all actor threads events there in
    let same : length (events_in history) ≡ length history = length-map history (λ (e : Entry Event Reply). e.step) in
    record {
      version_known = known;
      replays = book_replays version h.log history h.is (legal_replays version o value h.log h.legal empty);
      countable = omega arith;
    }

pub run_is : (version threads : ℕ) (events : List Event) (o value : LiveMachine) (history : List (Entry Event Reply))
    → IsEmpty version o → Serves next_step o value (shares actor threads threads events) history
    → IsRun version threads events (recorded version history)
run_is version threads events o value history empty h = record {
  version_is = refl;
  merged = h.merged;
  replays = book_replays version h.log history h.is (legal_replays version o value h.log h.legal empty);
}
