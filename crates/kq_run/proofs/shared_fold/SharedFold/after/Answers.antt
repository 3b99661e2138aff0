-- What waited is written, and the new rows wait.
use Rattle.std.proofs.Common.{Global, Box, ◌≡◌, ◌+◌, ◌++◌, ℕ, List, length, map, ap, of_calls, rules}
use Rattle.kq_model.specs.declared.event.Event.{Event}
use Rattle.kq_model.specs.declared.row.Row.{Row}
use Rattle.kq_model.specs.System.{rows_after, system_after}
use Rattle.kq_model.specs.Tallied.{System}
use Rattle.kq_merge.specs.Written.{written}
use Rattle.kq_shares.specs.Going.{events_in}
use Rattle.kq_shares.specs.Whole.{AreRowsOf, AreSharesOf}
use Rattle.kq_run.specs.declared.shared_fold.SharedFold.{SharedFold}
use Rattle.kq_run.proofs.SharedLemmas.{shared-more, states_in}
use Rattle.kq_run.proofs.shared_fold.SharedFold.after.Goals as goal

pub returns : goal.returns
returns g c =
    let old = c.args.self in
    let after = c.in_ok-after.after in
    let es = events_in c.args.pieces.now in
    let new : SharedFold = record { shares = after.shares; records = old.records + c.count.result; text = c.in_ok-text.text; waiting = after.lists } in
    let lines : (before rows : List Row) → old.text ≡ written before → AreRowsOf old.waiting.items rows → new.text ≡ written (before ++ rows) =
    search (rules, of_calls) in
    let goes : (applied : ℕ) (s : System) → AreSharesOf applied s (states_in old)
    → AreSharesOf (applied + length es) (system_after (applied + 1) s es) (states_in new) = search (rules, of_calls) in
    let gives : (applied : ℕ) (s : System) → AreSharesOf applied s (states_in old) → AreRowsOf new.waiting.items (rows_after (applied + 1) s es) =
    search (rules, of_calls) in
    λ (version : ℕ) (before : List Event) is. shared-more version old new before es is (ap (λ n. old.records + n) c.count.ensures) lines goes gives
