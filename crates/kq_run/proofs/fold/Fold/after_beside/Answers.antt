-- What waited is written, and the new rows wait.
use Rattle.std.proofs.Common.{Vec, Global, ◌≡◌, ◌++◌, List, of_calls, rules}
use Rattle.kq_model.specs.declared.event.Event.{Event}
use Rattle.kq_model.specs.declared.row.Row.{Row}
use Rattle.kq_merge.specs.Written.{written}
use Rattle.kq_trace.proofs.TakenParts.{events_in}
use Rattle.kq_run.specs.declared.fold.Fold.{Fold}
use Rattle.kq_run.specs.Folding.{Answers}
use Rattle.kq_run.proofs.FoldLemmas.{goes_on_beside}
use Rattle.kq_run.proofs.fold.Fold.after_beside.Goals as goal

pub returns : goal.returns
returns g c =
    let events : List Event = events_in c.args.pieces.now in
    let text = c.in_ok-text.text in
    let system = c.in_ok-system.system in
    let waiting = c.in_ok-system.waiting in
    let new : Fold = record { system = system; text = text; waiting = waiting } in
    let lines : (before : List Row) → c.args.self.text ≡ written before → text ≡ written (before ++ c.args.self.waiting.items) =
    search (rules, of_calls) in
    let answers : Answers (λ (v : Vec Row Global) (rows : List Row). v.items ≡ rows) c.args.self.system.value c.new-rows.result system.value waiting events =
    search (rules, of_calls) in
    goes_on_beside c.args.self new events c.new-rows.result lines answers (search rules)
