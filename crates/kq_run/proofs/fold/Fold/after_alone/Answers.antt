-- What waited is written, and then each row at once.
use Rattle.std.proofs.Common.{rules}
use Rattle.kq_trace.proofs.TakenParts.{events_in}
use Rattle.kq_run.specs.declared.fold.Fold.{Fold}
use Rattle.kq_run.proofs.FoldLemmas.{goes_on_alone}
use Rattle.kq_run.proofs.fold.Fold.after_alone.Goals as goal

pub returns : goal.returns
returns c =
    let text = c.in_ok-text.text in
    let new : Fold = record { system = c.in_ok-system.system; text = c.in_ok-system.text; waiting = c.new.result } in
    goes_on_alone c.args.self new (events_in c.args.pieces.now) text
    c.in_ok-text.ensures c.in_ok-system.ensures (search rules)
