use Rattle.std.proofs.Common.{◌≡◌, ◌-◌, ◌++◌, arith, take}
use Rattle.std.proofs.lemmas.Grind.{common_steps}
use Rattle.kq_input.proofs.LineFeeds.{kept_with}
use Rattle.kq_input.proofs.lines.put.Goals as goal

pub returns-clause-put : goal.returns-clause-put
returns-clause-put c =
    let line = c.args.line.now.items in
    let piece = c.args.piece.now in
    let same : line ++ take c.min.result piece ≡ take 1048577 (line ++ piece) =
    rw c.min.ensures (kept_with 1048577 (1048577 - c.len-room.result) line piece (omega (arith, c.requires, c.len-room.ensures))) in
    grind (arith, common_steps, same)
