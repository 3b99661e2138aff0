-- All lines are records, and no more of them than there may be.
use Rattle.std.proofs.Common.{◌≤◌, ◌-◌, length, IfSome, subst, arith}
use Rattle.kq_trace.specs.Batches.{AreRecordsAnywhere}
use Rattle.kq_trace.specs.Rest.{lines_behind}
use Rattle.kq_trace.proofs.BlockRecords.{whole_from}
use Rattle.kq_trace.proofs.block_part.part_of.Goals as goal

pub returns-in-Some-clause-part : goal.returns-in-Some-clause-part
returns-in-Some-clause-part g c =
    let lines = lines_behind c.args.block.now in
    let part = c.in-Some.part in
    let good : AreRecordsAnywhere lines part =
    subst (λ o. IfSome o (AreRecordsAnywhere lines)) c.in-Some.is c.in_ok-part.ensures.read in
    let few : length part ≤ 1000002 - c.args.number =
    subst (λ o. IfSome o (λ events. length events ≤ 1000002 - c.args.number)) c.in-Some.is c.in_ok-part.ensures.few in
    whole_from c.args.number lines part good (omega (arith, few, c.requires.number))
