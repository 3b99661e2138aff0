-- The next batch goes behind those so far.
use Rattle.std.proofs.Common.{rules, tests, ◌≡◌, ◌++◌, ◌∷◌, [], ◌≤◌, ◌-◌, length, sym, ap, subst, ◌∙◌, arith, length-append}
use Rattle.kq_trace.specs.declared.batches.Batch.TheVariants as batch
use Rattle.kq_trace.specs.Batches.{AreReadAs}
use Rattle.kq_trace.proofs.PieceLines.{IsGathered, all_gathered, none_gathered, one_gathered}
use Rattle.kq_trace.proofs.pieces.gathered.Goals as goal

pub batches-init : goal.batches-init
batches-init c = record {
  read = λ lines read. none_gathered lines _ c.from-ahead.result.items (search rules) (subst (AreReadAs lines) (sym c.from-ahead.ensures.0) read);
  few = search (rules, arith);
}

pub batches-preserved : goal.batches-preserved
batches-preserved c =
    let ahead : c.batches.ahead.items ≡ batch.Records c.in-Records.piece ∷ c.pop_front.new.self.items =
    c.in-Some.ensures.items ∙ ap (λ b. b ∷ c.pop_front.new.self.items) c.in-Records.is in
    let added : c.push.new.self ≡ c.batches.part ++ c.in-Records.piece.items = search rules in
    record {
      read = λ lines read.
          one_gathered lines c.batches.part c.push.new.self c.in-Records.piece c.pop_front.new.self.items
          (subst (IsGathered lines c.batches.part) ahead (c.batches.invariant.read lines read)) added;
      few =
          let fits : length c.in-Records.piece.items ≤ c.args.most - length c.batches.part = search (rules, tests) in
          omega (arith, fits, c.batches.invariant.few, ap length added, length-append c.batches.part c.in-Records.piece.items);
    }

pub returns-clause-read : goal.returns-clause-read
returns-clause-read c = λ lines read.
    let none : c.batches.ahead.items ≡ [] = search rules in
    all_gathered lines c.batches.part c.batches.ahead.items none (c.batches.invariant.read lines read)
