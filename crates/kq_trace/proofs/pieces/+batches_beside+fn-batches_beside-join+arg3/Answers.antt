-- The last piece is read as the batch of its thread, and the others as those of the next level.
use denote.Ref.{Bor}
use Rattle.std.proofs.Common.{◌≡◌, ◌++◌, ◌∷◌, [], List, ℕ, rules, tests, of_calls, sym, subst, ap, ◌∙◌}
use Rattle.kq_trace.specs.declared.batches.Batch.{Batch}
use Rattle.kq_trace.specs.Batches.{AreReadAs, IsReadAs}
use Rattle.kq_trace.specs.Rest.{lines_behind, lines_in}
use Rattle.kq_trace.proofs.PieceLines.{piece_read, pieces_read-last}
use Rattle.std.proofs.lemmas.List.{nil_from_length}
use Rattle.kq_trace.proofs.pieces.+batches_beside+fn-batches_beside-join+arg3.Goals as goal

pub returns-then-is_empty : goal.returns-then-is_empty
returns-then-is_empty g t c =
    let last = c.in-Some.last.now in
    let all : c.args.pieces.now ≡ c.in-Some.others.now ++ last ∷ [] = search rules in
    let none : c.in-Some.others.now ≡ [] = nil_from_length c.in-Some.others.now (search (rules, tests)) in
    let pushed : c.push.new.self.items ≡ c.batch_in.result ∷ [] = search rules in
    subst (λ ps. AreReadAs (lines_in ps) c.push.new.self.items) (sym (all ∙ ap (λ l. l ++ last ∷ []) none))
    (subst (AreReadAs (lines_in (last ∷ []))) (sym pushed) (piece_read last c.batch_in.result c.batch_in.ensures))

pub returns : goal.returns
returns g t c =
    let last = c.in-Some.last.now in
    let others = c.in-Some.others.now in
    let batches = c.in_ok-batches.batches.items in
    let all : c.args.pieces.now ≡ others ++ last ∷ [] = search rules in
    let pushed : c.push-2.new.self.items ≡ batches ++ c.join-joined.result.first ∷ [] = search rules in
    let read : AreReadAs (lines_in others) batches = search (rules, of_calls) in
    let is : IsReadAs (lines_behind last.now) c.join-joined.result.first = search (rules, of_calls) in
    subst (λ ps. AreReadAs (lines_in ps) c.push-2.new.self.items) (sym all)
    (subst (AreReadAs (lines_in (others ++ last ∷ []))) (sym pushed) (pieces_read-last others batches last c.join-joined.result.first read is))
