-- One row more, if the reply has one.
use Rattle.std.proofs.Common.{◌≡◌, ◌∙◌, ◌++◌, ◌∷◌, [], ap, rules, subst, sym, List}
use Rattle.kq_model.specs.declared.reply.Reply.{Reply}
use Rattle.kq_model.specs.declared.row.Row.{Row}
use Rattle.kq_model.specs.System.{row_of}
use Rattle.kq_system.proofs.RowLemmas.{row_of-done, row_of-other}
use Rattle.kq_run.proofs.row_sink.VecRowRowSink.with_reply.Goals as goal

pub returns-in-Done : goal.returns-in-Done
returns-in-Done c =
    λ (rows : List Row) so. so ∙ subst (λ (r : Reply). rows ≡ rows ++ row_of c.args.at r) (sym c.in-Done.is) (row_of-done c.args.at rows)

pub returns-in_ok-push-in_default : goal.returns-in_ok-push-in_default
returns-in_ok-push-in_default c =
    let row : Row = record { at = c.args.at; reply = c.in_default.reply } in
    let pushed : c.push.new.self.items ≡ c.args.self.items ++ row ∷ [] = search rules in
    let other = row_of-other c.args.at c.args.reply c.in_default.not-Done
    ∙ ap (λ (r : Reply). let x : Row = record { at = c.args.at; reply = r } in x ∷ []) c.in_default.reply-is in
    λ (rows : List Row) so. pushed ∙ ap (λ l. l ++ row ∷ []) so ∙ ap (λ l. rows ++ l) (sym other)
