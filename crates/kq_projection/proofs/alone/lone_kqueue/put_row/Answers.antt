use Rattle.std.proofs.Common.{◌≡◌, ◌∙◌, ◌++◌, ◌∷◌, [], ℕ, List, refl, rules, sym, ap, subst, OnOk}
use Rattle.std.proofs.lemmas.List.{append-nil}
use Rattle.std.proofs.lemmas.Result.{on_ok_weaker}
use Rattle.kq_model.specs.declared.reply.Reply.{Reply}
use Rattle.kq_model.specs.declared.reply.Reply.TheVariants as reply
use Rattle.kq_model.specs.declared.row.Row.{Row}
use Rattle.kq_model.specs.System.{row_of}
use Rattle.kq_projection.proofs.alone.lone_kqueue.put_row.Goals as goal

row_of-done : (at : ℕ) (old : List Row) → old ≡ old ++ row_of at reply.Done
unfolding row_of
row_of-done at old = sym (append-nil old)

row_of-other : (at : ℕ) (r : Reply) → (r ≡ reply.Done → ⊥) → row_of at r ≡ record { at = at; reply = r } ∷ []
unfolding row_of
row_of-other at reply.Done other = absurd (other refl)
row_of-other at (reply.Events events) other = refl
row_of-other at (reply.Failed e) other = refl
row_of-other at (reply.Impossible why) other = refl

pub returns-in-Done : goal.returns-in-Done
returns-in-Done c =
    let old = c.args.rows.now.items in
    subst (λ (r : Reply). old ≡ old ++ row_of c.args.at r) (sym c.in-Done.is) (row_of-done c.args.at old)

pub returns-in_default : goal.returns-in_default
returns-in_default c =
    let old = c.args.rows.now.items in
    let row : Row = record { at = c.args.at; reply = c.in_default.reply } in
    let pushed : OnOk c.map_err.result (c.push.new.self.items ≡ old ++ row ∷ []) = search rules in
    let other = row_of-other c.args.at c.args.reply c.in_default.not-Done
    ∙ ap (λ (r : Reply). let x : Row = record { at = c.args.at; reply = r } in x ∷ []) c.in_default.reply-is in
    on_ok_weaker c.map_err.result (λ is. is ∙ ap (λ l. old ++ l) (sym other)) pushed
