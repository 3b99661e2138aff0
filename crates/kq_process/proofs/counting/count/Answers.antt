use Rattle.std.proofs.Common.{◌≡◌, ◌∙◌, ℕ, Option, sym, rules}
use Rattle.std.specs.Prelude.{count_by}
use Rattle.std.proofs.lemmas.List.Sums.{length-filter}
use Rattle.std.specs.Option.{is_some}
use Rattle.kq_model.specs.declared.object.Named.{Named}
use Rattle.kq_process.proofs.CountedSteps.{count-full}
use Rattle.kq_process.proofs.counting.count.Goals as goal

pub returns : goal.returns
returns c =
    let full : c.count.result ≡ count_by (λ (s : ℕ × Option Named). is_some s.1) c.args.slots.now = search rules in
    full ∙ sym (length-filter (λ (s : ℕ × Option Named). is_some s.1) c.args.slots.now) ∙ count-full c.args.slots.now
