use Rattle.std.proofs.Common.{rules, ◌≡◌, ◌==◌, ℕ, List, not, ap, subst}
use Rattle.std.specs.List.{filter}
use Rattle.std.proofs.lemmas.Fn.{filter_same}
use Rattle.kq_model.specs.declared.doing.FileRecord.TheVariants as file
use Rattle.kq_model.specs.Files.{FileState, file_after}
use Rattle.kq_objects.specs.Kept.{FileKept}
use Rattle.kq_objects.proofs.file.File.leave.Goals as goal

pub returns-clause-state : goal.returns-clause-state
unfolding file_after
returns-clause-state c =
    let kept : c.retain.new.self.items ≡ filter (λ (p : ℕ). not (p == c.args.description)) c.self.inside.descriptions.items =
    filter_same _ (λ (p : ℕ). not (p == c.args.description)) _ (λ x b f' k. search rules) _ _ c.retain.ensures.filtered in
    let with_list : List ℕ → FileState = λ xs. record { size = c.self.inside.size; deleted = c.self.inside.deleted; descriptions = xs } in
    let IsLeft : FileKept → Type 0 = λ old. with_list c.retain.new.self.items ≡ file_after (file.Left c.args.description) old.state in
    subst IsLeft c.self.view_is (ap with_list kept)
