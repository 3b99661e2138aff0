use Rattle.std.proofs.Common.{◌≡◌, ◌++◌, ℕ, Bool, List, sym, subst, rules}
use Rattle.std.specs.List.{flat_map}
use Rattle.std.proofs.lemmas.Result.{on_ok_weaker}
use Rattle.kq_model.specs.declared.object.Target.{Target}
use Rattle.kq_model.specs.Objects.{counted}
use Rattle.kq_model.specs.Views.{Views}
use Rattle.kq_model.specs.World as model
use Rattle.kq_model.specs.World.{views_of}
use Rattle.kq_process.specs.World.{world_of}
use Rattle.kq_projection.specs.Noted.{IsNextWorld}
use Rattle.kq_projection.specs.Seen.{seen_by, Shows}
use Rattle.kq_projection.specs.RecordSubjects.{opened_numbers, spoken_process}
use Rattle.kq_projection.specs.Touched.{left_of, open_numbers, other_targets, tells_file, touched_numbers, touched_targets}
use Rattle.kq_projection.proofs.NamedTargets.{all-touched, next-world-among}
use Rattle.kq_projection.proofs.history.tracking.note.Goals as goal

pub returns-clause-noted : goal.returns-clause-noted
returns-clause-noted c =
    let place = c.args.place in
    let e = c.args.event.now in
    let closed : List (ℕ × ℕ) = c.args.effect.now.closed in
    let hints = c.args.effect.now.hints in
    let after : Views = views_of (world_of c.args.world.now) in
    let numbers : List (ℕ × ℕ) = touched_numbers e closed (world_of c.args.world.now) in
    let targets : List Target = c.fill.new.self.targets.items in
    let old = c.args.seen.now in
    let new = c.note.new.self in
    let tells : c.tells_file-tells.result ≡ tells_file hints = search rules in
    on_ok_weaker c.note.result
    (λ (shows : (before : Views) (worlds next : ℕ → Views)
    → IsNextWorld place before after c.fill.new.self.numbers.items
    (flat_map (left_of c.tells_file-tells.result before) c.fill.new.self.numbers.items ++ targets) worlds next
    → Shows worlds (seen_by old) → Shows next (seen_by new))
    (before : model.World counted) (worlds next : ℕ → Views)
    (is : IsNextWorld place (views_of before) after numbers (touched_targets e closed hints (views_of before) after) worlds next).
    shows (views_of before) worlds next
    (subst (λ (ns : List (ℕ × ℕ)). IsNextWorld place (views_of before) after ns
    (flat_map (left_of c.tells_file-tells.result (views_of before)) ns ++ targets) worlds next) (sym c.in_ok-fill.ensures.numbers)
    (subst (λ (b : Bool). IsNextWorld place (views_of before) after numbers
    (flat_map (left_of b (views_of before)) numbers ++ targets) worlds next) (sym tells)
    (next-world-among place (views_of before) after numbers (touched_targets e closed hints (views_of before) after)
    (flat_map (left_of (tells_file hints) (views_of before)) numbers ++ targets) worlds next
    (all-touched (left_of (tells_file hints) (views_of before)) closed (opened_numbers e ++ open_numbers (spoken_process e) (world_of c.args.world.now))
    (other_targets e hints after) targets c.in_ok-fill.ensures.targets) is))))
    c.note.ensures.shows
