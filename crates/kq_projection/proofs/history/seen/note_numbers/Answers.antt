use Rattle.std.proofs.Common.{◌≡◌, ◌∙◌, ◌<◌, ◌≤◌, ◌&&◌, ◌++◌, ℕ, Bool, cond, leb, length, get_or, not, take, None, Option, refl, sym, ap, subst, arith}
use Rattle.std.specs.List.{flat_map}
use Rattle.std.proofs.lemmas.List.{take_more}
use Rattle.kq_model.specs.declared.object.Named.{Named}
use Rattle.kq_model.specs.Views.{Views}
use Rattle.kq_model.specs.World.{views_of}
use Rattle.kq_process.specs.World.{world_of}
use Rattle.kq_projection.specs.Keys.{pair_eq}
use Rattle.kq_projection.specs.Seen.{left_at}
use Rattle.kq_projection.specs.Timeline.{last_value, marked, value_at, IsUpTo}
use Rattle.kq_projection.specs.Timelines.{marks_at}
use Rattle.kq_projection.specs.Touched.{has_number, targets_left, AreAmong}
use Rattle.kq_projection.proofs.Following.{noted-more, settled, up_to-marked}
use Rattle.kq_projection.proofs.NamedTargets.{one-number-more}
use Rattle.kq_projection.proofs.NotedKeys.{any-more, same-number}
use Rattle.kq_projection.proofs.SameValues.{named_eq, same_named}
use Rattle.kq_projection.proofs.history.seen.note_numbers.Goals as goal

pub loop-number-preserved : goal.loop-number-preserved
unfolding views_of
loop-number-preserved c =
    let ns = c.args.numbers.now in
    let place = c.args.place in
    let i = c.loop-number.number-index in
    let below : i < length ns = omega arith in
    let p : ℕ × ℕ = get_or ns i (0, 0) in
    let here : Option Named = c.descriptor-named.result in
    let after : Views = views_of (world_of c.args.world.now) in
    let start = c.args.timelines.now.table in
    let old = c.loop-number.timelines.table in
    let new = c.note.new.self.table in
    let same : Bool = named_eq (last_value None (marks_at pair_eq old p)) here in
    let put : (other : ℕ × ℕ) → marks_at pair_eq new other
    ≡ marks_at pair_eq old other ++ marked (pair_eq p other && not same) place here = c.in_ok-had.ensures.noted in
    let up : IsUpTo place (marks_at pair_eq old p) = c.loop-number.invariant.up_to p in
    let up_here : place ≤ place = omega arith in
    let added : AreAmong (targets_left c.args.tells c.in_ok-had.had ++ c.loop-number.targets.items) c.add_left.new.targets.items = c.in_ok-add_left.ensures in
    record {
      up_to = λ key. subst (IsUpTo place) (sym (put key))
          (up_to-marked (pair_eq p key && not same) place here (marks_at pair_eq old key) (c.loop-number.invariant.up_to key));
      noted = λ pid number at.
          noted-more (pair_eq p (pid, number)) same (has_number pid number (take i ns)) place at here (after.descriptor pid number) None
          (value_at at None (marks_at pair_eq start (pid, number))) (marks_at pair_eq old (pid, number))
          (marks_at pair_eq new (pid, number)) (c.loop-number.invariant.up_to (pid, number)) (put (pid, number))
          (λ is kept. ap (last_value None) (sym (same-number (λ a b. marks_at pair_eq old (a, b)) p pid number (marks_at pair_eq old p) refl is))
          ∙ same_named (last_value None (marks_at pair_eq old p)) here kept)
          (c.loop-number.invariant.noted pid number at)
          (same-number after.descriptor p pid number here c.descriptor-named.ensures)
          ∙ ap (λ b. cond (b && leb place at) (after.descriptor pid number)
          (value_at at None (marks_at pair_eq start (pid, number)))) (sym (any-more (λ (x : ℕ × ℕ). pair_eq x (pid, number)) ns i (0, 0) below));
      named = subst (λ xs. AreAmong (flat_map (left_at start place c.args.tells) xs ++ c.args.targets.now.items) c.add_left.new.targets.items)
          (sym (take_more ns i (0, 0) below))
          (one-number-more (targets_left c.args.tells) (λ (q : ℕ × ℕ). value_at place None (marks_at pair_eq start q))
          (take i ns) p c.in_ok-had.had c.args.targets.now.items c.loop-number.targets.items c.add_left.new.targets.items
          c.loop-number.invariant.named added
          (λ fresh. c.in_ok-had.ensures.had ∙ sym (settled place place None (marks_at pair_eq old p) up up_here)
          ∙ c.loop-number.invariant.noted p.0 p.1 place
          ∙ ap (λ b. cond (b && leb place place) (after.descriptor p.0 p.1) (value_at place None (marks_at pair_eq start p))) fresh));
    }
