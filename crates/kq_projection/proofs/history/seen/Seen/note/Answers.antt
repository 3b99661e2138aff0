use Rattle.std.proofs.Common.{◌≡◌, ◌∙◌, ◌++◌, ◌==◌, ◌&&◌, ℕ, Bool, true, List, None, cond, leb, not, sym, subst, ap, arith}
use Rattle.std.specs.List.{flat_map}
use Rattle.std.proofs.lemmas.Bool.{eqb-true, le-ltb}
use Rattle.kq_model.specs.declared.object.Target.{Target}
use Rattle.kq_model.specs.Views.{Views}
use Rattle.kq_model.specs.World.{views_of}
use Rattle.kq_process.specs.World.{world_of}
use Rattle.kq_projection.specs.declared.history.seen.Seen.{Seen}
use Rattle.kq_projection.specs.Keys.{pair_eq}
use Rattle.kq_projection.specs.Noted.{IsNextWorld}
use Rattle.kq_projection.specs.Seen.{left_at, seen_by, Shows}
use Rattle.kq_projection.specs.Timeline.{last_value, marked, value_at, IsUpTo}
use Rattle.kq_projection.specs.Timelines.{marks_at}
use Rattle.kq_projection.specs.Touched.{has_number, left_of, targets_left, AreAmong}
use Rattle.kq_projection.proofs.Following.{shows-next, up_to-marked, value-noted}
use Rattle.kq_projection.proofs.NamedTargets.{flat-same, next-world-among}
use Rattle.kq_projection.proofs.history.seen.Seen.note.Goals as goal

pub returns-clause-up_to : goal.returns-clause-up_to
returns-clause-up_to c =
    let now = c.moment_of.result in
    let place = c.args.place in
    let old : Seen = c.args.self.now in
    let had : Bool = last_value 0 old.clock == now in
    let pushed : c.note.new.self ≡ old.clock ++ marked (not had) place now = c.in_ok-note.ensures.pushed in
    record {
      numbers = c.in_ok-note_numbers.ensures.up_to;
      views = c.in_ok-note_targets.ensures.up_to;
      clock = subst (IsUpTo place) (sym pushed) (up_to-marked (not had) place now old.clock c.requires.clock);
    }

pub returns-clause-shows : goal.returns-clause-shows
returns-clause-shows c =
    let now = c.moment_of.result in
    let place = c.args.place in
    let tells = c.args.tells in
    let after : Views = views_of (world_of c.args.world.now) in
    let numbers = c.args.touched.now.numbers.items in
    let slice = c.as_slice-numbers.result.now in
    let same : slice ≡ numbers = c.as_slice-numbers.ensures.value in
    let targets = c.as_slice.result.now in
    let old : Seen = c.args.self.now in
    let had : Bool = last_value 0 old.clock == now in
    let new : Seen = record { numbers = c.note_numbers.new.timelines; views = c.note_targets.new.timelines; clock = c.note.new.self } in
    let pushed : c.note.new.self ≡ old.clock ++ marked (not had) place now = c.in_ok-note.ensures.pushed in
    λ (before : Views) (worlds next : ℕ → Views).
    let ended : List Target = flat_map (left_of tells before) numbers in
    let among : List Target = ended ++ c.args.touched.now.targets.items in
    λ (is : IsNextWorld place before after numbers among worlds next) (shows : Shows worlds (seen_by old)).
    let names : (pid number : ℕ) → value_at place None (marks_at pair_eq old.numbers.table (pid, number)) ≡ before.descriptor pid number =
    λ pid number. shows.descriptor place pid number ∙ ap (λ (w : Views). w.descriptor pid number) (is.stood place (le-ltb place place (omega arith))) in
    let all : flat_map (left_at old.numbers.table place tells) slice ≡ ended =
    ap (flat_map (left_at old.numbers.table place tells)) same
    ∙ flat-same (left_at old.numbers.table place tells) (left_of tells before) numbers (λ pid number there. ap (targets_left tells) (names pid number)) in
    let there : AreAmong among targets =
    subst (λ (ts : List Target). AreAmong among ts) (sym c.as_slice.ensures.value)
    (subst (λ (ts : List Target). AreAmong (ts ++ c.args.touched.now.targets.items) c.note_numbers.new.targets.items) all
    c.in_ok-note_numbers.ensures.named) in
    shows-next place before after numbers targets worlds next (seen_by old) (seen_by new)
    (next-world-among place before after numbers among targets worlds next there is)
    c.moment_of.ensures.within shows
    (λ pid number at.
    c.in_ok-note_numbers.ensures.noted pid number at
    ∙ ap (λ ps. cond (has_number pid number ps && leb place at) (after.descriptor pid number)
    (value_at at None (marks_at pair_eq old.numbers.table (pid, number)))) same)
    c.in_ok-note_targets.ensures.noted
    (λ at. ap (value_at at 0) pushed
    ∙ value-noted true had place at 0 now old.clock c.requires.clock (λ _ kept. eqb-true (last_value 0 old.clock) now kept)
    ∙ ap (λ n. cond (leb place at) n (value_at at 0 old.clock)) c.moment_of.ensures.moment)
