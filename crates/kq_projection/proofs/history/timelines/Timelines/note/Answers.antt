use Rattle.std.proofs.Common.{◌≡◌, ◌∙◌, ◌++◌, [], Bool, false, not, Option, Some, List, sym, ap, ap₂, subst, rules}
use Rattle.std.specs.HashMap.{get, Updates}
use Rattle.std.specs.Option.{IsSome}
use Rattle.std.proofs.lemmas.Result.{IfOk-weaker, on_ok_weaker}
use Rattle.kq_projection.specs.declared.history.timeline.Mark.{Mark}
use Rattle.kq_projection.specs.Timeline.{last_value, marked, IsUpTo}
use Rattle.kq_projection.specs.Timelines.{marks_at, or_none}
use Rattle.kq_projection.proofs.NotedMarks.{more-at}
use Rattle.kq_projection.proofs.history.timelines.Timelines.note.Goals as goal

pub note-requires : goal.note-requires
note-requires g c = subst (IsUpTo c.args.place) (ap or_none (sym c.in-Some.ensures.value)) (c.requires c.args.key)

pub returns-in-Some-clause-had : goal.returns-in-Some-clause-had
returns-in-Some-clause-had g c =
    let found : get g.K.PartialEq.eq c.args.self.now.table c.args.key ≡ Some c.in-Some.timeline.now = sym c.in-Some.ensures.value in
    IfOk-weaker c.note.result _ _ (λ had is. is ∙ ap (λ ms. last_value c.args.before ms) (sym (ap or_none found))) c.note.ensures.had

pub returns-in-Some-clause-noted : goal.returns-in-Some-clause-noted
returns-in-Some-clause-noted g c =
    let same = g.K.PartialEq.eq in
    let old = c.args.self.now.table in
    let key = c.args.key in
    let had = c.in-Some.timeline.now in
    let marks = c.note.new.self in
    let found : get same old key ≡ Some had = sym c.in-Some.ensures.value in
    let some : IsSome (get same old key) = subst (λ (o : Option (List (Mark g.row.V.Denot))). IsSome o) (sym found) (search rules) in
    let writes = c.get_mut.follows.holds marks in
    on_ok_weaker c.note.result
    (λ (pushed : marks ≡ had ++ marked (not (g.V.PartialEq.eq (last_value c.args.before had) c.args.value)) c.args.place c.args.value) (other : g.row.K.Denot).
    more-at same g.met.K.Eq.laws old (c.get_mut.follows.lender marks) key
    (not (g.V.PartialEq.eq (last_value c.args.before (marks_at same old key)) c.args.value)) c.args.place c.args.value marks
    (pushed ∙ ap (λ ms. ms ++ marked (not (g.V.PartialEq.eq (last_value c.args.before ms) c.args.value)) c.args.place c.args.value)
    (sym (ap or_none found)))
    (writes.3 some).0 other)
    c.note.ensures.pushed

pub returns-in_ok-insert-in-None-clause-noted : goal.returns-in_ok-insert-in-None-clause-noted
returns-in_ok-insert-in-None-clause-noted g c =
    let same = g.K.PartialEq.eq in
    let old = c.args.self.now.table in
    let key = c.args.key in
    let marks = c.in_ok-timeline-in-None.timeline in
    let none : marks_at same old key ≡ [] = ap or_none (sym c.in-None.ensures.value) in
    let apart : g.V.PartialEq.eq c.args.before c.args.value ≡ false = search rules in
    let updates : Updates same c.get_mut.follows.lender-at-none c.insert.new.self key (Some marks) = search rules in
    let put = not (g.V.PartialEq.eq (last_value c.args.before (marks_at same old key)) c.args.value) in
    more-at same g.met.K.Eq.laws old c.insert.new.self key put c.args.place c.args.value marks
    (c.in_ok-timeline-in-None.ensures
    ∙ sym (ap₂ (λ ms (b : Bool). ms ++ marked (not b) c.args.place c.args.value) none
    (ap (λ ms. g.V.PartialEq.eq (last_value c.args.before ms) c.args.value) none ∙ apart)))
    (subst (λ t. Updates same t c.insert.new.self key (Some marks)) c.get_mut.follows.holds-at-none updates).0
