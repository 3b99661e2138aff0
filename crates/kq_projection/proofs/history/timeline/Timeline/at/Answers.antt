use Rattle.std.proofs.Common.{◌≡◌, ◌-◌, ◌<◌, ◌≤◌, length, leb, get_or, sym, ap, subst, ◌∙◌, rules, arith}
use Rattle.std.specs.List.Sorted.{IsNonDecreasingBy}
use Rattle.std.proofs.lemmas.List.Sorted.{IsPartitionPoint-from_clause, IsPartitionedBy-leb}
use Rattle.kq_projection.specs.declared.history.timeline.Mark.{Mark}
use Rattle.kq_projection.specs.Timeline.{value_at}
use Rattle.kq_projection.proofs.TimelineLemmas.{value_before, value_from}
use Rattle.kq_projection.proofs.history.timeline.Timeline.at.Goals as goal

pub returns-then-count-eq0 : goal.returns-then-count-eq0
returns-then-count-eq0 g c =
    let marks = c.deref.result.now in
    let place = c.args.place in
    let count = c.partition_point-count.result in
    let rises = subst (IsNonDecreasingBy (λ (m : Mark g.row.V.Denot). m.place)) (sym c.deref.ensures.value) c.self.invariant in
    let parted = IsPartitionedBy-leb (λ (m : Mark g.row.V.Denot). m.place) marks place rises in
    let point = IsPartitionPoint-from_clause (λ (m : Mark g.row.V.Denot). leb m.place place) marks count c.partition_point-count.ensures.partitioned parted (λ a r q k. search rules) in
    let none : count ≡ 0 = search rules in
    let same : marks ≡ c.args.self.now = search rules in
    subst (λ ms. c.args.before ≡ value_at place c.args.before ms) same
    (sym (value_before place marks c.args.before (λ k d within. point.1 k d (omega (arith, none)) within)))

pub returns : goal.returns
returns g c =
    let marks = c.deref.result.now in
    let place = c.args.place in
    let count = c.partition_point-count.result in
    let found = c.index.result.now in
    let rises = subst (IsNonDecreasingBy (λ (m : Mark g.row.V.Denot). m.place)) (sym c.deref.ensures.value) c.self.invariant in
    let parted = IsPartitionedBy-leb (λ (m : Mark g.row.V.Denot). m.place) marks place rises in
    let point = IsPartitionPoint-from_clause (λ (m : Mark g.row.V.Denot). leb m.place place) marks count c.partition_point-count.ensures.partitioned parted (λ a r q k. search rules) in
    let bound : count ≤ length marks = c.partition_point-count.ensures.bound in
    let some : 0 < count = search rules in
    let same : marks ≡ c.args.self.now = search rules in
    let read : found ≡ get_or marks (count - 1) found = c.index.ensures ∙ ap (λ ms. get_or ms (count - 1) found) (sym c.deref.ensures.value) in
    subst (λ ms. found.value ≡ value_at place c.args.before ms) same
    (ap (λ (m : Mark g.row.V.Denot). m.value) read
    ∙ sym (value_from place marks (count - 1) c.args.before (omega (arith, bound, some))
    (λ k d up_to. point.0 k d (omega arith) (omega (arith, up_to, some)))
    (λ k d after within. point.1 k d (omega (arith, after, some)) within) found))
