use Rattle.std.proofs.Common.{◌≡◌, ◌+◌, ◌||◌, List, [], take, take_all, eqb, refl, sym, ap, ◌∙◌, subst, rules, arith}
use Rattle.std.proofs.lemmas.Fn.{dedup_same}
use Rattle.std.proofs.lemmas.List.Folds.{list_any_more}
use Rattle.std.proofs.lemmas.List.Kept.{Contains-from_dedup}
use Rattle.std.proofs.lemmas.List.Sorted.{Contains-permutation, IsPermutation-sym, IsNonDecreasingBy-from_sort_by_key}
use Rattle.kq_table.specs.declared.numbered.Birth.{Birth}
use Rattle.kq_table.specs.Births.{AreBirthsOf}
use Rattle.kq_table.specs.Rows.{is_among}
use Rattle.kq_table.specs.Threads.{births_in, rows_in, birth_of}
use Rattle.kq_table.proofs.OrderLaws.{AreBirthsOf-none, AreBirthsOf-same, AreBirthsOf-missed, AreBirthsOf-found, kept-dedup, rising-dedup}
use Rattle.kq_table.proofs.order.births_of.Goals.{in_default, in-Some}
use Rattle.kq_table.proofs.order.births_of.Goals as goal

pub loop-key-init : goal.loop-key-init
loop-key-init g c =
    let same = g.T.Key.PartialEq.eq in
    let key_of = g.T.Keyed.key_of in
    let nodes = c.args.nodes.now in
    record {
      births = subst (λ (bs : List Birth). AreBirthsOf same key_of (rows_in nodes) (births_in nodes) [] bs) (sym c.clear.ensures.items) (AreBirthsOf-none same key_of (rows_in nodes) (births_in nodes));
      len = omega arith;
      capacity = refl;
    }

pub loop-key-preserved : goal.loop-key-preserved
loop-key-preserved g c =
    let same = g.T.Key.PartialEq.eq in
    let key_of = g.T.Keyed.key_of in
    let laws = g.met.T.Key.Eq.laws in
    let one = g.met.T.Keyed.one_key in
    let nodes = c.args.nodes.now in
    let keys = c.args.keys.now in
    let i = c.loop-key.key-index in
    let key = c.key-item.result in
    let list = c.loop-key.places.items in
    let more_is : (row : g.row.T.Denot) → is_among same key_of (take (i + 1) keys) row ≡ (is_among same key_of (take i keys) row || same (key_of row) key) =
    λ row. list_any_more (same (key_of row)) keys i key (omega arith)
    ∙ ap (λ (k : g.row.T-Key.Denot). is_among same key_of (take i keys) row || same (key_of row) k) (sym c.key-item.is) in
    elim c.match-sought.branch [
      | in_default w ↦ rw w.places-is (record {
        births = AreBirthsOf-missed same key_of (rows_in nodes) (births_in nodes) laws one c.args.index.now c.requires.indexed (take i keys) (take (i + 1) keys) key more_is list c.loop-key.invariant.births w.in_default.ensures;
        len = omega arith;
        capacity = c.loop-key.invariant.capacity;
      })
      | in-Some w ↦ rw w.places-is (record {
        births = subst (λ (bs : List Birth). AreBirthsOf same key_of (rows_in nodes) (births_in nodes) (take (i + 1) keys) bs) (sym w.push_reserved.ensures.items)
            (AreBirthsOf-found same key_of (rows_in nodes) (births_in nodes) laws one c.args.index.now c.requires.indexed (take i keys) (take (i + 1) keys) key more_is list c.loop-key.invariant.births
            w.in-Some.slot w.index.result.now.born w.in-Some.ensures.row w.in-Some.ensures.here (ap birth_of w.index.ensures) w.in-Some.ensures.is);
        len = omega arith;
        capacity = w.push_reserved.ensures.capacity ∙ c.loop-key.invariant.capacity;
      })
    ]

pub returns-clause-births : goal.returns-clause-births
returns-clause-births g c =
    let same = g.T.Key.PartialEq.eq in
    let key_of = g.T.Keyed.key_of in
    let nodes = c.args.nodes.now in
    let keys = c.args.keys.now in
    let kept = dedup_same _ (λ (p q : Birth). eqb p.born q.born) _ (λ x y b f' x' y' k. search rules) _ _ c.dedup_by_key.ensures.filtered in
    let moved = c.sort_unstable_by_key.ensures.permutation in
    AreBirthsOf-same same key_of (rows_in nodes) (births_in nodes) keys c.loop-key.places.items c.dedup_by_key.new.self.items
    (λ b there. Contains-permutation _ _ b (IsPermutation-sym _ _ moved) (Contains-from_dedup _ _ b (rw kept at there)))
    (λ b there. rw kept (kept-dedup _ b (Contains-permutation _ _ b moved there)))
    (subst (λ (ks : List g.row.T-Key.Denot). AreBirthsOf same key_of (rows_in nodes) (births_in nodes) ks c.loop-key.places.items) (take_all c.loop-key.key-index keys (omega arith)) c.loop-key.invariant.births)

pub returns-clause-rising : goal.returns-clause-rising
returns-clause-rising g c =
    let kept = dedup_same _ (λ (p q : Birth). eqb p.born q.born) _ (λ x y b f' x' y' k. search rules) _ _ c.dedup_by_key.ensures.filtered in
    rw kept (rising-dedup _ (IsNonDecreasingBy-from_sort_by_key (λ (b : Birth). b.born) _ c.sort_unstable_by_key.ensures.sorted (λ a r q k. search rules)))
