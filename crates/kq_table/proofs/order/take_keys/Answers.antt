use Rattle.std.proofs.Common.{◌≡◌, ◌+◌, ◌++◌, ◌∷◌, [], List, take, take_all, get_or, append-nil, refl, sym, ap, ◌∙◌, arith}
use Rattle.std.proofs.lemmas.List.{take_more}
use Rattle.kq_table.specs.declared.numbered.Birth.{Birth}
use Rattle.kq_table.specs.Births.{before_keys, keys_born}
use Rattle.kq_table.specs.Threads.{rows_in}
use Rattle.kq_table.proofs.OrderLaws.{keys_born-push, key-missed, key-found}
use Rattle.kq_table.proofs.order.take_keys.Goals.{in_default, in-Some}
use Rattle.kq_table.proofs.order.take_keys.Goals as goal

pub loop-place-init : goal.loop-place-init
loop-place-init g c = record {
  keys = c.clear.ensures.items;
  len = omega arith;
  capacity = refl;
}

pub loop-place-preserved : goal.loop-place-preserved
loop-place-preserved g c =
    let key_of = g.T.Keyed.key_of in
    let rows = rows_in c.args.nodes.now in
    let places = c.args.places.now in
    let i = c.loop-place.place-index in
    let none : Birth = record { born = 0; slot = 0 } in
    let place = get_or places i none in
    let more : keys_born key_of rows (take (i + 1) places) ≡ keys_born key_of rows (take i places) ++ before_keys key_of (rows place.slot) [] =
    ap (keys_born key_of rows) (take_more places i none (omega arith)) ∙ keys_born-push key_of rows (take i places) place in
    let had = keys_born key_of rows (take i places) in
    elim c.match-key_at.branch [
      | in_default w ↦ rw w.keys-is (record {
        keys = c.loop-place.invariant.keys
            ∙ sym (more ∙ ap (λ (ks : List g.row.T-Key.Denot). had ++ ks) (key-missed key_of (rows place.slot) w.in_default.ensures) ∙ append-nil had);
        len = omega arith;
        capacity = c.loop-place.invariant.capacity;
      })
      | in-Some w ↦ rw w.keys-is (record {
        keys = w.push_reserved.ensures.items
            ∙ ap (λ (ks : List g.row.T-Key.Denot). ks ++ w.in-Some.key ∷ []) c.loop-place.invariant.keys
            ∙ sym (more ∙ ap (λ (ks : List g.row.T-Key.Denot). had ++ ks) (key-found key_of (rows place.slot) w.in-Some.key w.in-Some.ensures));
        len = omega arith;
        capacity = w.push_reserved.ensures.capacity ∙ c.loop-place.invariant.capacity;
      })
    ]

pub returns-clause-keys : goal.returns-clause-keys
returns-clause-keys g c =
    c.loop-place.invariant.keys
    ∙ ap (keys_born g.T.Keyed.key_of (rows_in c.args.nodes.now)) (take_all c.loop-place.place-index c.args.places.now (omega arith))
