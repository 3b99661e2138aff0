use Rattle.std.proofs.Common.{List, map, filter, is_some, ap, ◌∙◌, subst}
use Rattle.kq_table.specs.Births.{keys_born, AreBirthsOf}
use Rattle.kq_table.specs.Rows.{is_among}
use Rattle.kq_table.specs.Threads.{births_in, rows_in}
use Rattle.kq_table.proofs.KeptLaws.{indexed, seen}
use Rattle.kq_table.proofs.OrderLaws.{in_order}
use Rattle.kq_table.proofs.table.Table.put_in_order.Goals as goal

pub births_of-requires-clause-indexed : goal.births_of-requires-clause-indexed
births_of-requires-clause-indexed g c =
    indexed c.self.invariant

pub returns-clause-keys : goal.returns-clause-keys
returns-clause-keys g c =
    let table = seen g.met.T.Key.Eq.laws g.met.T.Target.Eq.laws g.met.T.Keyed.one_key c.self.invariant c.self.view_is in
    let same = g.T.Key.PartialEq.eq in
    let key_of = g.T.Keyed.key_of in
    let nodes = c.self.inside.nodes in
    let among = is_among same key_of c.args.keys.now.items in
    let list = c.births_of.new.places.items in
    let are = subst (λ (keys : List g.row.T-Key.Denot). AreBirthsOf same key_of (rows_in nodes) (births_in nodes) keys list) c.deref.ensures.value c.births_of.ensures.births in
    c.take_keys.ensures.keys ∙ ap (keys_born key_of (rows_in nodes)) c.deref-2.ensures.value
    ∙ in_order same key_of (rows_in nodes) (births_in nodes) among table.kept.slots 0 c.self.inside.births list table.kept.born c.births_of.ensures.rising
    (λ b there. let it = are.taken b there in (it.row, it.here, it.born, it.among, table.kept.whole b.slot (ap is_some it.here)))
    (λ s row born there here pass at. are.whole (record { born = born; slot = s }) (record { row = row; here = here; born = at; among = pass }))
    ∙ ap (λ (rows : List g.row.T.Denot). map key_of (filter among rows)) table.rows
