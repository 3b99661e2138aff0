use Rattle.std.proofs.Common.{◌≤◌, ◌++◌, ◌∷◌, [], ◌-◌, Some, is_some, ap, ◌∙◌, arith}
use Rattle.slab.specs.Slab.{slab_len}
use Rattle.kq_table.specs.Kept.{names_room}
use Rattle.kq_table.proofs.AttachLaws.{attached}
use Rattle.kq_table.proofs.NodeLaws.{get-updated}
use Rattle.kq_table.proofs.KeptLaws.{fits-one, IsSeen, seen, rows-seen, queue-seen}
use Rattle.kq_table.proofs.table.Table.attach.Given.{Over}
use Rattle.kq_table.proofs.table.Table.attach.Goals.{After-note_row}
use Rattle.kq_table.proofs.table.Table.attach.Goals as goal

pub make_room-requires-clause-keys : goal.make_room-requires-clause-keys
make_room-requires-clause-keys g c =
    let table = seen g.met.T.Key.Eq.laws g.met.T.Target.Eq.laws g.met.T.Keyed.one_key c.self.invariant c.self.view_is in
    let fits = fits-one table c.requires.room in
    let fit = table.kept.room.keys_fit in
    omega arith

pub make_room-requires-clause-targets : goal.make_room-requires-clause-targets
make_room-requires-clause-targets g c =
    let table = seen g.met.T.Key.Eq.laws g.met.T.Target.Eq.laws g.met.T.Keyed.one_key c.self.invariant c.self.view_is in
    let fits = fits-one table c.requires.room in
    let fit = table.kept.room.targets_fit in
    omega arith

pub next_birth-born-requires : goal.next_birth-born-requires
next_birth-born-requires g c =
    let table = seen g.met.T.Key.Eq.laws g.met.T.Target.Eq.laws g.met.T.Keyed.one_key c.self.invariant c.self.view_is in
    let fits = fits-one table c.requires.room in
    let len = c.make_room.ensures.same.len in
    omega arith

pub insert_reserved-slot-requires : goal.insert_reserved-slot-requires
insert_reserved-slot-requires g c =
    let table = seen g.met.T.Key.Eq.laws g.met.T.Target.Eq.laws g.met.T.Keyed.one_key c.self.invariant c.self.view_is in
    let fits = fits-one table c.requires.room in
    let len = c.next_birth-born.ensures.same.len ∙ c.make_room.ensures.same.len in
    let capacity = c.next_birth-born.ensures.same.capacity ∙ c.make_room.ensures.same.capacity in
    let fit = table.kept.room.nodes_fit in
    omega arith

pub link_last-requires : goal.link_last-requires
link_last-requires g c = ap is_some c.insert_reserved-slot.ensures.updates.changed

entered : (g : Over) (c : After-note_row g)
    → IsSeen g.T.Key.PartialEq.eq g.T.Target.PartialEq.eq g.T.Keyed.key_of g.T.Keyed.target_of c.enter.new.nodes c.enter.new.index c.enter.new.targets c.link_last.new.ends c.self.inside.queue c.self.inside.waiting
    c.self.inside.limit c.next_birth-born.new.births
    (record { rows = c.args.self.now.rows ++ c.args.row ∷ []; queue = c.args.self.now.queue; room = c.self.inside.limit - slab_len c.enter.new.nodes })
entered g c =
    let table = seen g.met.T.Key.Eq.laws g.met.T.Target.Eq.laws g.met.T.Keyed.one_key c.self.invariant c.self.view_is in
    let k = table.kept in
    let slot = c.insert_reserved-slot.result in
    let keys_room : names_room c.self.inside.index ≤ names_room c.enter.new.index = let ready = c.make_room.ensures.keys_room in let then = c.enter.ensures.keys_room in omega arith in
    let targets_room : names_room c.self.inside.targets ≤ names_room c.enter.new.targets = let ready = c.make_room.ensures.targets_room in let then = c.enter.ensures.targets_room in omega arith in
    attached table c.args.row c.requires.absent c.make_room.new.nodes c.next_birth-born.new.nodes c.insert_reserved-slot.new.self slot c.next_birth-born.result c.new.result c.new.ensures
    c.make_room.ensures.same c.next_birth-born.ensures.same c.next_birth-born.ensures.born c.insert_reserved-slot.ensures.was_vacant
    (get-updated c.next_birth-born.new.nodes c.insert_reserved-slot.new.self slot (Some c.new.result) c.insert_reserved-slot.ensures.updates)
    c.link_last.new.nodes c.link_last.new.ends c.link_last.ensures.links c.link_last.ensures.ends c.link_last.ensures.same c.make_room.new.index c.make_room.new.targets
    (c.make_room.ensures.entered k.slots k.ordered.linked k.ordered.distinct k.ordered.first k.room.counted k.entered)
    c.enter.new.nodes c.enter.new.index c.enter.new.targets c.enter.ensures.same c.enter.ensures.entered c.insert_reserved-slot.ensures.len c.insert_reserved-slot.ensures.capacity
    c.requires.room keys_room targets_room c.next_birth-born.new.births c.next_birth-born.ensures.next

pub invariant_of-self : goal.invariant_of-self
invariant_of-self g c = (entered g c).kept

pub returns-clause-rows : goal.returns-clause-rows
returns-clause-rows g c = rows-seen (entered g c)

pub returns-clause-queue : goal.returns-clause-queue
returns-clause-queue g c = queue-seen (entered g c)

pub returns-clause-room : goal.returns-clause-room
returns-clause-room g c =
    let room = c.requires.room in
    let room_is = ap (λ v. v.room) c.self.view_is in
    let len = c.enter.ensures.same.len in
    let placed = c.link_last.ensures.same.len in
    let held = c.insert_reserved-slot.ensures.len in
    let numbered = c.next_birth-born.ensures.same.len in
    let ready = c.make_room.ensures.same.len in
    omega arith
