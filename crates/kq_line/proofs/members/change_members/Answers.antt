-- A member at a time.
use Rattle.std.proofs.Common.{refl, arith}
use Rattle.kq_line.proofs.Parts.{parts_begin, parts_end, parts_more, parts_next}
use Rattle.kq_line.proofs.members.change_members.Goals as goal

pub members-init : goal.members-init
members-init c = record { so_far = parts_begin 1 c.args.text.now c.clear.new.self c.clear.ensures.members; shorter = omega arith }

pub members-preserved : goal.members-preserved
members-preserved c =
    let more =
    parts_more 1 c.args.text.now c.members.rest.now c.in_ok-name.value.now c.in_ok-piece.behind_value.now c.members.change c.members.change
    (record { members = c.push.new.self; changes = c.members.change.changes; has_changes = c.members.change.has_changes })
    (record { name = c.in_ok-name.name; piece = c.in_ok-piece.piece }) c.has.result c.members.invariant.so_far
    c.in_ok-name.ensures.cut c.in_ok-name.ensures.name (let p = c.in_ok-piece.ensures.value in (p.0, p.1, λ changes can. p.2 changes))
    (λ ms shows. shows) c.has.ensures.found c.if-has.false c.push.ensures.items refl refl in
    let gap = c.without_blank-rest.ensures.cut in
    record {
      so_far = parts_next 1 c.args.text.now c.in_ok-piece.behind_value.now c.without_blank-rest.result.now gap.0 c.in_ok-behind.field-0.now
          (record { members = c.push.new.self; changes = c.members.change.changes; has_changes = c.members.change.has_changes })
          more gap.1 c.in_ok-behind.ensures.cut gap.2;
      shorter = omega (
        arith,
        c.members.invariant.shorter,
        c.in_ok-name.ensures.shorter,
        c.in_ok-piece.ensures.shorter,
        c.in_ok-behind.ensures.shorter,
        c.without_blank-rest.ensures.shorter,
      );
    }

pub returns-in-Some-clause-value : goal.returns-in-Some-clause-value
returns-in-Some-clause-value c =
    let more =
    parts_more 1 c.args.text.now c.members.rest.now c.in_ok-name.value.now c.in_ok-piece.behind_value.now c.members.change c.members.change
    (record { members = c.push.new.self; changes = c.members.change.changes; has_changes = c.members.change.has_changes })
    (record { name = c.in_ok-name.name; piece = c.in_ok-piece.piece }) c.has.result c.members.invariant.so_far
    c.in_ok-name.ensures.cut c.in_ok-name.ensures.name (let p = c.in_ok-piece.ensures.value in (p.0, p.1, λ changes can. p.2 changes))
    (λ ms shows. shows) c.has.ensures.found c.if-has.false c.push.ensures.items refl refl in
    parts_end 1 c.args.text.now c.in_ok-piece.behind_value.now c.in-Some.tail.now
    (record { members = c.push.new.self; changes = c.members.change.changes; has_changes = c.members.change.has_changes })
    more c.in-Some.ensures.cut
