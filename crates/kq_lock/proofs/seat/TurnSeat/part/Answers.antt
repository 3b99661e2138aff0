use Rattle.std.proofs.Common.{rules}
use Rattle.kq_lock.proofs.Parting.{splits}
use Rattle.kq_lock.proofs.Resting.{first_rests, second_rests}
use Rattle.kq_lock.proofs.Seating.{seated_halves}
use Rattle.kq_lock.proofs.seat.TurnSeat.part.Goals as goal

pub split_seat-token-requires : goal.split_seat-token-requires
split_seat-token-requires g c = (search rules, search rules, splits _ _ _ _ _ c.self.invariant.0)

pub invariant_of-self : goal.invariant_of-self
invariant_of-self g c = first_rests c.self.inside.token.me c.split_seat-token.new.seat.me
    c.self.inside.seen_len c.split_seat-token.ensures.2 c.self.invariant

pub invariant_of-result : goal.invariant_of-result
invariant_of-result g c = second_rests c.self.inside.token.me c.split_seat-token.result.me
    c.self.inside.seen_len c.split_seat-token.ensures.4 c.self.invariant

pub returns-clause-halves : goal.returns-clause-halves
returns-clause-halves g c =
    seated_halves c.self.inside.token.table_id c.self.inside.token.me.0 c.args.self.now _ _
    c.self.view_is c.self.invariant.3.small (search rules) (search rules)
