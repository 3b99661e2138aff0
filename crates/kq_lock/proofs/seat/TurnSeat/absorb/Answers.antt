use Rattle.std.proofs.Common.{rules, ℕ, sym, subst, ◌∙◌}
use Rattle.kq_lock.proofs.Parting.{joins}
use Rattle.kq_lock.proofs.Allowed.{may_settle}
use Rattle.kq_lock.proofs.Resting.{Rests, joined_stage, settled, joined_rests}
use Rattle.kq_lock.proofs.Seating.{joined_same, joined_begins, joined_learned, joined_own, joined_theirs}
use Rattle.kq_lock.proofs.seat.TurnSeat.absorb.Goals as goal

pub join_seat-requires : goal.join_seat-requires
join_seat-requires g c = (
  search rules,
  search rules,
  search rules,
  search rules,
  joins _ _ _ _ _ _ _ c.self.invariant.0 c.other.invariant.0,
)

pub load-self-inside-requires : goal.load-self-inside-requires
load-self-inside-requires g c =
    let me = c.self.inside.token.me in
    let other = c.other.inside.token.me.0 in
    let stage = joined_stage me c.join_seat.new.seat.me other c.join_seat.ensures.2 in (
      search rules,
      search rules,
      may_settle _ _ _ _ _ _ (search rules) me.0.seen other.seen other.number other.stride stage,
    )

pub invariant_of-self : goal.invariant_of-self
invariant_of-self g c =
    let me = c.self.inside.token.me in
    let other = c.other.inside.token.me.0 in
    let after = c.load-self-inside.new.seat.me in
    let all = settled me c.join_seat.new.seat.me after other c.join_seat.ensures.2
    c.load-self-inside.ensures.2 in
    subst (λ (n : ℕ). Rests after n) (sym c.max-self-inside.ensures)
    (joined_rests me after other c.self.inside.seen_len c.other.inside.seen_len all
    c.self.invariant c.other.invariant.2)

pub returns-clause-same : goal.returns-clause-same
returns-clause-same g c =
    let me = c.self.inside.token.me in
    let other = c.other.inside.token.me.0 in
    let after = c.load-self-inside.new.seat.me in
    let all = settled me c.join_seat.new.seat.me after other c.join_seat.ensures.2
    c.load-self-inside.ensures.2 in
    joined_same c.self.inside.token.table_id c.load-self-inside.new.seat.table_id
    c.other.inside.token.table_id me after other c.args.self.now c.args.other
    (c.load-self-inside.ensures.0 ∙ c.join_seat.ensures.0) all c.self.view_is c.other.view_is

pub returns-clause-begins : goal.returns-clause-begins
returns-clause-begins g c =
    let me = c.self.inside.token.me in
    let other = c.other.inside.token.me.0 in
    let after = c.load-self-inside.new.seat.me in
    let all = settled me c.join_seat.new.seat.me after other c.join_seat.ensures.2
    c.load-self-inside.ensures.2 in
    joined_begins c.self.inside.token.table_id c.load-self-inside.new.seat.table_id
    c.other.inside.token.table_id me after other c.args.self.now c.args.other
    (c.load-self-inside.ensures.0 ∙ c.join_seat.ensures.0) all c.self.view_is c.other.view_is

pub returns-clause-learned : goal.returns-clause-learned
returns-clause-learned g c =
    let me = c.self.inside.token.me in
    let other = c.other.inside.token.me.0 in
    let after = c.load-self-inside.new.seat.me in
    let all = settled me c.join_seat.new.seat.me after other c.join_seat.ensures.2
    c.load-self-inside.ensures.2 in
    joined_learned c.self.inside.token.table_id c.load-self-inside.new.seat.table_id
    c.other.inside.token.table_id me after other c.args.self.now c.args.other
    (c.load-self-inside.ensures.0 ∙ c.join_seat.ensures.0) all c.self.view_is c.other.view_is

pub returns-clause-own : goal.returns-clause-own
returns-clause-own g c =
    let me = c.self.inside.token.me in
    let other = c.other.inside.token.me.0 in
    let after = c.load-self-inside.new.seat.me in
    let all = settled me c.join_seat.new.seat.me after other c.join_seat.ensures.2
    c.load-self-inside.ensures.2 in
    joined_own c.self.inside.token.table_id c.load-self-inside.new.seat.table_id
    c.other.inside.token.table_id me after other c.args.self.now c.args.other
    (c.load-self-inside.ensures.0 ∙ c.join_seat.ensures.0) all c.self.view_is c.other.view_is
    c.self.invariant.3.small

pub returns-clause-theirs : goal.returns-clause-theirs
returns-clause-theirs g c =
    let me = c.self.inside.token.me in
    let other = c.other.inside.token.me.0 in
    let after = c.load-self-inside.new.seat.me in
    let all = settled me c.join_seat.new.seat.me after other c.join_seat.ensures.2
    c.load-self-inside.ensures.2 in
    joined_theirs c.self.inside.token.table_id c.load-self-inside.new.seat.table_id
    c.other.inside.token.table_id me after other c.args.self.now c.args.other
    (c.load-self-inside.ensures.0 ∙ c.join_seat.ensures.0) all c.self.view_is c.other.view_is
    c.other.invariant.3.small
