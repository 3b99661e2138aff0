use Rattle.std.proofs.Common.{◌≡◌, Bool, sym, ap₂, refl}
use Rattle.kq_model.specs.declared.reply.Reply.{Reply}
use Rattle.kq_model.specs.declared.reply.Reply.TheVariants as reply
use Rattle.kq_model.specs.declared.why.Why.{Why}
use Rattle.kq_model.specs.Shares.{if_own}
use Rattle.kq_system.proofs.sharing.own_reply.Goals as goal

-- a reply that is to no impossible record
as_it_is : (mine : Bool) (r : Reply) → ((why : Why) → r ≡ reply.Impossible why → ⊥) → r ≡ if_own mine r
unfolding if_own
as_it_is mine reply.Done other = refl
as_it_is mine (reply.Events events) other = refl
as_it_is mine (reply.Failed e) other = refl
as_it_is mine (reply.Impossible why) other = absurd (other why refl)

pub returns-then-mine : goal.returns-then-mine
unfolding if_own
returns-then-mine c = sym (ap₂ if_own c.if-mine.true c.in-Impossible.is)

pub returns-else-mine : goal.returns-else-mine
unfolding if_own
returns-else-mine c = sym (ap₂ if_own c.if-mine.false c.in-Impossible.is)

pub returns-in_default : goal.returns-in_default
returns-in_default c = as_it_is c.args.mine c.args.reply (λ why is. c.in_default.not-Impossible why is)
