-- A record that is no call, and a reply that is possible.
use Rattle.std.proofs.Common.{◌≡◌, ℕ, List, Option, Some, None, inl, inr, refl, subst}
use Rattle.kq_answers.specs.declared.answer.Given.{Given}
use Rattle.kq_judge.specs.declared.member.Ignored.{Ignored}
use Rattle.kq_model.specs.declared.change.Change.{Change}
use Rattle.kq_model.specs.declared.event.Event.{Event}
use Rattle.kq_model.specs.declared.event.Event.TheVariants as event
use Rattle.kq_model.specs.declared.reply.Reply.{Reply}
use Rattle.kq_model.specs.declared.reply.Reply.TheVariants as reply
use Rattle.kq_model.specs.declared.why.Why.{Why}
use Rattle.kq_model.specs.System.{step}
use Rattle.kq_model.specs.Tallied.{System}
use Rattle.kq_check.specs.declared.verdict.Verdict.{Verdict}
use Rattle.kq_check.specs.declared.verdict.Verdict.TheVariants.{Equal, Refused}
use Rattle.kq_check.specs.LeftOpen.{opened}
use Rattle.kq_check.specs.Replies.{IsReply, IsVerdictOf}
use Rattle.kq_check.specs.Stepped.{IsStepped}

pub plain_step : (ignored : List Ignored) (place : ℕ) (e : Event) (given : Option Given) (s : System) (r : Reply) (v : Verdict) (next : System)
    → ((pid fd : ℕ) (changes : List Change) (room : ℕ) → e ≡ event.Kevent pid fd changes room → ⊥)
    → (next ≡ (step place e s).system) × (r ≡ (step place e s).reply) → IsVerdictOf r given v → IsStepped ignored place e given s v next
plain_step ignored place (event.Kevent pid fd changes room) given s r v next other stepped verdict =
    absurd (other pid fd changes room refl)
plain_step ignored place _ given s r v next other (is, said) verdict = (subst (λ t. IsVerdictOf t given v) said verdict, is)

pub opens_none : (place : ℕ) (e : Event) (given : Option Given) (s : System)
    → ((pid fd : ℕ) (changes : List Change) (room : ℕ) → e ≡ event.Kevent pid fd changes room → ⊥)
    → opened place e given s ≡ None
opens_none place (event.Kevent pid fd changes room) given s other = absurd (other pid fd changes room refl)
opens_none place _ given s other = refl

pub unanswered : (r : Reply) → ((why : Why) → r ≡ reply.Impossible why → ⊥) → IsVerdictOf r None Equal
unanswered (reply.Impossible why) possible = absurd (possible why refl)
unanswered _ possible = refl

pub right : (r : Reply) (given : Given) → ((why : Why) → r ≡ reply.Impossible why → ⊥) → IsReply given r
    → IsVerdictOf r (Some given) Equal
right (reply.Impossible why) given possible is = absurd (possible why refl)
right _ given possible is = inl (refl, is)

pub wrong : (r : Reply) (given : Given) → ((why : Why) → r ≡ reply.Impossible why → ⊥) → (IsReply given r → ⊥)
    → IsVerdictOf r (Some given) Refused
wrong (reply.Impossible why) given possible other = absurd (possible why refl)
wrong _ given possible other = inr (refl, other)
