-- A call that has no answer reads events, and may leave the order of its kqueue open.
use Rattle.std.proofs.Common.{◌≡◌, ℕ, List, [], Option, Some, None, refl, sym, ap, ◌∙◌, subst, cond, length}
use Rattle.kq_judge.specs.declared.member.Ignored.{Ignored}
use Rattle.kq_model.specs.declared.change.Change.{Change}
use Rattle.kq_model.specs.declared.event.Event.{Event}
use Rattle.kq_model.specs.declared.event.Event.TheVariants.{Kevent as KeventRecord}
use Rattle.kq_model.specs.declared.kevent.Kevent.{Kevent}
use Rattle.kq_model.specs.declared.object.Named.{Named}
use Rattle.kq_model.specs.declared.object.Named.TheVariants as named
use Rattle.kq_model.specs.declared.reply.Reply.{Reply}
use Rattle.kq_model.specs.declared.reply.Reply.TheVariants as reply
use Rattle.kq_model.specs.Report.{events_in}
use Rattle.kq_model.specs.System.{step}
use Rattle.kq_model.specs.Tallied.{Kqueue, Live, System}
use Rattle.kq_system.specs.Beginning.{kqueue_in, live_named, place_named}
use Rattle.kq_check.specs.declared.verdict.Verdict.{Verdict}
use Rattle.kq_check.specs.declared.verdict.Verdict.TheVariants.{Equal}
use Rattle.kq_check.specs.LeftOpen.{kqueue_of, leaves_some, opened_in, waiting_of}
use Rattle.kq_check.specs.Stepped.{IsRead, system_read}

pub read_unanswered : (ignored : List Ignored) (place pid fd room : ℕ) (s next : System)
    → next ≡ system_read place pid fd room s → IsRead ignored place pid fd room None s Equal next
read_unanswered ignored place pid fd room s next there = (s, (refl, refl), there)

pub opened_so : (place pid fd room waiting returned : ℕ) (kqueue o : Option ℕ) (s : System) (r : Reply)
    → o ≡ cond (leaves_some room waiting returned) kqueue None → waiting ≡ waiting_of (live_named pid fd s)
    → returned ≡ events_in r → r ≡ (step place (KeventRecord pid fd [] room) s).reply → kqueue ≡ place_named pid fd s
    → o ≡ opened_in place pid fd room s
opened_so place pid fd room waiting returned kqueue o s r is waiting_is returned_is said kqueue_is =
    is ∙ ap (λ w. cond (leaves_some room w returned) kqueue None) waiting_is
    ∙ ap (λ n. cond (leaves_some room (waiting_of (live_named pid fd s)) n) kqueue None) (returned_is ∙ ap events_in said)
    ∙ ap (λ k. cond (leaves_some room (waiting_of (live_named pid fd s))
    (events_in (step place (KeventRecord pid fd [] room) s).reply)) k None) kqueue_is

pub waiting_is : (found : Option Live) (live : Live) (kq : Kqueue) (n : ℕ) → found ≡ Some live → kq ≡ live.kq
    → n ≡ length kq.queue → n ≡ waiting_of found
waiting_is found live kq n is kq_is len = len ∙ ap (λ k. length k.queue) kq_is ∙ sym (ap waiting_of is)

pub none_waits : (found : Option Live) → found ≡ None → 0 ≡ waiting_of found
none_waits found none = sym (ap waiting_of none)

-- ---- what is none of those that are looked for

pub calls_none : (e : Event) (s : System)
    → ((pid fd : ℕ) (changes : List Change) (room : ℕ) → e ≡ KeventRecord pid fd changes room → ⊥) → None ≡ kqueue_of e s
calls_none (KeventRecord pid fd changes room) s other = absurd (other pid fd changes room refl)
calls_none _ s other = refl

pub no_events : (r : Reply) → ((events : List Kevent) → r ≡ reply.Events events → ⊥) → 0 ≡ events_in r
unfolding events_in
no_events (reply.Events events) other = absurd (other events refl)
no_events reply.Done other = refl
no_events (reply.Failed e) other = refl
no_events (reply.Impossible why) other = refl

pub no_kqueue : (n : Named) → ((place : ℕ) → n ≡ named.Kqueue place → ⊥) → None ≡ kqueue_in (Some n)
unfolding kqueue_in
no_kqueue (named.Kqueue place) other = absurd (other place refl)
no_kqueue (named.Socket place) other = refl
no_kqueue (named.PipeRead place) other = refl
no_kqueue (named.PipeWrite place) other = refl
no_kqueue (named.Open place number) other = refl
