-- On version 1 a change does to a kqueue what it did before there was a version 2.
use Rattle.std.proofs.Common.{◌≡◌, ℕ, zero, suc, ◌+◌, ◌*◌, ◌==◌, ◌&&◌, ◌||◌, ℤ, Bool, true, false, cond, not, Option, Some, None, refl, sym, ap, ap₂, ◌∙◌, arith}
use Rattle.std.proofs.lemmas.Bool.{eqb-true}
use Rattle.std.specs.Option.{is_none, option_map}
use Rattle.kq_model.specs.declared.change.Change.{Change}
use Rattle.kq_model.specs.declared.errno.Errno.TheVariants.{ENOENT, EBADF, EINVAL, ESRCH}
use Rattle.kq_model.specs.declared.filter.Filter.{Filter}
use Rattle.kq_model.specs.declared.filter.Filter.TheVariants.{Read, Write, Vnode, Proc, Signal, Timer, User, Aio, Lio, Fs, Procdesc, Sendfile, Empty}
use Rattle.kq_model.specs.Bits.{asks, add, delete, has_note, track_note}
use Rattle.kq_model.specs.Caller.{Caller}
use Rattle.kq_model.specs.ChangedKnote.{key_of, start_in, period_in, has_come, fresh, started, begun, replaced, restarted, changed, switched, activated, attended, made, modified}
use Rattle.kq_model.specs.Hearing.{Hearing, Expired}
use Rattle.kq_model.specs.Knote.{Knote, find_knote}
use Rattle.kq_model.specs.Kqueue.{Kqueue}
use Rattle.kq_model.specs.Look.{look, notice_or}
use Rattle.kq_model.specs.Refusals.{is_malformed, is_unopened, is_live_process, process_in, invalid_if, process_refusal, own_refusal}
use Rattle.kq_model.specs.Registration.{Decision, Refuse, Remove, Make, Modify, Registered, unless_refused, decided, decision, with_made, with_modified, carried_out, register}
use Rattle.kq_model.specs.Ticks.{Ticking, Every, is_among_first, is_tick, period_of, timing_of}
use Rattle.kq_model.specs.VersionOne as one
use Rattle.kq_model.specs.Views.{Views}
use Rattle.kq_model.proofs.Quiet.{Is, Are, Decides, find_knote-quiet, fresh-quiet, begun-quiet, replaced-quiet, restarted-quiet, changed-quiet, switched-quiet, decision-quiet}

-- ---- a timer without a period

pub still : (t : Ticking) (m k : ℕ) → t.period ≡ 0 → (t.start + suc k * t.period == m) ≡ (t.start == m)
still t m k none = let nothing : t.start + suc k * 0 ≡ t.start = omega arith in ap (λ p. t.start + suc k * p == m) none ∙ ap (λ n. n == m) nothing

or_same : (b : Bool) → (b || b) ≡ b
or_same true = refl
or_same false = refl

still_among : (t : Ticking) (m k : ℕ) → t.period ≡ 0 → is_among_first (suc k) t m ≡ (t.start == m)
unfolding is_among_first
still_among t m zero none = ap (λ b. b || false) (still t m 0 none) ∙ or_false (t.start == m)
  where
    or_false : (b : Bool) → (b || false) ≡ b
    or_false true = refl
    or_false false = refl
still_among t m (suc k) none =
    ap₂ (λ a b. a || b) (still t m (suc k) none) (still_among t m k none) ∙ or_same (t.start == m)

-- which moments after the first one: a moment 0 is never come to
pub tick-one : (t : Ticking) (m : ℕ) → is_tick t (suc m) ≡ one.is_tick t (suc m)
unfolding is_tick one.is_tick
tick-one t m = by_period (t.period == 0) refl
  where
    by_period : (b : Bool) → (t.period == 0) ≡ b → cond b (t.start == suc m) (is_among_first (suc m) t (suc m)) ≡ is_among_first (suc m) t (suc m)
    by_period true none = sym (still_among t (suc m) m (eqb-true t.period 0 none))
    by_period false _ = refl

-- ---- what a change of a TIMER says

-- version 1 knows periods alone
timing-one : (version : ℕ) (datum : ℤ) (fflags : ℕ) → version ≡ 1 → timing_of version datum fflags ≡ option_map Every (period_of datum fflags)
timing-one version datum fflags is = ap (λ n. timing_of n datum fflags) is

none-one : (o : Option ℕ) → is_none (option_map Every o) ≡ is_none o
none-one None = refl
none-one (Some period) = refl

start-one : (now : ℕ) (o : Option ℕ) → start_in now (option_map Every o) ≡ now
unfolding start_in
start-one now None = refl
start-one now (Some period) = refl

period-one : (o : Option ℕ) → period_in (option_map Every o) ≡ one.period_in o
unfolding period_in one.period_in
period-one None = refl
period-one (Some period) = refl

come-one : (now : ℕ) (o : Option ℕ) → has_come now (option_map Every o) ≡ false
unfolding has_come
come-one now None = refl
come-one now (Some period) = refl

-- version 1 does not know TRACK
process_refusal-one : (caller : Caller) (is_new : Bool) (c : Change) → caller.version ≡ 1
    → process_refusal caller is_new c ≡ one.process_refusal caller is_new c
unfolding process_refusal one.process_refusal
process_refusal-one caller is_new c is =
    ap (λ v. cond ((v == 1) && has_note c.fflags track_note) (Some EINVAL)
    (cond (is_new && not (is_live_process (process_in caller.views c.ident))) (Some ESRCH) None)) is

own_refusal-one : (f : Filter) (caller : Caller) (is_new : Bool) (c : Change) → caller.version ≡ 1
    → own_refusal f caller is_new c ≡ one.own_refusal f caller is_new c
unfolding own_refusal one.own_refusal
own_refusal-one Timer caller is_new c is =
    ap (λ t. invalid_if (is_none t)) (timing-one caller.version c.datum c.fflags is)
    ∙ ap invalid_if (none-one (period_of c.datum c.fflags))
own_refusal-one Read caller is_new c is = refl
own_refusal-one Write caller is_new c is = refl
own_refusal-one Vnode caller is_new c is = refl
own_refusal-one Proc caller is_new c is = process_refusal-one caller is_new c is
own_refusal-one Signal caller is_new c is = refl
own_refusal-one User caller is_new c is = refl
own_refusal-one Aio caller is_new c is = refl
own_refusal-one Lio caller is_new c is = refl
own_refusal-one Fs caller is_new c is = refl
own_refusal-one Procdesc caller is_new c is = refl
own_refusal-one Sendfile caller is_new c is = refl
own_refusal-one Empty caller is_new c is = refl

module _ {S : Type 0} {h : Hearing S} where
  -- ---- the look of a knote that has no notice

  pub look-one : (views : Views) (k : Knote h) → Is k → look views k ≡ one.look views k
  unfolding look one.look notice_or
  look-one views k quiet = ap (λ n. notice_or n (one.look views k)) quiet

  attended-one : (views : Views) (k : Knote h) → Is k → attended views k ≡ one.attended views k
  unfolding attended one.attended
  attended-one views k quiet = ap (λ seen. cond k.enabled (activated seen k) k) (look-one views k quiet)

  -- ---- what a change makes of a knote

  abbrev timed : Knote h → ℕ → ℕ → Bool → Knote h
  timed k start period come =
      record k { start = start; period = period; seen = cond come (h.heard Expired k.seen) k.seen }

  started-one : (caller : Caller) (c : Change) (k : Knote h) → caller.version ≡ 1 → started caller c k ≡ one.started caller c k
  unfolding started one.started
  started-one caller c k is =
      let now = caller.views.now in
      let o = period_of c.datum c.fflags in
      ap (λ t. timed k (start_in now t) (period_in t) (has_come now t)) (timing-one caller.version c.datum c.fflags is)
      ∙ ap (λ start. timed k start (period_in (option_map Every o)) (has_come now (option_map Every o))) (start-one now o)
      ∙ ap (λ period. timed k now period (has_come now (option_map Every o))) (period-one o)
      ∙ ap (timed k now (one.period_in o)) (come-one now o)

  begun-one : (f : Filter) (caller : Caller) (c : Change) (k : Knote h) → caller.version ≡ 1 → begun f caller c k ≡ one.begun f caller c k
  unfolding begun one.begun
  begun-one Timer caller c k is = started-one caller c k is
  begun-one Read caller c k is = refl
  begun-one Write caller c k is = refl
  begun-one Vnode caller c k is = refl
  begun-one Proc caller c k is = refl
  begun-one Signal caller c k is = refl
  begun-one User caller c k is = refl
  begun-one Aio caller c k is = refl
  begun-one Lio caller c k is = refl
  begun-one Fs caller c k is = refl
  begun-one Procdesc caller c k is = refl
  begun-one Sendfile caller c k is = refl
  begun-one Empty caller c k is = refl

  restarted-one : (f : Filter) (caller : Caller) (c : Change) (k : Knote h) → caller.version ≡ 1 → restarted f caller c k ≡ one.restarted f caller c k
  unfolding restarted one.restarted one.started
  restarted-one Timer caller c k is =
      ap (λ n. cond (asks c.flags add) n k) (started-one caller c (record k { seen = h.empty; active = false }) is)
  restarted-one Read caller c k is = refl
  restarted-one Write caller c k is = refl
  restarted-one Vnode caller c k is = refl
  restarted-one Proc caller c k is = refl
  restarted-one Signal caller c k is = refl
  restarted-one User caller c k is = refl
  restarted-one Aio caller c k is = refl
  restarted-one Lio caller c k is = refl
  restarted-one Fs caller c k is = refl
  restarted-one Procdesc caller c k is = refl
  restarted-one Sendfile caller c k is = refl
  restarted-one Empty caller c k is = refl

  made-one : (caller : Caller) (c : Change) → caller.version ≡ 1 → made {h = h} caller c ≡ one.made caller c
  unfolding made one.made
  made-one caller c is =
      let first = fresh {h = h} caller c in
      attended-one caller.views (begun c.filter caller c first) (begun-quiet c.filter caller c first (fresh-quiet h caller c))
      ∙ ap (one.attended caller.views) (begun-one c.filter caller c first is)

  modified-one : (caller : Caller) (c : Change) (k : Knote h) → caller.version ≡ 1 → Is k → modified caller c k ≡ one.modified caller c k
  unfolding modified one.modified
  modified-one caller c k is quiet =
      let again = restarted c.filter caller c (replaced c k) in
      let quiet_again = restarted-quiet c.filter caller c (replaced c k) (replaced-quiet c k quiet) in
      attended-one caller.views (switched c (changed c.filter c again))
      (switched-quiet c (changed c.filter c again) (changed-quiet c.filter c again quiet_again))
      ∙ ap (λ n. one.attended caller.views (switched c (changed c.filter c n))) (restarted-one c.filter caller c (replaced c k) is)

  -- ---- the registration of a change

  decided-one : (caller : Caller) (present : Option (Knote h)) (c : Change) → caller.version ≡ 1 → decided caller present c ≡ one.decided caller present c
  unfolding decided one.decided
  decided-one caller None c is =
      ap (λ e. cond (asks c.flags add) (unless_refused e Make) (Refuse ENOENT)) (own_refusal-one c.filter caller true c is)
  decided-one caller (Some k) c is =
      ap (λ e. cond (asks c.flags delete) Remove (cond (asks c.flags add) (unless_refused e (Modify k)) (Modify k)))
      (own_refusal-one c.filter caller false c is)

  decision-one : (caller : Caller) (present : Option (Knote h)) (c : Change) → caller.version ≡ 1 → decision caller present c ≡ one.decision caller present c
  unfolding decision one.decision
  decision-one caller present c is =
      ap (λ d. cond (is_malformed c) (Refuse EINVAL) (cond (is_unopened caller c) (Refuse EBADF) d)) (decided-one caller present c is)

  abbrev done : Kqueue h → Registered h
  done kq = record { kq = kq; error = None }

  carried_out-one : (caller : Caller) (c : Change) (kq : Kqueue h) (d : Decision h) → caller.version ≡ 1 → Decides d
      → carried_out caller c kq d ≡ one.carried_out caller c kq d
  unfolding carried_out one.carried_out
  carried_out-one caller c kq (Refuse e) is quiet = refl
  carried_out-one caller c kq Remove is quiet = refl
  carried_out-one caller c kq Make is quiet = ap (λ k. done (with_made k kq)) (made-one caller c is)
  carried_out-one caller c kq (Modify k) is quiet = ap (λ n. done (with_modified c n kq)) (modified-one caller c k is quiet)

  pub register-one : (caller : Caller) (c : Change) (kq : Kqueue h) → caller.version ≡ 1 → Are kq.knotes → register caller c kq ≡ one.register caller c kq
  unfolding register one.register
  register-one caller c kq is quiet =
      let present = find_knote (key_of c) kq.knotes in
      carried_out-one caller c kq (decision caller present c) is
      (decision-quiet caller present c (find_knote-quiet (key_of c) kq.knotes quiet))
      ∙ ap (one.carried_out caller c kq) (decision-one caller present c is)
