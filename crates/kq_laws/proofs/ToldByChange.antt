-- A change keeps what a timer was told, or starts it anew with nothing told.
use Rattle.std.proofs.Common.{◌≡◌, ℕ, ◌<◌, ◌≤◌, true, false, cond, leb, ◌||◌, [], ◌∷◌, Option, Some, None, refl, sym, ap, ◌∙◌, subst, arith}
use Rattle.std.proofs.lemmas.Bool.{cond_both, lt-leb, true≢false}
use Rattle.std.proofs.lemmas.List.Elements.{All-nil, All-cons, All-append}
use Rattle.std.specs.List.{All}
use Rattle.kq_model.specs.declared.change.Change.{Change}
use Rattle.kq_model.specs.declared.errno.Errno.{Errno}
use Rattle.kq_model.specs.declared.filter.Filter.{Filter}
use Rattle.kq_model.specs.declared.filter.Filter.TheVariants.{Timer}
use Rattle.kq_model.specs.declared.key.Key.{Key}
use Rattle.kq_model.specs.Bits.{asks, add, delete, clear}
use Rattle.kq_model.specs.Caller.{Caller}
use Rattle.kq_model.specs.ChangedKnote.{key_of, start_in, period_in, has_come, timing_in, always_clears, fresh, started, begun, replaced, restarted, changed, switched, activated, attended, made, modified}
use Rattle.kq_model.specs.Hearing.{Expired}
use Rattle.kq_model.specs.Tallying.{Tally, tallying}
use Rattle.kq_model.specs.Knote.{key_eq, find_knote}
use Rattle.kq_model.specs.Look.{Seen, look}
use Rattle.kq_model.specs.Refusals.{is_malformed, is_unopened, own_refusal}
use Rattle.kq_model.specs.Registration.{Refuse, Remove, Make, Modify, unless_refused, decided, decision, carried_out, register}
use Rattle.kq_model.specs.Tallied.{Decision, Knote, Kqueue}
use Rattle.kq_model.specs.Ticks.{Timing, Every, At}
use Rattle.kq_model.specs.Views.{Views}
use Rattle.kq_model.proofs.KeyLaws.{same_key}
use Rattle.kq_model.proofs.KnoteLaws.{find_knote-key}
use Rattle.kq_model.proofs.RegistrationLaws.{made-key, modified-key}
use Rattle.kq_laws.specs.Timers.{timer}
use Rattle.kq_laws.proofs.Counting.{ticks-unstarted}
use Rattle.kq_laws.proofs.Lists.{with_knote-all, without_knote-all, found-is}
use Rattle.kq_laws.proofs.Told.{Told, IsTold}

-- ---- one knote

activated-told : (since now : ℕ) (seen : Option Seen) (k : Knote) → Told since now k → Told since now (activated seen k)
unfolding activated
activated-told since now None k told = told
activated-told since now (Some seen) k told =
    record { clear = told.clear; notice = told.notice; count = told.count; once = told.once }

attended-told : (since now : ℕ) (views : Views) (k : Knote) → Told since now k → Told since now (attended views k)
unfolding attended
attended-told since now views k told =
    cond_both k.enabled (activated (look views k) k) k (Told since now)
    (λ _. activated-told since now (look views k) k told) (λ _. told)

-- a timer that starts now was told nothing, but one whose moment has come, which was told once
module _ (since now : ℕ) (k : Knote) (begun : since ≤ now) (clears : k.clear ≡ true) (silent : k.notice ≡ None)
    (none : k.seen.count ≡ 0) where
  abbrev at_start : Option Timing → Knote
  at_start t = record k {
    start = start_in now t;
    period = period_in t;
    seen = cond (has_come now t) (tallying.heard Expired k.seen) k.seen;
  }

  abbrev IsOnce : ℕ → Tally → Type 0
  IsOnce moment s = (s.count ≤ 1) × (now < moment → s.count ≡ 0)

  starts : (t : Option Timing) → Told since now (at_start t)
  unfolding start_in period_in has_come
  starts None = record {
    clear = clears;
    notice = silent;
    count = λ positive. absurd (omega (arith, positive));
    once = λ _. (omega (arith, none), λ _. none);
  }
  starts (Some (Every period)) = record {
    clear = clears;
    notice = silent;
    count = λ positive. none ∙ sym (ticks-unstarted (at_start (Some (Every period))) since now positive begun (omega arith));
    once = λ _. (omega (arith, none), λ _. none);
  }
  starts (Some (At moment)) = record {
    clear = clears;
    notice = silent;
    count = λ positive. absurd (omega (arith, positive));
    once = λ _. cond_both (leb moment now) (tallying.heard Expired k.seen) k.seen (IsOnce moment)
        (λ come. (omega (arith, none), λ later. absurd (true≢false (sym come ∙ lt-leb moment now later))))
        (λ _. (omega (arith, none), λ _. none));
  }

always-clear : (c : Change) → c.filter ≡ Timer → always_clears c.filter || asks c.flags clear ≡ true
unfolding always_clears
always-clear c of = ap (λ (f : Filter). always_clears f || asks c.flags clear) of

begun-told : (since : ℕ) (caller : Caller) (c : Change) → since ≤ caller.views.now → c.filter ≡ Timer
    → Told since caller.views.now (begun c.filter caller c (fresh caller c))
unfolding begun started fresh
begun-told since caller c begins of =
    subst (λ (f : Filter). Told since caller.views.now (begun f caller c (fresh caller c))) (sym of)
    (starts since caller.views.now (fresh caller c) begins (always-clear c of) refl refl (timing_in caller c))

-- the knote of the change is this timer
of_timer : (ident : ℕ) (c : Change) (k : Knote) → k.key ≡ key_of c → key_eq (timer ident) k.key ≡ true → c.filter ≡ Timer
of_timer ident c k is same = ap (λ (x : Key). x.filter) (sym (same_key (timer ident) k.key same ∙ is))

made-told : (ident since : ℕ) (caller : Caller) (c : Change) → since ≤ caller.views.now
    → IsTold ident since caller.views.now (made caller c)
unfolding made
made-told ident since caller c begins same =
    let of = of_timer ident c (made caller c) (made-key tallying caller c) same in
    attended-told since caller.views.now caller.views (begun c.filter caller c (fresh caller c))
    (begun-told since caller c begins of)

replaced-told : (since now : ℕ) (c : Change) (k : Knote) → Told since now k → Told since now (replaced c k)
unfolding replaced
replaced-told since now c k told =
    cond_both (asks c.flags add) _ _ (Told since now)
    (λ _. record { clear = told.clear; notice = told.notice; count = told.count; once = told.once })
    (λ _. record { clear = told.clear; notice = told.notice; count = told.count; once = told.once })

restarted-told : (since : ℕ) (caller : Caller) (c : Change) (k : Knote) → since ≤ caller.views.now → c.filter ≡ Timer
    → Told since caller.views.now k → Told since caller.views.now (restarted c.filter caller c k)
unfolding restarted started
restarted-told since caller c k begins of told =
    let anew : Knote = record k { seen = tallying.empty; active = false } in
    subst (λ (f : Filter). Told since caller.views.now (restarted f caller c k)) (sym of)
    (cond_both (asks c.flags add) _ _ (Told since caller.views.now)
    (λ _. starts since caller.views.now anew begins told.clear told.notice refl (timing_in caller c)) (λ _. told))

changed-told : (since now : ℕ) (c : Change) (k : Knote) → c.filter ≡ Timer → Told since now k → Told since now (changed c.filter c k)
unfolding changed
changed-told since now c k of told = subst (λ (f : Filter). Told since now (changed f c k)) (sym of) told

switched-told : (since now : ℕ) (c : Change) (k : Knote) → Told since now k → Told since now (switched c k)
unfolding switched
switched-told since now c k told =
    record { clear = told.clear; notice = told.notice; count = told.count; once = told.once }

modified-told : (ident since : ℕ) (caller : Caller) (c : Change) (k : Knote) → since ≤ caller.views.now → k.key ≡ key_of c
    → IsTold ident since caller.views.now k → IsTold ident since caller.views.now (modified caller c k)
unfolding modified
modified-told ident since caller c k begins is told same =
    let now = caller.views.now in
    let first = ap (key_eq (timer ident)) (sym (modified-key tallying caller c k)) ∙ same in
    let of = of_timer ident c k is first in
    attended-told since now caller.views _ (switched-told since now c _ (changed-told since now c _ of
    (restarted-told since caller c _ begins of (replaced-told since now c k (told first)))))

-- ---- a registration

module _ (ident since : ℕ) (caller : Caller) (c : Change) where
  abbrev Is : Knote → Type 0
  Is k = IsTold ident since caller.views.now k

  abbrev IfFound : Option Knote → Type 0
  IfFound None = Unit {0}
  IfFound (Some k) = (k.key ≡ key_of c) × Is k

  abbrev Decides : Decision → Type 0
  Decides (Refuse e) = Unit {0}
  Decides Remove = Unit {0}
  Decides Make = Unit {0}
  Decides (Modify k) = (k.key ≡ key_of c) × Is k

  unless_refused-told : (e : Option Errno) (d : Decision) → Decides d → Decides (unless_refused e d)
  unfolding unless_refused
  unless_refused-told None d fine = fine
  unless_refused-told (Some e) d fine = tt

  decided-told : (present : Option Knote) → IfFound present → Decides (decided caller present c)
  unfolding decided
  decided-told None has =
      cond_both (asks c.flags add) _ _ Decides
      (λ _. unless_refused-told (own_refusal c.filter caller true c) Make tt) (λ _. tt)
  decided-told (Some k) has =
      cond_both (asks c.flags delete) _ _ Decides (λ _. tt)
      (λ _. cond_both (asks c.flags add) _ _ Decides
      (λ _. unless_refused-told (own_refusal c.filter caller false c) (Modify k) has) (λ _. has))

  decision-told : (present : Option Knote) → IfFound present → Decides (decision caller present c)
  unfolding decision
  decision-told present has =
      cond_both (is_malformed c) _ _ Decides (λ _. tt)
      (λ _. cond_both (is_unopened caller c) _ _ Decides (λ _. tt) (λ _. decided-told present has))

  carried_out-told : (kq : Kqueue) (d : Decision) → since ≤ caller.views.now → All Is kq.knotes → Decides d
      → All Is (carried_out caller c kq d).kq.knotes
  unfolding carried_out
  carried_out-told kq (Refuse e) begins all fine = all
  carried_out-told kq Remove begins all fine = without_knote-all Is (key_of c) kq.knotes all
  carried_out-told kq Make begins all fine =
      All-append Is kq.knotes (made caller c ∷ []) all
      (All-cons Is (made caller c) [] (made-told ident since caller c begins) (All-nil Is))
  carried_out-told kq (Modify k) begins all fine =
      with_knote-all Is (modified caller c k) kq.knotes
      (modified-told ident since caller c k begins fine.0 fine.1) all

  if_found : (kq : Kqueue) → All Is kq.knotes → (present : Option Knote) → find_knote (key_of c) kq.knotes ≡ present
      → IfFound present
  if_found kq all None e = tt
  if_found kq all (Some k) e = (sym (find_knote-key (key_of c) kq.knotes k e), found-is Is (key_of c) kq.knotes k all e)

  pub register-told : (kq : Kqueue) → since ≤ caller.views.now → All Is kq.knotes → All Is (register caller c kq).kq.knotes
  unfolding register
  register-told kq begins all =
      let present = find_knote (key_of c) kq.knotes in
      carried_out-told kq (decision caller present c) begins all (decision-told present (if_found kq all present refl))
