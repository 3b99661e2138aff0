-- What a timer was told so far is its expirations since it was last returned: one operation after the other.
use Rattle.std.proofs.Common.{◌≡◌, ℕ, zero, suc, ◌+◌, ◌-◌, ◌==◌, ◌<◌, ◌≤◌, Bool, true, false, cond, not, List, [], ◌∷◌, map, Option, Some, None, refl, sym, ap, ◌∙◌, subst, arith}
use Rattle.std.proofs.lemmas.Bool.{cond_both, true≢false}
use Rattle.std.proofs.lemmas.List.Elements.{All-nil, All-cons, All-head, All-tail, All-append, All-filter}
use Rattle.std.specs.List.{All, filter}
use Rattle.kq_model.specs.declared.filter.Filter.{Filter}
use Rattle.kq_model.specs.declared.filter.Filter.TheVariants.{Timer}
use Rattle.kq_model.specs.declared.key.Key.{Key}
use Rattle.kq_model.specs.declared.object.Hint.{Hint}
use Rattle.kq_model.specs.declared.object.Target.{Target}
use Rattle.kq_model.specs.Clock.{expires_at, expired, timers, waiting_of, clock_from, clocked}
use Rattle.kq_model.specs.Close.{Pair, is_closed, closed}
use Rattle.kq_model.specs.Following.{Fork, process_key, follows, child_knote, heir, with_heir, heir_in, forks_in, followed_each, followed}
use Rattle.kq_model.specs.Tallying.{tallying}
use Rattle.kq_model.specs.Hints.{takes, hints_for, alerted, if_there, knotes_alerted, notified}
use Rattle.kq_model.specs.Knote.{key_eq, find_knote}
use Rattle.kq_model.specs.Tallied.{Knote, Kqueue}
use Rattle.kq_model.specs.Targets.{Posted, is_target}
use Rattle.kq_model.specs.Ticks.{last_moment}
use Rattle.kq_model.specs.NextTicks.{ticks_between}
use Rattle.kq_model.specs.TimerWalk.{Waiting, rung_at, walked}
use Rattle.kq_model.specs.Views.{Views}
use Rattle.kq_model.proofs.KeyLaws.{same_key}
use Rattle.kq_model.proofs.KeyLists.{and_false}
use Rattle.kq_model.proofs.KnoteLaws.{by_test}
use Rattle.kq_model.proofs.SubjectsCall.{alerted-subject}
use Rattle.kq_model.proofs.TimerWalkQueue.{filter-none}
use Rattle.kq_laws.specs.Timers.{timer}
use Rattle.kq_laws.proofs.Counting.{ticks-next, ticks-most, expires-at_start}

-- the knote was told its expirations, and forgets them when it is returned
pub record Told (since now : ℕ) (k : Knote) : Type 0 where
  pub clear : k.clear ≡ true
  -- a notice is a child's alone
  pub notice : k.notice ≡ None
  pub count : 0 < k.period → k.seen.count ≡ ticks_between (expires_at k) since now
  -- without a period it expires once, at its start
  pub once : k.period ≡ 0 → (k.seen.count ≤ 1) × (now < k.start → k.seen.count ≡ 0)

module _ (ident : ℕ) where
  -- the knote, if it is the timer of this number
  abbrev pub IsTold : ℕ → ℕ → Knote → Type 0
  IsTold since now k = key_eq (timer ident) k.key ≡ true → Told since now k

  abbrev pub AreTold : ℕ → ℕ → List Knote → Type 0
  AreTold since now ks = All (IsTold since now) ks

  -- ---- closes

  pub closed-told : (since now owner : ℕ) (pairs : List Pair) (kq : Kqueue) → AreTold since now kq.knotes
      → AreTold since now (closed owner pairs kq).knotes
  unfolding closed
  closed-told since now owner pairs kq all =
      All-filter (λ (k : Knote). not (is_closed owner pairs k.key)) (IsTold since now) kq.knotes all

  -- ---- hints

  takes-timer : (hint : Hint) → takes Timer hint ≡ false
  unfolding takes
  takes-timer hint = refl

  -- a timer hears no hints
  hints-timer : (k : Knote) (posted : List Posted) → key_eq (timer ident) k.key ≡ true → hints_for k posted ≡ []
  hints-timer k posted same =
      let of : Timer ≡ k.key.filter = ap (λ (x : Key). x.filter) (same_key (timer ident) k.key same) in
      let hints = map (λ (p : Posted). p.1) (filter (λ (p : Posted). is_target k.target p.0) posted) in
      subst (λ (f : Filter). filter (takes f) hints ≡ []) of (filter-none (takes Timer) takes-timer hints)

  abbrev Others : Filter → ℕ → Option Target → Type 0
  Others f i target = key_eq (timer ident) (record { ident = i; filter = f }) ≡ false

  abbrev Stays : ℕ → ℕ → Option Knote → Type 0
  Stays since now None = Unit {0}
  Stays since now (Some k) = IsTold since now k

  abbrev IsOther : Option Knote → Type 0
  IsOther None = Unit {0}
  IsOther (Some k) = key_eq (timer ident) k.key ≡ false

  other-told : (since now : ℕ) (found : Option Knote) → IsOther found → Stays since now found
  other-told since now None other = tt
  other-told since now (Some k) other = λ same. absurd (true≢false (sym same ∙ other))

  alerted-none : (views : Views) (k : Knote) → alerted views [] k ≡ Some k
  unfolding alerted
  alerted-none views k = refl

  alerted-told : (since now : ℕ) (views : Views) (posted : List Posted) (k : Knote) → IsTold since now k
      → Stays since now (alerted views (hints_for k posted) k)
  alerted-told since now views posted k told =
      by_test (λ b. key_eq (timer ident) k.key ≡ b → Stays since now (alerted views (hints_for k posted) k))
      (key_eq (timer ident) k.key)
      (λ _ same. subst (λ (hints : List Hint). Stays since now (alerted views hints k)) (sym (hints-timer k posted same))
      (subst (Stays since now) (sym (alerted-none views k)) told))
      (λ _ other. other-told since now (alerted views (hints_for k posted) k)
      (alerted-subject tallying Others views (hints_for k posted) k other)) refl

  there-told : (since now : ℕ) (found : Option Knote) → Stays since now found → AreTold since now (if_there found)
  unfolding if_there
  there-told since now None told = All-nil (IsTold since now)
  there-told since now (Some k) told = All-cons (IsTold since now) k [] told (All-nil (IsTold since now))

  alerting-told : (since now : ℕ) (views : Views) (posted : List Posted) (ks : List Knote) → AreTold since now ks
      → AreTold since now (knotes_alerted views posted ks)
  unfolding knotes_alerted
  alerting-told since now views posted [] all = All-nil (IsTold since now)
  alerting-told since now views posted (k ∷ ks) all =
      let found = alerted views (hints_for k posted) k in
      All-append (IsTold since now) (if_there found) (knotes_alerted views posted ks)
      (there-told since now found (alerted-told since now views posted k (All-head (IsTold since now) k ks all)))
      (alerting-told since now views posted ks (All-tail (IsTold since now) k ks all))

  pub notified-told : (since now : ℕ) (views : Views) (posted : List Posted) (kq : Kqueue) → AreTold since now kq.knotes
      → AreTold since now (notified views posted kq).knotes
  unfolding notified
  notified-told since now views posted kq all = alerting-told since now views posted kq.knotes all

  -- ---- children that are followed: their knotes are no timers

  heir-told : (since now : ℕ) (f : Fork) (parent present : Option Knote) → Stays since now (heir f parent present)
  unfolding heir
  heir-told since now f (Some k) None =
      cond_both (follows f.parent k) (Some (child_knote f k)) None (Stays since now)
      (λ _. other-told since now (Some (child_knote f k)) (and_false (ident == f.child))) (λ _. tt)
  heir-told since now f None present = tt
  heir-told since now f (Some k) (Some x) = tt

  with_heir-told : (since now : ℕ) (found : Option Knote) (kq : Kqueue) → Stays since now found
      → AreTold since now kq.knotes → AreTold since now (with_heir found kq).knotes
  unfolding with_heir
  with_heir-told since now None kq told all = all
  with_heir-told since now (Some k) kq told all =
      All-append (IsTold since now) kq.knotes (k ∷ []) all
      (All-cons (IsTold since now) k [] told (All-nil (IsTold since now)))

  each-told : (since now : ℕ) (fs : List Fork) (kq : Kqueue) → AreTold since now kq.knotes
      → AreTold since now (followed_each fs kq).knotes
  unfolding followed_each
  each-told since now [] kq all = all
  each-told since now (f ∷ fs) kq all =
      each-told since now fs (with_heir (heir_in f kq) kq) (with_heir-told since now (heir_in f kq) kq
      (heir-told since now f (find_knote (process_key f.parent) kq.knotes)
      (find_knote (process_key f.child) kq.knotes)) all)

  pub followed-told : (since now version : ℕ) (posted : List Posted) (kq : Kqueue) → AreTold since now kq.knotes
      → AreTold since now (followed version posted kq).knotes
  followed-told since now version posted kq all = each-told since now (forks_in version posted) kq all

  -- ---- the clock

  at_moment : (since now : ℕ) (k : Knote) → since ≤ now → suc now ≤ last_moment → Told since now k → (b : Bool)
      → expires_at k (suc now) ≡ b → Told since (suc now) (cond b (expired k) k)
  at_moment since now k ordered within told true rings =
      let next = ticks-next (expires_at k) since now ordered in
      let one = rw rings at next in
      record {
        clear = told.clear;
        notice = told.notice;
        count = λ positive. omega (arith, told.count positive, one, ticks-most (expires_at k) since now);
        once = λ none.
            let at : suc now ≡ k.start = expires-at_start k (suc now) none rings in
            let before : k.seen.count ≡ 0 = (told.once none).1 (omega (arith, at)) in
            (omega (arith, before), λ later. absurd (omega (arith, at, later)));
      }
  at_moment since now k ordered within told false rings =
      let next = ticks-next (expires_at k) since now ordered in
      let none = rw rings at next in
      record {
        clear = told.clear;
        notice = told.notice;
        count = λ positive. omega (arith, told.count positive, none);
        once = λ still. ((told.once still).0, λ later. (told.once still).1 (omega (arith, later)));
      }

  key-at_moment : (k : Knote) (b : Bool) → (cond b (expired k) k).key ≡ k.key
  key-at_moment k true = refl
  key-at_moment k false = refl

  rung-told : (since now : ℕ) (ks : List Knote) → since ≤ now → suc now ≤ last_moment → AreTold since now ks
      → AreTold since (suc now) (map (rung_at timers (suc now)) ks)
  rung-told since now [] ordered within all = All-nil (IsTold since (suc now))
  rung-told since now (k ∷ ks) ordered within all =
      All-cons (IsTold since (suc now)) (rung_at timers (suc now) k) (map (rung_at timers (suc now)) ks)
      (λ same. at_moment since now k ordered within
      (All-head (IsTold since now) k ks all
      (ap (key_eq (timer ident)) (sym (key-at_moment k (expires_at k (suc now)))) ∙ same)) (expires_at k (suc now)) refl)
      (rung-told since now ks ordered within (All-tail (IsTold since now) k ks all))

  walked-told : (since from n : ℕ) (w : Waiting Knote Key) → since ≤ from → from + n ≤ last_moment
      → AreTold since from w.items → AreTold since (from + n) (walked timers from n w).items
  unfolding walked
  walked-told since from zero w ordered within all =
      subst (λ (m : ℕ). AreTold since m w.items) (omega arith) all
  walked-told since from (suc n) w ordered within all =
      let at : suc (from + n) ≡ from + suc n = omega arith in
      subst (λ (m : ℕ). AreTold since m (map (rung_at timers m) (walked timers from n w).items)) at
      (rung-told since (from + n) (walked timers from n w).items (omega arith) (omega arith)
      (walked-told since from n w ordered (omega arith) all))

  pub clocked-told : (since now to : ℕ) (kq : Kqueue) → since ≤ now → now ≤ to → to ≤ last_moment
      → AreTold since now kq.knotes
      → AreTold since to (clocked (Some (record { from = now; to = to })) kq).knotes
  unfolding clocked clock_from
  clocked-told since now to kq begun ordered within all =
      let there : now + (to - now) ≡ to = omega arith in
      subst (λ (m : ℕ). AreTold since m (walked timers now (to - now) (waiting_of kq)).items) there
      (walked-told since now (to - now) (waiting_of kq) begun (omega arith) all)
