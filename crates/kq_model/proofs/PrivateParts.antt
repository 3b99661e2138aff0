-- What a private list leaves out makes no difference to the kqueue: its knotes have subjects that its changes
-- named, and closes, hints and the clock concern a knote by its subject alone.
use Rattle.std.proofs.Common.{◌≡◌, ℕ, zero, suc, ◌+◌, ◌-◌, true, false, cond, not, ◌&&◌, eqb, List, [], ◌∷◌, ◌++◌, map, filter, Option, Some, None, refl, sym, ap, ap₂, subst, ◌∙◌}
use Rattle.std.proofs.lemmas.Bool.{and_parts, and_from, and_left, and_right, both_ways, eqb-true, false_from_ne_true, false≢true, not_from_false}
use Rattle.std.proofs.lemmas.List.Elements.{All-nil, All-cons, All-head, All-tail, All-weaker}
use Rattle.std.proofs.lemmas.Option.{same_Some}
use Rattle.std.specs.List.{All}
use Rattle.kq_model.specs.declared.filter.Filter.{Filter}
use Rattle.kq_model.specs.declared.key.Key.{Key}
use Rattle.kq_model.specs.declared.object.Hint.{Hint}
use Rattle.kq_model.specs.declared.object.Hint.TheVariants.{Child}
use Rattle.kq_model.specs.declared.object.Target.{Target}
use Rattle.kq_model.specs.declared.object.Target.TheVariants.{Process}
use Rattle.kq_model.specs.Clock.{Span, timers, expires_at, expired, waiting_of, kqueue_of_waiting, clock_from, clocked}
use Rattle.kq_model.specs.Close.{Pair, has_pair, is_closed, closed}
use Rattle.kq_model.specs.Following.{Fork, forks_of, all_forks, forks_in, process_key, follows, child_knote, heir, with_heir, followed_each, followed}
use Rattle.kq_model.specs.Hearing.{Hearing}
use Rattle.kq_model.specs.Hints.{takes, hints_for, alerted, if_there, knotes_alerted, queue_alerted, queue_after_all, notified}
use Rattle.kq_model.specs.Knote.{Knote, find_knote, watches_number, is_timer}
use Rattle.kq_model.specs.Kqueue.{Kqueue}
use Rattle.kq_model.specs.PrivateList.{own_closed, own_hints, own_clock}
use Rattle.kq_model.specs.References.{Names}
use Rattle.kq_model.specs.Subjects.{HasSubject, HaveSubjects, FollowsSubject}
use Rattle.kq_model.specs.Targets.{Posted, is_target}
use Rattle.kq_model.specs.TimerWalk.{Waiting, rung_at, is_fresh, queue_at, walked}
use Rattle.kq_model.specs.Views.{Views}
use Rattle.kq_model.proofs.Following.{each-append}
use Rattle.kq_model.proofs.KnoteLaws.{by_test}
use Rattle.kq_model.proofs.ListFilters.{filter-same, filter-weaker, any-weaker, filter-all, all-where, All-left, All-right}
use Rattle.kq_model.proofs.QueueKeys.{Hold}
use Rattle.kq_model.proofs.SameTarget.{same_target, watched_is}
use Rattle.kq_model.proofs.Subjects.{find_knote-subject}
use Rattle.kq_model.proofs.SubjectsCall.{IfIs, followed_each-subjects}

-- a subject that was named
abbrev pub IsReferred : Names → Filter → ℕ → Option Target → Type 0
IsReferred ns filter ident target =
    (watches_number filter ≡ true → ns.number ident ≡ true)
    × ((t : Target) → target ≡ Some t → ns.target t ≡ true)
    × (is_timer filter ≡ true → ns.timer ≡ true)

-- a filter and an ident whose number, if it watches one, was named
abbrev pub IsNumbered : Names → Filter → ℕ → Type 0
IsNumbered ns filter ident = watches_number filter ≡ true → ns.number ident ≡ true

module _ {S : Type 0} (h : Hearing S) (ns : Names) where
  abbrev pub Are : List (Knote h) → Type 0
  Are ks = HaveSubjects (IsReferred ns) ks

  abbrev kqueue_with : List (Knote h) → List Key → Kqueue h
  kqueue_with knotes queue = record { knotes = knotes; queue = queue }

  -- ---- closes

  same_close : (owner : ℕ) (pairs : List Pair) (key : Key) → IsNumbered ns key.filter key.ident
      → is_closed owner (own_closed owner ns pairs) key ≡ is_closed owner pairs key
  same_close owner pairs key named =
      by_test (λ b. (b && has_pair owner key.ident (own_closed owner ns pairs)) ≡ (b && has_pair owner key.ident pairs)) (watches_number key.filter)
      (λ watches. any-weaker (λ (p : Pair). eqb p.pid owner && eqb p.number key.ident) (λ (p : Pair). eqb p.pid owner && ns.number p.number)
      (λ p is. let parts = and_parts (eqb p.pid owner) (eqb p.number key.ident) is in
      and_from (eqb p.pid owner) (ns.number p.number) parts.0
      (subst (λ n. ns.number n ≡ true) (sym (eqb-true p.number key.ident parts.1)) (named watches))) pairs)
      (λ _. refl)

  pub closed-own : (owner : ℕ) (pairs : List Pair) (kq : Kqueue h) → Hold h (IsNumbered ns) kq
      → closed owner (own_closed owner ns pairs) kq ≡ closed owner pairs kq
  unfolding closed
  closed-own owner pairs kq held =
      let own = own_closed owner ns pairs in
      ap₂ kqueue_with
      (filter-same (λ (k : Knote h). not (is_closed owner own k.key)) (λ (k : Knote h). not (is_closed owner pairs k.key)) kq.knotes
      (All-weaker (HasSubject (λ f i t. IsNumbered ns f i)) (λ k. not (is_closed owner own k.key) ≡ not (is_closed owner pairs k.key))
      (λ k named. ap not (same_close owner pairs k.key named)) kq.knotes held.0))
      (filter-same (λ key. not (is_closed owner own key)) (λ key. not (is_closed owner pairs key)) kq.queue
      (All-weaker (λ key. IsNumbered ns key.filter key.ident) (λ key. not (is_closed owner own key) ≡ not (is_closed owner pairs key))
      (λ key named. ap not (same_close owner pairs key named)) kq.queue held.1))

  pub closed-none : (owner : ℕ) (kq : Kqueue h) → closed owner [] kq ≡ kq
  unfolding closed
  closed-none owner kq =
      ap₂ kqueue_with
      (filter-all (λ (k : Knote h). not (is_closed owner [] k.key)) kq.knotes
      (all-where (λ (k : Knote h). not (is_closed owner [] k.key)) (λ k. not_from_false _ (and_right (watches_number k.key.filter) false refl)) kq.knotes))
      (filter-all (λ key. not (is_closed owner [] key)) kq.queue
      (all-where (λ key. not (is_closed owner [] key)) (λ key. not_from_false _ (and_right (watches_number key.filter) false refl)) kq.queue))

  -- ---- hints

  is_named : (watched : Option Target) → ((t : Target) → watched ≡ Some t → ns.target t ≡ true) → (t : Target) → is_target watched t ≡ true
      → ns.target t ≡ true
  unfolding is_target
  is_named None named t is = absurd (false≢true is)
  is_named (Some watched) named t is = subst (λ x. ns.target x ≡ true) (same_target watched t is) (named watched refl)

  hints-own : (posted : List Posted) (k : Knote h) → HasSubject (IsReferred ns) k → hints_for k (own_hints ns posted) ≡ hints_for k posted
  hints-own posted k named =
      ap (λ (ps : List Posted). filter (takes k.key.filter) (map (λ (p : Posted). p.1) ps))
      (filter-weaker (λ (p : Posted). is_target k.target p.0) (λ (p : Posted). ns.target p.0) (λ p is. is_named k.target named.1 p.0 is) posted)

  knotes-own : (views : Views) (posted : List Posted) (ks : List (Knote h)) → Are ks
      → knotes_alerted views (own_hints ns posted) ks ≡ knotes_alerted views posted ks
  unfolding knotes_alerted
  knotes-own views posted [] all = refl
  knotes-own views posted (k ∷ ks) all =
      ap₂ (λ hints rest. if_there (alerted views hints k) ++ rest) (hints-own posted k (All-head (HasSubject (IsReferred ns)) k ks all))
      (knotes-own views posted ks (All-tail (HasSubject (IsReferred ns)) k ks all))

  queue-own : (views : Views) (posted : List Posted) (ks : List (Knote h)) (queue : List Key) → Are ks
      → queue_after_all views (own_hints ns posted) ks queue ≡ queue_after_all views posted ks queue
  unfolding queue_after_all
  queue-own views posted [] queue all = refl
  queue-own views posted (k ∷ ks) queue all =
      ap (λ hints. queue_after_all views (own_hints ns posted) ks (queue_alerted views hints k queue))
      (hints-own posted k (All-head (HasSubject (IsReferred ns)) k ks all))
      ∙ queue-own views posted ks (queue_alerted views (hints_for k posted) k queue) (All-tail (HasSubject (IsReferred ns)) k ks all)

  pub notified-own : (views : Views) (posted : List Posted) (kq : Kqueue h) → Are kq.knotes
      → notified views (own_hints ns posted) kq ≡ notified views posted kq
  unfolding notified
  notified-own views posted kq all =
      ap₂ kqueue_with (knotes-own views posted kq.knotes all) (queue-own views posted kq.knotes kq.queue all)

  knotes-none : (views : Views) (ks : List (Knote h)) → knotes_alerted views [] ks ≡ ks
  unfolding knotes_alerted alerted if_there
  knotes-none views [] = refl
  knotes-none views (k ∷ ks) = ap (λ rest. k ∷ rest) (knotes-none views ks)

  queue-none : (views : Views) (ks : List (Knote h)) (queue : List Key) → queue_after_all views [] ks queue ≡ queue
  unfolding queue_after_all queue_alerted
  queue-none views [] queue = refl
  queue-none views (k ∷ ks) queue = queue-none views ks queue

  pub notified-none : (views : Views) (kq : Kqueue h) → notified views [] kq ≡ kq
  unfolding notified
  notified-none views kq = ap₂ kqueue_with (knotes-none views kq.knotes) (queue-none views kq.knotes kq.queue)

  -- ---- children

  -- where the parent is named, the child is
  abbrev pub IsClosedUnder : Fork → Type 0
  IsClosedUnder f = ns.target (Process f.parent) ≡ true → ns.target (Process f.child) ≡ true

  referred_child : (f : Fork) → IsClosedUnder f → FollowsSubject (IsReferred ns) f
  unfolding watches_number is_timer
  referred_child f closes parent = (
    (λ watches. absurd (false≢true watches)),
    (λ t is. subst (λ x. ns.target x ≡ true) (same_Some (Process f.child) t is) (closes (parent.1 (Process f.parent) refl))),
    (λ timer. absurd (false≢true timer)),
  )

  pub referred_children : (fs : List Fork) → All IsClosedUnder fs → All (FollowsSubject (IsReferred ns)) fs
  referred_children fs all = All-weaker IsClosedUnder (FollowsSubject (IsReferred ns)) referred_child fs all

  -- a child is no number
  pub numbered_children : (fs : List Fork) → All (FollowsSubject (λ f i t. IsNumbered ns f i)) fs
  unfolding watches_number
  numbered_children [] = All-nil (FollowsSubject (λ f i t. IsNumbered ns f i))
  numbered_children (f ∷ fs) =
      All-cons (FollowsSubject (λ f i t. IsNumbered ns f i)) f fs (λ _ watches. absurd (false≢true watches)) (numbered_children fs)

  -- the knote of a process that is not named follows nobody, since it is not there
  unnamed-heir : (f : Fork) (ks : List (Knote h)) (parent present : Option (Knote h)) → find_knote (process_key f.parent) ks ≡ parent
      → IfIs h (IsReferred ns) parent → ns.target (Process f.parent) ≡ false → heir f parent present ≡ None
  unfolding heir
  unnamed-heir f ks (Some k) None found has unnamed =
      by_test (λ b. cond b (Some (child_knote f k)) None ≡ None) (follows f.parent k)
      (λ does. absurd (false≢true (sym unnamed ∙ has.1 (Process f.parent) (watched_is k.target (Process f.parent) (and_parts _ _ does).0))))
      (λ _. refl)
  unnamed-heir f ks None present found has unnamed = refl
  unnamed-heir f ks (Some k) (Some x) found has unnamed = refl

  unnamed-fork : (f : Fork) (kq : Kqueue h) → Are kq.knotes → ns.target (Process f.parent) ≡ false → followed_each (f ∷ []) kq ≡ kq
  unfolding followed_each with_heir
  unnamed-fork f kq all unnamed =
      ap (λ n. with_heir n kq) (unnamed-heir f kq.knotes (find_knote (process_key f.parent) kq.knotes) (find_knote (process_key f.child) kq.knotes) refl
      (find_knote-subject h (IsReferred ns) (process_key f.parent) kq.knotes all) unnamed)

  unnamed-forks : (t : Target) (hint : Hint) (kq : Kqueue h) → Are kq.knotes → ns.target t ≡ false → followed_each (forks_of t hint) kq ≡ kq
  unfolding forks_of followed_each
  unnamed-forks (Process pid) (Child child) kq all unnamed = unnamed-fork (record { parent = pid; child = child }) kq all unnamed
  unnamed-forks _ _ kq all unnamed = refl

  each-own : (posted : List Posted) (kq : Kqueue h) → Are kq.knotes → All IsClosedUnder (all_forks posted)
      → followed_each (all_forks (own_hints ns posted)) kq ≡ followed_each (all_forks posted) kq
  unfolding all_forks
  each-own [] kq all closes = refl
  each-own (p ∷ posted) kq all closes =
      let first = forks_of p.0 p.1 in
      let rest = All-right IsClosedUnder first (all_forks posted) closes in
      by_test (λ b. ns.target p.0 ≡ b → followed_each (all_forks (cond b (p ∷ own_hints ns posted) (own_hints ns posted))) kq
      ≡ followed_each (first ++ all_forks posted) kq) (ns.target p.0)
      (λ _ _. each-append first (all_forks (own_hints ns posted)) kq
      ∙ each-own posted (followed_each first kq)
      (followed_each-subjects h (IsReferred ns) first kq (referred_children first (All-left IsClosedUnder first (all_forks posted) closes)) all) rest
      ∙ sym (each-append first (all_forks posted) kq))
      (λ _ unnamed. each-own posted kq all rest
      ∙ sym (each-append first (all_forks posted) kq ∙ ap (followed_each (all_forks posted)) (unnamed-forks p.0 p.1 kq all unnamed)))
      refl

  pub followed-own : (version : ℕ) (posted : List Posted) (kq : Kqueue h) → Are kq.knotes → All IsClosedUnder (forks_in version posted)
      → followed version (own_hints ns posted) kq ≡ followed version posted kq
  followed-own version posted kq all closes =
      by_test (λ b. All IsClosedUnder (cond b [] (all_forks posted))
      → followed_each (cond b [] (all_forks (own_hints ns posted))) kq ≡ followed_each (cond b [] (all_forks posted)) kq) (eqb version 1)
      (λ _ _. refl) (λ _ given. each-own posted kq all given) closes

  pub followed-none : (version : ℕ) (kq : Kqueue h) → followed version [] kq ≡ kq
  unfolding all_forks followed_each
  followed-none version kq = by_test (λ b. followed_each (cond b [] []) kq ≡ kq) (eqb version 1) (λ _. refl) (λ _. refl)

  -- ---- the clock, where no knote is a TIMER

  abbrev IsNoTimer : Knote h → Type 0
  IsNoTimer k = is_timer k.key.filter ≡ false

  stays_at : (moment : ℕ) (k : Knote h) → IsNoTimer k → rung_at timers moment k ≡ k
  stays_at moment k none = ap (λ b. cond b (expired k) k) (and_left (is_timer k.key.filter) _ none)

  all_stay : (moment : ℕ) (ks : List (Knote h)) → All IsNoTimer ks → map (rung_at timers moment) ks ≡ ks
  all_stay moment [] none = refl
  all_stay moment (k ∷ ks) none =
      ap₂ (λ x xs. x ∷ xs) (stays_at moment k (All-head IsNoTimer k ks none)) (all_stay moment ks (All-tail IsNoTimer k ks none))

  queue_stays : (moment : ℕ) (ks : List (Knote h)) (queue : List Key) → All IsNoTimer ks → queue_at timers moment ks queue ≡ queue
  unfolding queue_at
  queue_stays moment [] queue none = refl
  queue_stays moment (k ∷ ks) queue none =
      ap (λ b. queue_at timers moment ks (cond b (queue ++ k.key ∷ []) queue))
      (and_left (expires_at k moment) (is_fresh timers queue k) (and_left (is_timer k.key.filter) _ (All-head IsNoTimer k ks none)))
      ∙ queue_stays moment ks queue (All-tail IsNoTimer k ks none)

  abbrev waiting_with : List (Knote h) → List Key → Waiting (Knote h) Key
  waiting_with items queue = record { items = items; queue = queue }

  moment_stays : (moment : ℕ) (w : Waiting (Knote h) Key) → All IsNoTimer w.items
      → waiting_with (map (rung_at timers moment) w.items) (queue_at timers moment w.items w.queue) ≡ w
  moment_stays moment w none = ap₂ waiting_with (all_stay moment w.items none) (queue_stays moment w.items w.queue none)

  walk_stays : (from n : ℕ) (w : Waiting (Knote h) Key) → All IsNoTimer w.items → walked timers from n w ≡ w
  unfolding walked
  walk_stays from zero w none = refl
  walk_stays from (suc n) w none =
      ap (λ (v : Waiting (Knote h) Key). waiting_with (map (rung_at timers (from + suc n)) v.items) (queue_at timers (from + suc n) v.items v.queue)) (walk_stays from n w none)
      ∙ moment_stays (from + suc n) w none

  pub clock_stays : (span : Option Span) (kq : Kqueue h) → All IsNoTimer kq.knotes → clocked span kq ≡ kq
  unfolding clocked clock_from
  clock_stays None kq none = refl
  clock_stays (Some span) kq none = ap kqueue_of_waiting (walk_stays span.from (span.to - span.from) (waiting_of kq) none)

  pub clocked-none : (kq : Kqueue h) → clocked None kq ≡ kq
  unfolding clocked
  clocked-none kq = refl

  pub clocked-own : (span : Option Span) (kq : Kqueue h) → Are kq.knotes → clocked (own_clock ns span) kq ≡ clocked span kq
  clocked-own span kq all =
      by_test (λ b. clocked (cond b span None) kq ≡ clocked span kq) ns.timer (λ _. refl)
      (λ fails. clocked-none kq ∙ sym (clock_stays span kq
      (All-weaker (HasSubject (IsReferred ns)) IsNoTimer
      (λ k named. false_from_ne_true (is_timer k.key.filter) (λ is. both_ways ns.timer fails (named.2 is))) kq.knotes all)))
