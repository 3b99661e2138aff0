-- Closes, hints and the clock commute with a change of how what was heard is kept.
use Rattle.std.proofs.Common.{◌≡◌, ℕ, zero, suc, ◌+◌, ◌-◌, Bool, true, false, cond, not, ◌&&◌, ◌||◌, List, [], ◌∷◌, ◌++◌, map, filter, Option, Some, None, eqb, refl, sym, ap, ◌∙◌, subst}
use Rattle.std.proofs.lemmas.List.{map-append}
use Rattle.std.proofs.lemmas.Bool.{true≢false}
use Rattle.std.specs.Int.RustNames.{bit_and}
use Rattle.std.specs.List.{list_any}
use Rattle.std.specs.Option.{is_none, option_map}
use Rattle.kq_model.specs.declared.filter.Filter.{Filter}
use Rattle.kq_model.specs.declared.filter.Filter.TheVariants.{Read, Write, Vnode, Proc, Signal}
use Rattle.kq_model.specs.declared.key.Key.{Key}
use Rattle.kq_model.specs.declared.object.Hint.{Hint}
use Rattle.kq_model.specs.declared.object.Hint.TheVariants.{Readable, Writable, Note, Delivered, Child}
use Rattle.kq_model.specs.ChangedKnote.{activated}
use Rattle.kq_model.specs.Clock.{Span, timers, expires_at, expired, waiting_of, kqueue_of_waiting, clock_from, clocked}
use Rattle.kq_model.specs.Close.{Pair, is_closed, closed}
use Rattle.kq_model.specs.Following.{Fork, process_key, follows, child_knote, heir, with_heir, heir_in, forks_in, followed_each, followed}
use Rattle.kq_model.specs.Hearing.{Hearing}
use Rattle.kq_model.specs.Hints.{takes, kept, is_exit, hints_for, added, heard_by, hears_exit, unless_silent, alerted, if_there, knotes_alerted, queue_with, queue_alerted, queue_after_all, notified}
use Rattle.kq_model.specs.Alerting.{after_hint, is_done}
use Rattle.kq_model.specs.Knote.{Knote, find_knote, has_nothing}
use Rattle.kq_model.specs.Kqueue.{Kqueue}
use Rattle.kq_model.specs.Look.{look}
use Rattle.kq_model.specs.Registration.{queue_for}
use Rattle.kq_model.specs.Recast.{IsHearingMap, recast, recast_kqueue}
use Rattle.kq_model.specs.Targets.{Posted}
use Rattle.kq_model.specs.TimerWalk.{Waiting, rung_at, queue_at, moment_step, walked}
use Rattle.kq_model.specs.Views.{Views}
use Rattle.kq_model.proofs.HeardAlong.{AreTaken, taken-filter, added-filter, heard_by-key, after_hint-key, activated-key}
use Rattle.kq_model.proofs.KnoteLaws.{by_test}
use Rattle.kq_model.proofs.RecastKnote.{cond-map, filter-recast, find_knote-recast, activated-recast, look-recast}
use Rattle.kq_model.proofs.RecastRegistration.{queue_for-recast}

module _ {S T : Type 0} {h : Hearing S} {g : Hearing T} {f : Filter → S → T} (is : IsHearingMap h g f) where
  abbrev re : Knote h → Knote g
  re k = recast g f k

  abbrev re_kq : Kqueue h → Kqueue g
  re_kq kq = recast_kqueue g f kq

  abbrev kqueue : List (Knote g) → List Key → Kqueue g
  kqueue knotes queue = record { knotes = knotes; queue = queue }

  -- ---- closes

  pub closed-recast : (owner : ℕ) (pairs : List Pair) (kq : Kqueue h) → closed owner pairs (re_kq kq) ≡ re_kq (closed owner pairs kq)
  unfolding closed
  closed-recast owner pairs kq =
      ap (λ ks. kqueue ks (filter (λ key. not (is_closed owner pairs key)) kq.queue))
      (filter-recast is (λ key. not (is_closed owner pairs key)) kq.knotes)

  -- ---- hints

  -- a knote that heard something else
  abbrev hearing : Knote g → T → Knote g
  hearing k s = record k { seen = s }

  -- the filter takes what is kept of a hint
  IfTaken : Filter → Option Hint → Type 0
  IfTaken filter None = Unit {0}
  IfTaken filter (Some hint) = takes filter hint ≡ true

  takes-note : (filter : Filter) (bits other : ℕ) → takes filter (Note bits) ≡ takes filter (Note other)
  unfolding takes
  takes-note Vnode bits other = refl
  takes-note Proc bits other = refl
  takes-note Read bits other = refl
  takes-note Write bits other = refl
  takes-note Signal bits other = refl
  takes-note _ bits other = refl

  kept-taken : (filter : Filter) (wanted : ℕ) (hint : Hint) → takes filter hint ≡ true → IfTaken filter (kept wanted hint)
  unfolding kept IfTaken
  kept-taken filter wanted Readable taken = taken
  kept-taken filter wanted Writable taken = taken
  kept-taken filter wanted Delivered taken = taken
  kept-taken filter wanted (Child pid) taken = tt
  kept-taken filter wanted (Note bits) taken =
      by_test (λ b. IfTaken filter (cond b None (Some (Note (bit_and bits wanted))))) (eqb (bit_and bits wanted) 0)
      (λ _. tt) (λ _. takes-note filter (bit_and bits wanted) bits ∙ taken)

  added-recast : (hint : Option Hint) (k : Knote h) → IfTaken k.key.filter hint → added hint (re k) ≡ re (added hint k)
  unfolding added IfTaken
  added-recast None k taken = refl
  added-recast (Some hint) k taken = ap (hearing (re k)) (sym (is.told k.key.filter hint k.seen taken))

  kept-recast : (hint : Hint) (k : Knote h) → takes k.key.filter hint ≡ true
      → added (kept k.fflags hint) (re k) ≡ re (added (kept k.fflags hint) k)
  kept-recast hint k taken = added-recast (kept k.fflags hint) k (kept-taken k.key.filter k.fflags hint taken)

  -- one hint alone
  pub after_hint-recast : (hint : Hint) (k : Knote h) → after_hint hint (re k) ≡ re (after_hint hint k)
  unfolding after_hint
  after_hint-recast hint k =
      ap (λ (n : Knote g). record n { oneshot = k.oneshot || is_exit k.key.filter hint })
      (by_test (λ b. cond b (added (kept k.fflags hint) (re k)) (re k) ≡ re (cond b (added (kept k.fflags hint) k) k))
      (takes k.key.filter hint) (kept-recast hint k) (λ _. refl))

  -- a PROC knote has something to tell as before
  nothing-recast : (k : Knote h) → k.key.filter ≡ Proc → has_nothing (re k) ≡ has_nothing k
  nothing-recast k proc =
      ap (λ b. is_none k.notice && b) (ap (λ filter. g.is_empty (f filter k.seen)) proc ∙ is.is_empty k.seen)

  -- it alone hears of an exit
  exit-proc : (filter : Filter) (hint : Hint) → is_exit filter hint ≡ true → filter ≡ Proc
  unfolding is_exit
  exit-proc Proc hint exits = refl
  exit-proc _ hint exits = absurd (true≢false (sym exits))

  exits-proc : (filter : Filter) (hints : List Hint) → list_any (is_exit filter) hints ≡ true → filter ≡ Proc
  exits-proc filter [] exits = absurd (true≢false (sym exits))
  exits-proc filter (hint ∷ hints) exits =
      by_test (λ b. b || list_any (is_exit filter) hints ≡ true → filter ≡ Proc) (is_exit filter hint)
      (λ here _. exit-proc filter hint here) (λ _ later. exits-proc filter hints later) exits

  pub is_done-recast : (hint : Hint) (k : Knote h) → is_done hint (re k) ≡ is_done hint k
  unfolding is_done
  is_done-recast hint k =
      let heard = after_hint hint k in
      ap (λ n. is_exit k.key.filter hint && has_nothing n) (after_hint-recast hint k)
      ∙ by_test (λ b. b && has_nothing (re heard) ≡ b && has_nothing heard) (is_exit k.key.filter hint)
      (λ exits. nothing-recast heard (ap (λ (key : Key). key.filter) (after_hint-key hint k) ∙ exit-proc k.key.filter hint exits))
      (λ _. refl)

  heard_by-recast : (hints : List Hint) (k : Knote h) → AreTaken k.key.filter hints → heard_by hints (re k) ≡ re (heard_by hints k)
  unfolding heard_by
  heard_by-recast [] k taken = refl
  heard_by-recast (hint ∷ hints) k taken =
      let same = added-filter (kept k.fflags hint) k in
      ap (heard_by hints) (kept-recast hint k taken.0)
      ∙ heard_by-recast hints (added (kept k.fflags hint) k) (subst (λ (filter : Filter). AreTaken filter hints) (sym same) taken.1)

  unless_silent-recast : (exits : Bool) (k : Knote h) → (exits ≡ true → k.key.filter ≡ Proc) → unless_silent exits (re k) ≡ option_map re (unless_silent exits k)
  unfolding unless_silent
  unless_silent-recast false k proc = refl
  unless_silent-recast true k proc =
      ap (λ b. cond b None (Some (re (record k { oneshot = true })))) (nothing-recast k (proc refl))
      ∙ sym (cond-map (option_map re) (has_nothing k) None (Some (record k { oneshot = true })))

  alerted-recast : (views : Views) (hints : List Hint) (k : Knote h) → AreTaken k.key.filter hints → alerted views hints (re k) ≡ option_map re (alerted views hints k)
  unfolding alerted
  alerted-recast views [] k taken = refl
  alerted-recast views (hint ∷ hints) k taken =
      let all = hint ∷ hints in
      let heard = heard_by all k in
      let exits = hears_exit all k in
      let same : (activated (look views heard) heard).key.filter ≡ k.key.filter = ap (λ (key : Key). key.filter) (activated-key (look views heard) heard ∙ heard_by-key all k) in
      ap (λ n. unless_silent exits (activated (look views n) n)) (heard_by-recast all k taken)
      ∙ ap (λ seen. unless_silent exits (activated seen (re heard))) (look-recast is views heard)
      ∙ ap (unless_silent exits) (activated-recast is (look views heard) heard)
      ∙ unless_silent-recast exits (activated (look views heard) heard) (λ e. same ∙ exits-proc k.key.filter all e)

  -- the hints for a knote are those that its filter takes
  pub told-recast : (views : Views) (posted : List Posted) (k : Knote h)
      → alerted views (hints_for k posted) (re k) ≡ option_map re (alerted views (hints_for k posted) k)
  told-recast views posted k = alerted-recast views (hints_for k posted) k (taken-filter k.key.filter _)

  if_there-recast : (found : Option (Knote h)) → if_there (option_map re found) ≡ map re (if_there found)
  unfolding if_there
  if_there-recast None = refl
  if_there-recast (Some k) = refl

  knotes_alerted-recast : (views : Views) (posted : List Posted) (ks : List (Knote h)) → knotes_alerted views posted (map re ks) ≡ map re (knotes_alerted views posted ks)
  unfolding knotes_alerted
  knotes_alerted-recast views posted [] = refl
  knotes_alerted-recast views posted (k ∷ ks) =
      let found = alerted views (hints_for k posted) k in
      ap (λ n. if_there n ++ knotes_alerted views posted (map re ks)) (told-recast views posted k)
      ∙ ap (λ n. n ++ knotes_alerted views posted (map re ks)) (if_there-recast found)
      ∙ ap (λ rest. map re (if_there found) ++ rest) (knotes_alerted-recast views posted ks)
      ∙ sym (map-append re (if_there found) (knotes_alerted views posted ks))

  queue_with-recast : (key : Key) (found : Option (Knote h)) (queue : List Key) → queue_with key (option_map re found) queue ≡ queue_with key found queue
  unfolding queue_with
  queue_with-recast key None queue = refl
  queue_with-recast key (Some k) queue = queue_for-recast is k queue

  queue_alerted-recast : (views : Views) (hints : List Hint) (k : Knote h) (queue : List Key) → AreTaken k.key.filter hints
      → queue_alerted views hints (re k) queue ≡ queue_alerted views hints k queue
  unfolding queue_alerted
  queue_alerted-recast views [] k queue taken = refl
  queue_alerted-recast views (hint ∷ hints) k queue taken =
      ap (λ n. queue_with k.key n queue) (alerted-recast views (hint ∷ hints) k taken)
      ∙ queue_with-recast k.key (alerted views (hint ∷ hints) k) queue

  queue_after_all-recast : (views : Views) (posted : List Posted) (ks : List (Knote h)) (queue : List Key) → queue_after_all views posted (map re ks) queue ≡ queue_after_all views posted ks queue
  unfolding queue_after_all
  queue_after_all-recast views posted [] queue = refl
  queue_after_all-recast views posted (k ∷ ks) queue =
      ap (queue_after_all views posted (map re ks))
      (queue_alerted-recast views (hints_for k posted) k queue (taken-filter k.key.filter _))
      ∙ queue_after_all-recast views posted ks (queue_alerted views (hints_for k posted) k queue)

  pub notified-recast : (views : Views) (posted : List Posted) (kq : Kqueue h) → notified views posted (re_kq kq) ≡ re_kq (notified views posted kq)
  unfolding notified
  notified-recast views posted kq =
      ap (λ ks. kqueue ks (queue_after_all views posted (map re kq.knotes) kq.queue)) (knotes_alerted-recast views posted kq.knotes)
      ∙ ap (kqueue (map re (knotes_alerted views posted kq.knotes))) (queue_after_all-recast views posted kq.knotes kq.queue)

  -- ---- children

  child_knote-recast : (f : Fork) (k : Knote h) → child_knote f (re k) ≡ re (child_knote f k)
  child_knote-recast f k = ap (hearing (child_knote f (re k))) (sym (is.empty Proc))

  heir-recast : (f : Fork) (parent present : Option (Knote h)) → heir f (option_map re parent) (option_map re present) ≡ option_map re (heir f parent present)
  unfolding heir
  heir-recast f (Some k) None =
      ap (λ n. cond (follows f.parent k) (Some n) None) (child_knote-recast f k)
      ∙ sym (cond-map (option_map re) (follows f.parent k) (Some (child_knote f k)) None)
  heir-recast f None present = refl
  heir-recast f (Some k) (Some x) = refl

  heir_in-recast : (f : Fork) (kq : Kqueue h) → heir_in f (re_kq kq) ≡ option_map re (heir_in f kq)
  heir_in-recast f kq =
      ap (λ k. heir f k (find_knote (process_key f.child) (map re kq.knotes))) (find_knote-recast is (process_key f.parent) kq.knotes)
      ∙ ap (heir f (option_map re (find_knote (process_key f.parent) kq.knotes))) (find_knote-recast is (process_key f.child) kq.knotes)
      ∙ heir-recast f (find_knote (process_key f.parent) kq.knotes) (find_knote (process_key f.child) kq.knotes)

  with_heir-recast : (heir : Option (Knote h)) (kq : Kqueue h) → with_heir (option_map re heir) (re_kq kq) ≡ re_kq (with_heir heir kq)
  unfolding with_heir
  with_heir-recast None kq = refl
  with_heir-recast (Some k) kq =
      ap (λ ks. kqueue ks (queue_for (re k) kq.queue)) (sym (map-append re kq.knotes (k ∷ [])))
      ∙ ap (kqueue (map re (kq.knotes ++ k ∷ []))) (queue_for-recast is k kq.queue)

  followed_each-recast : (fs : List Fork) (kq : Kqueue h) → followed_each fs (re_kq kq) ≡ re_kq (followed_each fs kq)
  unfolding followed_each
  followed_each-recast [] kq = refl
  followed_each-recast (f ∷ fs) kq =
      ap (λ n. followed_each fs (with_heir n (re_kq kq))) (heir_in-recast f kq)
      ∙ ap (followed_each fs) (with_heir-recast (heir_in f kq) kq)
      ∙ followed_each-recast fs (with_heir (heir_in f kq) kq)

  pub followed-recast : (version : ℕ) (posted : List Posted) (kq : Kqueue h) → followed version posted (re_kq kq) ≡ re_kq (followed version posted kq)
  followed-recast version posted kq = followed_each-recast (forks_in version posted) kq

  -- ---- the clock

  expired-recast : (k : Knote h) → expired (re k) ≡ re (expired k)
  expired-recast k = ap (hearing (record (re k) { active = true })) (sym (is.expired k.key.filter k.seen))

  rung_at-recast : (moment : ℕ) (ks : List (Knote h)) → map (rung_at timers moment) (map re ks) ≡ map re (map (rung_at timers moment) ks)
  rung_at-recast moment [] = refl
  rung_at-recast moment (k ∷ ks) =
      ap (λ n. cond (expires_at k moment) n (re k) ∷ map (rung_at timers moment) (map re ks)) (expired-recast k)
      ∙ ap (λ n. n ∷ map (rung_at timers moment) (map re ks)) (sym (cond-map re (expires_at k moment) (expired k) k))
      ∙ ap (λ rest. re (rung_at timers moment k) ∷ rest) (rung_at-recast moment ks)

  queue_at-recast : (moment : ℕ) (ks : List (Knote h)) (queue : List Key) → queue_at timers moment (map re ks) queue ≡ queue_at timers moment ks queue
  unfolding queue_at
  queue_at-recast moment [] queue = refl
  queue_at-recast moment (k ∷ ks) queue = queue_at-recast moment ks _

  abbrev re_waiting : Waiting (Knote h) Key → Waiting (Knote g) Key
  re_waiting w = record { items = map re w.items; queue = w.queue }

  abbrev waiting : List (Knote g) → List Key → Waiting (Knote g) Key
  waiting items queue = record { items = items; queue = queue }

  moment_step-recast : (moment : ℕ) (w : Waiting (Knote h) Key) → moment_step timers moment (re_waiting w) ≡ re_waiting (moment_step timers moment w)
  moment_step-recast moment w =
      ap (λ items. waiting items (queue_at timers moment (map re w.items) w.queue)) (rung_at-recast moment w.items)
      ∙ ap (waiting (map re (map (rung_at timers moment) w.items))) (queue_at-recast moment w.items w.queue)

  walked-recast : (from n : ℕ) (w : Waiting (Knote h) Key) → walked timers from n (re_waiting w) ≡ re_waiting (walked timers from n w)
  unfolding walked
  walked-recast from zero w = refl
  walked-recast from (suc n) w =
      ap (moment_step timers (from + suc n)) (walked-recast from n w) ∙ moment_step-recast (from + suc n) (walked timers from n w)

  pub clocked-recast : (span : Option Span) (kq : Kqueue h) → clocked span (re_kq kq) ≡ re_kq (clocked span kq)
  unfolding clocked clock_from
  clocked-recast None kq = refl
  clocked-recast (Some span) kq = ap kqueue_of_waiting (walked-recast span.from (span.to - span.from) (waiting_of kq))
