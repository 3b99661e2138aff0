-- Alarms, and the knotes that they are of.
use Rattle.std.proofs.Common.{◌≡◌, ℕ, zero, suc, ◌+◌, ◌-◌, ◌<◌, ◌≤◌, Bool, true, false, cond, not, leb, List, [], ◌∷◌, ◌++◌, ◌⊎◌, inl, inr, Some, refl, sym, ap, ◌∙◌, subst, arith}
use Rattle.std.proofs.lemmas.Bool.{cases_lt, leb-true, true≢false, and_parts, cond_both}
use Rattle.std.proofs.lemmas.List.Elements.{All-contains, All-cons, All-nil, Contains-append_cases}
use Rattle.std.proofs.lemmas.List.Sorted.{Contains-permutation}
use Rattle.std.proofs.lemmas.Option.{none-some, same_Some}
use Rattle.std.specs.List.{All, AllByRecursion, Contains}
use Rattle.std.specs.List.Sorted.{IsPermutation}
use Rattle.kq_alarm.specs.Armed.{Entry, HasAlarm, entry_of}
use Rattle.kq_alarm.specs.declared.alarm.Alarm.{Alarm}
use Rattle.kq_model.specs.declared.filter.Filter.{Filter}
use Rattle.kq_model.specs.declared.filter.Filter.TheVariants.{Timer}
use Rattle.kq_model.specs.declared.key.Key.{Key}
use Rattle.kq_model.specs.Clock.{expires_at, ticking}
use Rattle.kq_model.specs.Tallying.{tallying}
use Rattle.kq_model.specs.Knote.{key_eq, find_knote, with_knote, without_knote, is_timer}
use Rattle.kq_model.specs.Kqueue.{HaveOwnKeys}
use Rattle.kq_model.specs.Tallied.{Knote}
use Rattle.kq_model.specs.Ticks.{last_moment, expires}
use Rattle.kq_model.specs.NextTicks.{first_passing, next_tick}
use Rattle.kq_model.specs.WalkedAtOnce.{IsFirstPassing}
use Rattle.kq_model.proofs.KeyLaws.{same_key, key_eq-refl}
use Rattle.kq_model.proofs.KnoteLaws.{by_test, find_knote-none, find_knote-here, find_knote-later}
use Rattle.kq_model.proofs.TicksFirst.{next_tick-is}
use Rattle.kq_model.proofs.TimerWalkQueue.{All-like, All-both}
use Rattle.kq_knote.specs.Expiring.{next_of, IsAlarmed, AreAlarmed, AreWaiting, AreKept}
use Rattle.kq_knote.specs.Quiet.{AreQuiet}

-- ---- when a timer expires first

bounded : (test : ℕ → Bool) (from n : ℕ) → first_passing test from n ≤ suc (from + n)
unfolding first_passing
bounded test from zero = omega arith
bounded test from (suc n) =
    cond_both (leb (first_passing test from n) (from + n)) (first_passing test from n) (cond (test (from + suc n)) (from + suc n) (suc (from + suc n))) (λ m. m ≤ suc (from + suc n))
    (λ e. omega (arith, leb-true (first_passing test from n) (from + n) e))
    (λ _. cond_both (test (from + suc n)) (from + suc n) (suc (from + suc n)) (λ m. m ≤ suc (from + suc n)) (λ _. omega arith) (λ _. omega arith))

pub next-bounded : (test : ℕ → Bool) (from : ℕ) → from ≤ last_moment → next_tick test from ≤ last_moment + 1
next-bounded test from begun = omega (arith, begun, bounded test from (last_moment - from))

-- where it does not expire up to a later moment, that is also its first one after that
pub next-same : (test : ℕ → Bool) (since from : ℕ) → since ≤ from → from ≤ last_moment → from < next_tick test since → next_tick test from ≡ next_tick test since
next-same test since from after begun before = by_place (cases_lt (next_tick test from) (next_tick test since)) (cases_lt (next_tick test since) (next_tick test from))
  where
    is : IsFirstPassing test from last_moment (next_tick test from)
    is = next_tick-is test from begun

    was : IsFirstPassing test since last_moment (next_tick test since)
    was = next_tick-is test since (omega (arith, after, begun))

    not_less : next_tick test from < next_tick test since → next_tick test from ≡ next_tick test since
    not_less h =
        let within : next_tick test from ≤ last_moment = omega (arith, h, next-bounded test since (omega (arith, after, begun))) in
        absurd (true≢false (sym (is.passes within) ∙ was.least (next_tick test from) (omega (arith, is.after, after)) h within))

    not_more : next_tick test since < next_tick test from → next_tick test from ≡ next_tick test since
    not_more h =
        let within : next_tick test since ≤ last_moment = omega (arith, h, next-bounded test from begun) in
        absurd (true≢false (sym (was.passes within) ∙ is.least (next_tick test since) before h within))

    by_place : (next_tick test from < next_tick test since) ⊎ (next_tick test since ≤ next_tick test from) → (next_tick test since < next_tick test from) ⊎ (next_tick test from ≤ next_tick test since)
        → next_tick test from ≡ next_tick test since
    by_place (inl h) _ = not_less h
    by_place (inr h) (inl more) = not_more more
    by_place (inr h) (inr less) = omega (arith, h, less)

timer_is : (f : Filter) → is_timer f ≡ true → f ≡ Timer
unfolding is_timer
timer_is Timer is = refl
timer_is _ is = absurd (true≢false (sym is))

-- only a timer expires
pub timer-key : (from : ℕ) (k : Knote) → from ≤ last_moment → next_of from k ≤ last_moment → record { ident = k.key.ident; filter = Timer } ≡ k.key
timer-key from k begun within =
    let passes = (next_tick-is (expires_at k) from begun).passes within in
    let is : is_timer k.key.filter ≡ true = (and_parts (is_timer k.key.filter) (expires k.oneshot (ticking k) (next_of from k)) passes).0 in
    ap (λ (f : Filter). the_key k.key.ident f) (sym (timer_is k.key.filter is))
  where
    the_key : ℕ → Filter → Key
    the_key ident filter = record { ident = ident; filter = filter }

-- ---- of each knote

pub found_all : (ks : List Knote) → HaveOwnKeys ks → AllByRecursion (λ k. find_knote k.key ks ≡ Some k) ks
found_all [] own = tt
found_all (x ∷ ks) own = (
  find_knote-here x.key x ks (key_eq-refl x.key),
  All-like (λ k. find_knote k.key ks ≡ Some k) (λ k. find_knote k.key (x ∷ ks) ≡ Some k)
      (λ k there. find_knote-later k.key x ks (other k there) ∙ there) ks (found_all ks own.1),
)
  where
    other : (k : Knote) → find_knote k.key ks ≡ Some k → key_eq k.key x.key ≡ false
    other k there =
        by_test (λ b. key_eq k.key x.key ≡ b → b ≡ false) (key_eq k.key x.key)
        (λ _ same. absurd (none-some k (sym own.0 ∙ ap (λ key. find_knote key ks) (sym (same_key k.key x.key same)) ∙ there)))
        (λ _ _. refl) refl

pub all-found : (P : Knote → Type 0) (key : Key) (k : Knote) (ks : List Knote) → AllByRecursion P ks → find_knote key ks ≡ Some k → P k
all-found P key k [] all found = absurd (none-some k (sym (find_knote-none tallying key) ∙ found))
all-found P key k (x ∷ ks) all found =
    by_test (λ b. key_eq key x.key ≡ b → P k) (key_eq key x.key)
    (λ _ here. subst P (same_Some x k (sym (find_knote-here key x ks here) ∙ found)) all.0)
    (λ _ apart. all-found P key k ks all.1 (sym (find_knote-later key x ks apart) ∙ found)) refl

-- what holds of each that is found
pub of-each : (P Q : Knote → Type 0) (ks : List Knote) → HaveOwnKeys ks → ((k : Knote) → find_knote k.key ks ≡ Some k → P k → Q k) → AllByRecursion P ks → AllByRecursion Q ks
of-each P Q ks own holds all = All-both (λ k. find_knote k.key ks ≡ Some k) P Q holds ks (found_all ks own) all

-- ---- alarms that come and go

pub popped : (entries rest : List Entry) (a : Alarm) (x : Entry) → IsPermutation entries (entry_of a ∷ rest) → Contains entries x → (entry_of a ≡ x) ⊎ Contains rest x
popped entries rest a x moved here =
    by_place (Contains-append_cases (entry_of a ∷ []) rest x (Contains-permutation entries (entry_of a ∷ rest) x moved here))
  where
    by_place : Contains (entry_of a ∷ []) x ⊎ Contains rest x → (entry_of a ≡ x) ⊎ Contains rest x
    by_place (inl one) =
        inl (All-contains (λ y. entry_of a ≡ y) (entry_of a ∷ []) x (All-cons (λ y. entry_of a ≡ y) (entry_of a) [] refl (All-nil (λ y. entry_of a ≡ y))) one)
    by_place (inr h) = inr h

pub alarmed-kept : (since : ℕ) (before after : List Entry) (ks : List Knote) → AreKept before after → AreAlarmed since before ks → AreAlarmed since after ks
alarmed-kept since before after ks kept all =
    All-like (λ k. IsAlarmed before (next_of since k) k) (λ k. IsAlarmed after (next_of since k) k)
    (λ k h within. kept (entry_of (record { moment = next_of since k; ident = k.key.ident })) (h within)) ks all

module _ (since : ℕ) (entries : List Entry) where
  abbrev IsFine : Knote → Type 0
  IsFine k = IsAlarmed entries (next_of since k) k

  push : (ks : List Knote) (k : Knote) → AreAlarmed since entries ks → IsFine k → AreAlarmed since entries (ks ++ k ∷ [])
  push [] k all here = (here, tt)
  push (x ∷ ks) k all here = (all.0, push ks k all.1 here)

  replace : (k : Knote) (ks : List Knote) → AreAlarmed since entries ks → IsFine k → AreAlarmed since entries (with_knote k ks)
  replace k [] all here = tt
  replace k (x ∷ ks) all here = (
    cond_both (key_eq k.key x.key) k x IsFine (λ _. here) (λ _. all.0),
    replace k ks all.1 here,
  )

  pub alarmed-without : (gone : Key) (ks : List Knote) → AreAlarmed since entries ks → AreAlarmed since entries (without_knote gone ks)
  alarmed-without gone [] all = tt
  alarmed-without gone (x ∷ ks) all =
      cond_both (not (key_eq gone x.key)) (x ∷ without_knote gone ks) (without_knote gone ks) (AreAlarmed since entries)
      (λ _. (all.0, alarmed-without gone ks all.1)) (λ _. alarmed-without gone ks all.1)

  pub alarmed-attached : (before : List Entry) (ks after : List Knote) (k : Knote) (first : ℕ) → AreAlarmed since before ks → AreKept before entries
      → first ≡ next_of since k → (first ≤ last_moment → HasAlarm entries first k.key.ident) → after ≡ ks ++ k ∷ [] → AreAlarmed since entries after
  alarmed-attached before ks after k first all kept is here became =
      subst (AreAlarmed since entries) (sym became)
      (push ks k (alarmed-kept since before entries ks kept all) (subst (λ m. IsAlarmed entries m k) is here))

  pub alarmed-modified : (before : List Entry) (ks after : List Knote) (k : Knote) (first : ℕ) → AreAlarmed since before ks → AreKept before entries
      → first ≡ next_of since k → (first ≤ last_moment → HasAlarm entries first k.key.ident) → after ≡ with_knote k ks → AreAlarmed since entries after
  alarmed-modified before ks after k first all kept is here became =
      subst (AreAlarmed since entries) (sym became)
      (replace k ks (alarmed-kept since before entries ks kept all) (subst (λ m. IsAlarmed entries m k) is here))

-- ---- from one moment to another

-- where no alarm is due up to a moment, they are those of the first expirations after it
pub waiting-start : (since from low : ℕ) (entries : List Entry) (ks : List Knote) → since ≤ from → from ≤ last_moment
    → All (λ (e : Entry). from < e.0.moment) entries → AreAlarmed since entries ks → AreWaiting from low entries ks
waiting-start since from low entries ks after begun later all =
    All-like (λ k. IsAlarmed entries (next_of since k) k) (λ k. low ≤ next_of from k → IsAlarmed entries (next_of from k) k) one ks all
  where
    still_ahead : (k : Knote) → IsAlarmed entries (next_of since k) k → from < next_of since k
    still_ahead k h = by_place (cases_lt from (next_of since k))
      where
        by_place : (from < next_of since k) ⊎ (next_of since k ≤ from) → from < next_of since k
        by_place (inl ahead) = ahead
        by_place (inr past) =
            All-contains (λ (e : Entry). from < e.0.moment) entries (entry_of (record { moment = next_of since k; ident = k.key.ident })) later (h (omega (arith, past, begun)))

    one : (k : Knote) → IsAlarmed entries (next_of since k) k → low ≤ next_of from k → IsAlarmed entries (next_of from k) k
    one k h _ = subst (λ m. IsAlarmed entries m k) (sym (next-same (expires_at k) since from after begun (still_ahead k h))) h

pub waiting-later : (from low high : ℕ) (entries : List Entry) (ks : List Knote) → low ≤ high → AreWaiting from low entries ks → AreWaiting from high entries ks
waiting-later from low high entries ks more waits =
    All-like (λ k. low ≤ next_of from k → IsAlarmed entries (next_of from k) k) (λ k. high ≤ next_of from k → IsAlarmed entries (next_of from k) k)
    (λ k h later. h (omega (arith, later, more))) ks waits

-- none expires before the earliest alarm
pub waiting-none : (from low high : ℕ) (entries : List Entry) (k : Knote) → high ≤ last_moment + 1 → All (λ (e : Entry). high ≤ e.0.moment) entries
    → (low ≤ next_of from k → IsAlarmed entries (next_of from k) k) → low ≤ next_of from k → high ≤ next_of from k
waiting-none from low high entries k within least waits is = by_place (cases_lt last_moment (next_of from k))
  where
    by_place : (last_moment < next_of from k) ⊎ (next_of from k ≤ last_moment) → high ≤ next_of from k
    by_place (inl never) = omega (arith, never, within)
    by_place (inr in_time) =
        All-contains (λ (e : Entry). high ≤ e.0.moment) entries (entry_of (record { moment = next_of from k; ident = k.key.ident })) least (waits is in_time)

pub alarmed-quiet : (since soonest : ℕ) (entries : List Entry) (ks : List Knote) → soonest ≤ last_moment + 1 → All (λ (e : Entry). soonest ≤ e.0.moment) entries
    → AreAlarmed since entries ks → AreQuiet since soonest ks
alarmed-quiet since soonest entries ks within least all =
    All-like (λ k. IsAlarmed entries (next_of since k) k) (λ k. soonest ≤ next_of since k)
    (λ k h. waiting-none since 0 soonest entries k within least (λ _. h) (omega arith)) ks all
