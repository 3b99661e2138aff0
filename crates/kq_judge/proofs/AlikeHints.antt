-- Closes, hints, children that are followed and the clock leave kqueues that are alike so.
use Rattle.std.proofs.Common.{◌≡◌, ℕ, zero, suc, ◌+◌, ◌-◌, Bool, true, false, cond, not, ◌&&◌, List, [], ◌∷◌, ◌++◌, map, filter, Option, Some, None, option_map, refl, sym, ap, ◌∙◌, subst}
use Rattle.std.proofs.lemmas.Bool.{cond_both}
use Rattle.std.specs.Option.{is_some}
use Rattle.std.specs.Prelude.{option_and_then}
use Rattle.kq_model.specs.declared.key.Key.{Key}
use Rattle.kq_model.specs.declared.object.Hint.{Hint}
use Rattle.kq_model.specs.Clock.{Span, timers, expires_at, expired, waiting_of, kqueue_of_waiting, clock_from, clocked}
use Rattle.kq_model.specs.Close.{Pair, is_closed, closed}
use Rattle.kq_model.specs.Following.{Fork, process_key, follows, child_knote, heir, with_heir, heir_in, forks_in, followed_each, followed}
use Rattle.kq_model.specs.Hints.{hints_for, alerted, notified, knotes_alerted}
use Rattle.kq_model.specs.Knote.{key_eq, find_knote}
use Rattle.kq_model.specs.Kqueue.{HaveOwnKeys}
use Rattle.kq_model.specs.Look.{look}
use Rattle.kq_model.specs.Tallied.{Knote, Kqueue}
use Rattle.kq_model.specs.Targets.{Posted}
use Rattle.kq_model.specs.TimerWalk.{rung_at, walked}
use Rattle.kq_model.specs.Views.{Views}
use Rattle.kq_model.proofs.HintLaws.{find_knote-alerting}
use Rattle.kq_model.proofs.KeyLaws.{same_key}
use Rattle.kq_model.proofs.KnoteLaws.{by_test, found_or, find_knote-append, find_knote-here, find_knote-later}
use Rattle.kq_judge.proofs.Alike.{AreAlike, Tells, told, told-so, told-again}
use Rattle.kq_judge.proofs.Telling.{telling, made_active, look-active, look-telling, telling-again, telling-active, alerted-next, is_ready}

-- ---- closes

abbrev if_kept : Bool → Option Knote → Option Knote
if_kept b found = cond b found None

kept-none : (b : Bool) → None ≡ if_kept b None
kept-none true = refl
kept-none false = refl

module _ (keeps : Key → Bool) where
  abbrev kept : List Knote → List Knote
  kept ks = filter (λ (k : Knote). keeps k.key) ks

  find-kept : (key : Key) (ks : List Knote) → find_knote key (kept ks) ≡ if_kept (keeps key) (find_knote key ks)
  unfolding find_knote
  find-kept key [] = kept-none (keeps key)
  find-kept key (x ∷ ks) =
      by_test (λ b. key_eq key x.key ≡ b
      → find_knote key (cond (keeps x.key) (x ∷ kept ks) (kept ks)) ≡ if_kept (keeps key) (cond b (Some x) (find_knote key ks)))
      (key_eq key x.key)
      (λ _ same.
      by_test (λ b. keeps x.key ≡ b → find_knote key (cond b (x ∷ kept ks) (kept ks)) ≡ if_kept (keeps key) (Some x)) (keeps x.key)
      (λ _ on. find_knote-here key x (kept ks) same ∙ sym (ap (λ b. if_kept b (Some x)) (at same ∙ on)))
      (λ _ off. find-kept key ks ∙ ap (λ b. if_kept b (find_knote key ks)) (at same ∙ off)
      ∙ sym (ap (λ b. if_kept b (Some x)) (at same ∙ off))) refl)
      (λ _ apart.
      by_test (λ b. find_knote key (cond b (x ∷ kept ks) (kept ks)) ≡ find_knote key (kept ks)) (keeps x.key)
      (λ _. find_knote-later key x (kept ks) apart) (λ _. refl) ∙ find-kept key ks) refl
    where
      at : key_eq key x.key ≡ true → keeps key ≡ keeps x.key
      at same = ap keeps (same_key key x.key same)

  kept-tells : (views : Views) (b : Bool) → Tells views views (if_kept b)
  kept-tells views true o = told-again views o
  kept-tells views false o = refl

  pub kept-alike : (views : Views) (ks ls : List Knote) → AreAlike views ks ls → AreAlike views (kept ks) (kept ls)
  kept-alike views ks ls alike = record {
    same = λ key.
        ap (told views) (find-kept key ks)
        ∙ told-so views views (if_kept (keeps key)) (kept-tells views (keeps key)) (find_knote key ks) (find_knote key ls) (alike.same key)
        ∙ sym (ap (told views) (find-kept key ls));
  }

pub closed-alike : (views : Views) (owner : ℕ) (pairs : List Pair) (kq lq : Kqueue) → AreAlike views kq.knotes lq.knotes
    → AreAlike views (closed owner pairs kq).knotes (closed owner pairs lq).knotes
unfolding closed
closed-alike views owner pairs kq lq alike =
    kept-alike (λ key. not (is_closed owner pairs key)) views kq.knotes lq.knotes alike

-- ---- hints; each condition that comes to hold is hinted

-- where it holds now and no hint is for it, it held before
abbrev pub IsHinted : Views → List Posted → Views → Knote → Type 0
IsHinted before posted after k =
    hints_for k posted ≡ [] → is_some (look after k) ≡ true → is_some (look before k) ≡ true

abbrev pub AreHinted : Views → List Posted → Views → List Knote → Type 0
AreHinted before posted after ks =
    (key : Key) (k : Knote) → find_knote key ks ≡ Some k → IsHinted before posted after k

module _ (before after : Views) (posted : List Posted) where
  abbrev left : Knote → Option Knote
  left k = alerted after (hints_for k posted) k

  and_held : (a e now was : Bool) → (now ≡ true → was ≡ true) → (a && (e && was)) && (e && now) ≡ a && (e && now)
  and_held true true true true held = refl
  and_held true true true false held = held refl
  and_held true true false true held = refl
  and_held true true false false held = refl
  and_held true false now was held = refl
  and_held false e now was held = refl

  left-tells : (k : Knote) (hints : List Hint) → hints_for k posted ≡ hints → IsHinted before posted after k
      → told after (alerted after hints k) ≡ told after (alerted after hints (telling before k))
  unfolding alerted
  left-tells k [] none hinted =
      ap Some (sym (telling-active after k (k.active && is_ready before k)
      ∙ ap (λ b. made_active b k)
      (and_held k.active k.enabled (is_some (look after k)) (is_some (look before k)) (hinted none))))
  left-tells k (hint ∷ hints) is hinted = sym (alerted-next after hint hints k (k.active && is_ready before k))

  found-tells : (o : Option Knote) → ((k : Knote) → o ≡ Some k → IsHinted before posted after k)
      → told after (option_and_then left o) ≡ told after (option_and_then left (told before o))
  found-tells None hinted = refl
  found-tells (Some k) hinted = left-tells k (hints_for k posted) refl (hinted k refl)

  pub notified-alike : (kq lq : Kqueue) → HaveOwnKeys kq.knotes → HaveOwnKeys lq.knotes
      → AreHinted before posted after kq.knotes → AreHinted before posted after lq.knotes
      → AreAlike before kq.knotes lq.knotes
      → AreAlike after (notified after posted kq).knotes (notified after posted lq).knotes
  unfolding notified
  notified-alike kq lq own other hinted told_so alike = record {
    same = λ key.
        ap (told after) (find_knote-alerting after posted key kq.knotes own)
        ∙ found-tells (find_knote key kq.knotes) (hinted key)
        ∙ ap (λ o. told after (option_and_then left o)) (alike.same key)
        ∙ sym (found-tells (find_knote key lq.knotes) (told_so key))
        ∙ sym (ap (told after) (find_knote-alerting after posted key lq.knotes other));
  }

-- ---- children that are followed: their knotes are made of what differs in none

module _ (views : Views) where
  child-telling : (f : Fork) (k : Knote)
      → cond (follows f.parent k) (Some (child_knote f k)) None
      ≡ cond (follows f.parent (telling views k)) (Some (child_knote f (telling views k))) None
  child-telling f k = refl

  heir-telling : (f : Fork) (parent child : Option Knote) → heir f parent child ≡ heir f (told views parent) (told views child)
  unfolding heir
  heir-telling f (Some k) None = child-telling f k
  heir-telling f None None = refl
  heir-telling f None (Some x) = refl
  heir-telling f (Some k) (Some x) = refl

  heir-same : (f : Fork) (kq lq : Kqueue) → AreAlike views kq.knotes lq.knotes → heir_in f kq ≡ heir_in f lq
  heir-same f kq lq alike =
      heir-telling f (find_knote (process_key f.parent) kq.knotes) (find_knote (process_key f.child) kq.knotes)
      ∙ ap (λ o. heir f o (told views (find_knote (process_key f.child) kq.knotes))) (alike.same (process_key f.parent))
      ∙ ap (heir f (told views (find_knote (process_key f.parent) lq.knotes))) (alike.same (process_key f.child))
      ∙ sym (heir-telling f (find_knote (process_key f.parent) lq.knotes) (find_knote (process_key f.child) lq.knotes))

  more-tells : (x : Option Knote) → Tells views views (λ o. found_or o x)
  more-tells x None = refl
  more-tells x (Some k) = told-again views (Some k)

  with_heir-alike : (x : Option Knote) (kq lq : Kqueue) → AreAlike views kq.knotes lq.knotes
      → AreAlike views (with_heir x kq).knotes (with_heir x lq).knotes
  unfolding with_heir
  with_heir-alike None kq lq alike = alike
  with_heir-alike (Some k) kq lq alike = record {
    same = λ key.
        ap (told views) (find_knote-append key kq.knotes (k ∷ []))
        ∙ told-so views views (λ o. found_or o (find_knote key (k ∷ []))) (more-tells (find_knote key (k ∷ [])))
        (find_knote key kq.knotes) (find_knote key lq.knotes) (alike.same key)
        ∙ sym (ap (told views) (find_knote-append key lq.knotes (k ∷ [])));
  }

  each-alike : (fs : List Fork) (kq lq : Kqueue) → AreAlike views kq.knotes lq.knotes
      → AreAlike views (followed_each fs kq).knotes (followed_each fs lq).knotes
  unfolding followed_each
  each-alike [] kq lq alike = alike
  each-alike (f ∷ fs) kq lq alike =
      each-alike fs (with_heir (heir_in f kq) kq) (with_heir (heir_in f lq) lq)
      (subst (λ (x : Option Knote). AreAlike views (with_heir (heir_in f kq) kq).knotes (with_heir x lq).knotes)
      (heir-same f kq lq alike) (with_heir-alike (heir_in f kq) kq lq alike))

  pub followed-alike : (version : ℕ) (posted : List Posted) (kq lq : Kqueue) → AreAlike views kq.knotes lq.knotes
      → AreAlike views (followed version posted kq).knotes (followed version posted lq).knotes
  followed-alike version posted kq lq alike = each-alike (forks_in version posted) kq lq alike

  -- ---- the clock: what expires is active in both

  module _ (moment : ℕ) where
    abbrev rung : Knote → Knote
    rung k = rung_at timers moment k

    rung-key : (k : Knote) → (rung k).key ≡ k.key
    rung-key k =
        cond_both (expires_at k moment) (expired k) k (λ (x : Knote). x.key ≡ k.key) (λ _. refl) (λ _. refl)

    find-rung : (key : Key) (ks : List Knote) → find_knote key (map rung ks) ≡ option_map rung (find_knote key ks)
    unfolding find_knote
    find-rung key [] = refl
    find-rung key (x ∷ ks) =
        ap (λ (o : Key). cond (key_eq key o) (Some (rung x)) (find_knote key (map rung ks))) (rung-key x)
        ∙ by_test (λ b. cond b (Some (rung x)) (find_knote key (map rung ks)) ≡ option_map rung (cond b (Some x) (find_knote key ks)))
        (key_eq key x.key) (λ _. refl) (λ _. find-rung key ks)

    rung-telling : (k : Knote) → telling views (rung k) ≡ telling views (rung (telling views k))
    rung-telling k =
        by_test (λ b. telling views (cond b (expired k) k) ≡ telling views (cond b (expired (telling views k)) (telling views k)))
        (expires_at k moment) (λ _. refl) (λ _. sym (telling-again views k))

    rung-tells : Tells views views (option_map rung)
    rung-tells None = refl
    rung-tells (Some k) = ap Some (rung-telling k)

    rung-alike : (ks ls : List Knote) → AreAlike views ks ls → AreAlike views (map rung ks) (map rung ls)
    rung-alike ks ls alike = record {
      same = λ key.
          ap (told views) (find-rung key ks)
          ∙ told-so views views (option_map rung) rung-tells (find_knote key ks) (find_knote key ls) (alike.same key)
          ∙ sym (ap (told views) (find-rung key ls));
    }

  walked-alike : (from n : ℕ) (kq lq : Kqueue) → AreAlike views kq.knotes lq.knotes
      → AreAlike views (kqueue_of_waiting (walked timers from n (waiting_of kq))).knotes
      (kqueue_of_waiting (walked timers from n (waiting_of lq))).knotes
  unfolding walked
  walked-alike from zero kq lq alike = alike
  walked-alike from (suc n) kq lq alike =
      rung-alike (from + suc n) (walked timers from n (waiting_of kq)).items (walked timers from n (waiting_of lq)).items
      (walked-alike from n kq lq alike)

  pub clocked-alike : (span : Option Span) (kq lq : Kqueue) → AreAlike views kq.knotes lq.knotes
      → AreAlike views (clocked span kq).knotes (clocked span lq).knotes
  unfolding clocked clock_from
  clocked-alike None kq lq alike = alike
  clocked-alike (Some span) kq lq alike = walked-alike span.from (span.to - span.from) kq lq alike
