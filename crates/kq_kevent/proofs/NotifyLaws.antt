-- A walk from hinted knote to hinted knote, each of which notices its hints, comes to the definition of a record's hints.
use Rattle.std.proofs.Common.{◌≡◌, ℕ, ◌+◌, ◌<◌, ◌≤◌, Bool, true, false, cond, ◌||◌, List, [], ◌∷◌, ◌++◌, map, filter, length, Option, Some, None, slice_get, append_assoc, refl, sym, ap, ap₂, ◌∙◌, subst, arith}
use Rattle.std.proofs.lemmas.Bool.{true≢false}
use Rattle.std.proofs.lemmas.Option.{none-some, same_Some}
use Rattle.std.specs.List.{list_any}
use Rattle.kq_model.specs.declared.key.Key.{Key}
use Rattle.kq_model.specs.declared.object.Hint.{Hint}
use Rattle.kq_model.specs.Hints.{takes, hints_for, alerted, if_there, knotes_alerted, queue_with, queue_alerted, queue_after_all, notified}
use Rattle.kq_model.specs.Knote.{find_knote, with_knote, without_knote}
use Rattle.kq_model.specs.Kqueue.{HaveOwnKeys}
use Rattle.kq_model.specs.Alerting.{with_alerted, alerted_in, alerted_at}
use Rattle.kq_model.specs.Tallied.{Knote, Kqueue}
use Rattle.kq_model.specs.Targets.{Posted, is_target}
use Rattle.kq_model.specs.Views.{Views}
use Rattle.kq_model.proofs.KeyLaws.{key_eq-refl}
use Rattle.kq_model.proofs.KnoteLaws.{by_test, find_knote-head, find_knote-tail}
use Rattle.kq_model.proofs.KnoteMiddle.{apart-middle, found-middle, with-middle, without-middle, HasKey, alerted-key}
use Rattle.kq_knote.specs.Index.{behind, first_hinted, hinted_keys, is_hinted, IsHinted}
use Rattle.kq_knote.proofs.IndexLaws.{with_key, keys-cons}
use Rattle.kq_knote.proofs.WalkLaws.{after, after-middle, first-cons, nothing_left, walk-none}
use Rattle.kq_table.specs.Rows.{rows_behind}
use Rattle.kq_kevent.proofs.RingWalk.{split_ahead}
use Rattle.kq_kevent.proofs.TurnLaws.{kqueue_of}

-- ---- knotes that no hint is for

unhinted : {A : Type 0} (p : A → Bool) (xs : List A) → list_any p xs ≡ false → filter p xs ≡ []
unhinted p [] none = refl
unhinted p (x ∷ xs) none =
    by_test (λ b. b || list_any p xs ≡ false → cond b (x ∷ filter p xs) (filter p xs) ≡ []) (p x)
    (λ _ e. absurd (true≢false e)) (λ _ e. unhinted p xs e) none

silent : (posted : List Posted) (k : Knote) → is_hinted posted k ≡ false → hints_for k posted ≡ []
silent posted k none =
    ap (λ ps. filter (takes k.key.filter) (map (λ (p : Posted). p.1) ps)) (unhinted (λ (p : Posted). is_target k.target p.0) posted none)

module _ (views : Views) (posted : List Posted) where
  abbrev alerting : List Knote → List Knote
  alerting ks = knotes_alerted views posted ks

  abbrev queue_after : List Knote → List Key → List Key
  queue_after ks queue = queue_after_all views posted ks queue

  skip-knotes : (k : Knote) (ks : List Knote) → is_hinted posted k ≡ false → alerting (k ∷ ks) ≡ k ∷ alerting ks
  unfolding knotes_alerted alerted if_there
  skip-knotes k ks none = ap (λ hints. if_there (alerted views hints k) ++ alerting ks) (silent posted k none)

  skip-queue : (k : Knote) (ks : List Knote) (queue : List Key) → is_hinted posted k ≡ false → queue_after (k ∷ ks) queue ≡ queue_after ks queue
  unfolding queue_after_all queue_alerted
  skip-queue k ks queue none = ap (λ hints. queue_after ks (queue_alerted views hints k queue)) (silent posted k none)

  quiet : (ks : List Knote) (queue : List Key) → None ≡ first_hinted posted ks → (alerting ks ≡ ks) × (queue_after ks queue ≡ queue)
  unfolding knotes_alerted queue_after_all
  quiet [] queue none = (refl, refl)
  quiet (k ∷ ks) queue none =
      by_test (λ b. is_hinted posted k ≡ b → None ≡ cond b (Some k.key) (first_hinted posted ks) → (alerting (k ∷ ks) ≡ k ∷ ks) × (queue_after (k ∷ ks) queue ≡ queue)) (is_hinted posted k)
      (λ _ _ e. absurd (none-some k.key e))
      (λ _ off e. let rest = quiet ks queue e in
      (skip-knotes k ks off ∙ ap (λ more. k ∷ more) rest.0, skip-queue k ks queue off ∙ rest.1))
      refl (none ∙ first-cons posted k ks)

  -- ---- the next one

  record IsNext (key : Key) (ahead : List Knote) : Type 0 where
    skipped : List Knote
    here : Knote
    rest : List Knote
    parts : ahead ≡ skipped ++ here ∷ rest
    hinted : is_hinted posted here ≡ true
    key_is : key ≡ here.key
    knotes : alerting ahead ≡ skipped ++ alerting (here ∷ rest)
    queue : (q : List Key) → queue_after ahead q ≡ queue_after (here ∷ rest) q
    keys : hinted_keys posted ahead ≡ key ∷ hinted_keys posted rest
    shorter : length rest < length ahead

  split-next : (key : Key) (ahead : List Knote) → Some key ≡ first_hinted posted ahead → IsNext key ahead
  split-next key [] is = absurd (none-some key (sym is))
  split-next key (k ∷ ks) is =
      by_test (λ b. is_hinted posted k ≡ b → Some key ≡ cond b (Some k.key) (first_hinted posted ks) → IsNext key (k ∷ ks)) (is_hinted posted k)
      (λ _ on e. record {
        skipped = [];
        here = k;
        rest = ks;
        parts = refl;
        hinted = on;
        key_is = same_Some key k.key e;
        knotes = refl;
        queue = λ q. refl;
        keys = keys-cons (is_hinted posted) k ks ∙ ap (with_key k (hinted_keys posted ks)) on
            ∙ ap (λ (first : Key). first ∷ hinted_keys posted ks) (sym (same_Some key k.key e));
        shorter = omega arith;
      })
      (λ _ off e. let next = split-next key ks e in
      record {
        skipped = k ∷ next.skipped;
        here = next.here;
        rest = next.rest;
        parts = ap (λ more. k ∷ more) next.parts;
        hinted = next.hinted;
        key_is = next.key_is;
        knotes = skip-knotes k ks off ∙ ap (λ more. k ∷ more) next.knotes;
        queue = λ q. skip-queue k ks q off ∙ next.queue q;
        keys = keys-cons (is_hinted posted) k ks ∙ ap (with_key k (hinted_keys posted ks)) off ∙ next.keys;
        shorter = omega (arith, next.shorter);
      })
      refl (is ∙ first-cons posted k ks)

  -- ---- where the walk stands

  -- what is ahead has still to notice its hints, and then the kqueue is the one that is wanted
  pub record IsBefore (wanted : Kqueue) (ahead : List Knote) (kq : Kqueue) : Type 0 where
    pub past : List Knote
    pub knotes : kq.knotes ≡ past ++ ahead
    pub all_knotes : past ++ alerting ahead ≡ wanted.knotes
    pub all_queue : queue_after ahead kq.queue ≡ wanted.queue

  -- this is the first hinted knote of those ahead
  pub record IsAt (wanted : Kqueue) (next : Option Key) (left : ℕ) (kq : Kqueue) : Type 0 where
    pub ahead : List Knote
    pub before : IsBefore wanted ahead kq
    pub next_is : next ≡ first_hinted posted ahead
    pub few : length ahead ≤ left

  -- this is the first of those ahead, whether hinted or not
  pub record IsOver (wanted : Kqueue) (next : Option Knote) (left : ℕ) (kq : Kqueue) : Type 0 where
    pub ahead : List Knote
    pub before : IsBefore wanted ahead kq
    pub next_is : next ≡ slice_get ahead 0
    pub few : length ahead ≤ left

  -- these are all hinted ones of those ahead
  pub record IsAmong (wanted : Kqueue) (keys : List Key) (kq : Kqueue) : Type 0 where
    pub ahead : List Knote
    pub before : IsBefore wanted ahead kq
    pub keys_are : keys ≡ hinted_keys posted ahead

  start : (kq : Kqueue) → IsBefore (notified views posted kq) kq.knotes kq
  unfolding notified
  start kq = record { past = []; knotes = refl; all_knotes = refl; all_queue = refl }

  pub walk-start : (kq : Kqueue) (next : Option Key) (left : ℕ) → next ≡ first_hinted posted kq.knotes → length kq.knotes ≤ left → IsAt (notified views posted kq) next left kq
  walk-start kq next left is few = record { ahead = kq.knotes; before = start kq; next_is = is; few = few }

  pub over-start : (kq : Kqueue) (next : Option Knote) (left : ℕ) → next ≡ slice_get kq.knotes 0 → length kq.knotes ≤ left → IsOver (notified views posted kq) next left kq
  over-start kq next left is few = record { ahead = kq.knotes; before = start kq; next_is = is; few = few }

  pub keys-start : (kq : Kqueue) (keys : List Key) → keys ≡ hinted_keys posted kq.knotes → IsAmong (notified views posted kq) keys kq
  keys-start kq keys are = record { ahead = kq.knotes; before = start kq; keys_are = are }

  finished : (wanted kq : Kqueue) (ahead : List Knote) → IsBefore wanted ahead kq → None ≡ first_hinted posted ahead → kq ≡ wanted
  finished wanted kq ahead before none =
      let still = quiet ahead kq.queue none in
      ap₂ kqueue_of (before.knotes ∙ ap (λ more. before.past ++ more) (sym still.0) ∙ before.all_knotes) (sym still.1 ∙ before.all_queue)

  pub walk-stops : (wanted : Kqueue) (left : ℕ) (kq : Kqueue) → IsAt wanted None left kq → kq ≡ wanted
  walk-stops wanted left kq at = finished wanted kq at.ahead at.before at.next_is

  pub walk-ends : (wanted : Kqueue) (next : Option Key) (left : ℕ) (kq : Kqueue) → left ≤ 0 → IsAt wanted next left kq → kq ≡ wanted
  walk-ends wanted next left kq none at = finished wanted kq at.ahead at.before (nothing_left posted at.ahead (omega (arith, at.few, none)))

  pub over-stops : (wanted : Kqueue) (left : ℕ) (kq : Kqueue) → IsOver wanted None left kq → kq ≡ wanted
  over-stops wanted left kq over = finished wanted kq over.ahead over.before (walk-none posted over.ahead over.next_is)

  pub over-ends : (wanted : Kqueue) (next : Option Knote) (left : ℕ) (kq : Kqueue) → left ≤ 0 → IsOver wanted next left kq → kq ≡ wanted
  over-ends wanted next left kq none over = finished wanted kq over.ahead over.before (nothing_left posted over.ahead (omega (arith, over.few, none)))

  pub keys-end : (wanted kq : Kqueue) → IsAmong wanted [] kq → kq ≡ wanted
  keys-end wanted kq among = finished wanted kq among.ahead among.before (ap (λ keys. slice_get keys 0) among.keys_are)

  -- ---- a step

  behind-middle : (past : List Knote) (k : Knote) (ks : List Knote) → find_knote k.key past ≡ None → behind k.key (past ++ k ∷ ks) ≡ ks
  unfolding rows_behind
  behind-middle [] k ks absent = ap (λ b. cond b ks (behind k.key ks)) (key_eq-refl k.key)
  behind-middle (x ∷ past) k ks absent =
      ap (λ b. cond b (past ++ k ∷ ks) (behind k.key (past ++ k ∷ ks))) (find_knote-head k.key x past absent)
      ∙ behind-middle past k ks (find_knote-tail k.key x past absent)

  module _ (wanted : Kqueue) (all past : List Knote) (k : Knote) (ks : List Knote) (queue : List Key) (parts : all ≡ past ++ k ∷ ks)
      (gone : find_knote k.key past ≡ None) (absent : find_knote k.key ks ≡ None) where
    after-alerted : (o : Option Knote) → HasKey k.key o → past ++ (if_there o ++ alerting ks) ≡ wanted.knotes → queue_after ks (queue_with k.key o queue) ≡ wanted.queue
        → IsBefore wanted ks (with_alerted k o (kqueue_of all queue))
    unfolding with_alerted queue_with if_there
    after-alerted None same knotes queues = record {
      past = past;
      knotes = ap (without_knote k.key) parts ∙ without-middle past k ks gone absent;
      all_knotes = knotes;
      all_queue = queues;
    }
    after-alerted (Some n) same knotes queues = record {
      past = past ++ n ∷ [];
      knotes = ap (with_knote n) parts ∙ with-middle past k n ks same gone absent ∙ sym (append_assoc past (n ∷ []) ks);
      all_knotes = append_assoc past (n ∷ []) (alerting ks) ∙ knotes;
      all_queue = queues;
    }

    after-hints : (hints : List Hint) → past ++ (if_there (alerted views hints k) ++ alerting ks) ≡ wanted.knotes → queue_after ks (queue_alerted views hints k queue) ≡ wanted.queue
        → IsBefore wanted ks (alerted_in views hints k (kqueue_of all queue))
    unfolding alerted_in queue_alerted alerted if_there
    after-hints [] knotes queues = record {
      past = past ++ k ∷ [];
      knotes = parts ∙ sym (append_assoc past (k ∷ []) ks);
      all_knotes = append_assoc past (k ∷ []) (alerting ks) ∙ knotes;
      all_queue = queues;
    }
    after-hints (hint ∷ hints) knotes queues = after-alerted (alerted views (hint ∷ hints) k) (alerted-key views (hint ∷ hints) k) knotes queues

    after-knote : past ++ alerting (k ∷ ks) ≡ wanted.knotes → queue_after (k ∷ ks) queue ≡ wanted.queue
        → IsBefore wanted ks (alerted_in views (hints_for k posted) k (kqueue_of all queue))
    unfolding knotes_alerted queue_after_all
    after-knote knotes queues = after-hints (hints_for k posted) knotes queues

  module _ (wanted : Kqueue) (key : Key) (kq : Kqueue) (own : HaveOwnKeys kq.knotes) (ahead : List Knote) (at : IsBefore wanted ahead kq) (is_next : Some key ≡ first_hinted posted ahead) where
    abbrev next_one : IsNext key ahead
    next_one = split-next key ahead is_next

    abbrev before : List Knote
    before = at.past ++ next_one.skipped

    parts : kq.knotes ≡ before ++ next_one.here ∷ next_one.rest
    parts = at.knotes ∙ ap (λ more. at.past ++ more) next_one.parts ∙ sym (append_assoc at.past next_one.skipped (next_one.here ∷ next_one.rest))

    apart : (find_knote next_one.here.key before ≡ None) × (find_knote next_one.here.key next_one.rest ≡ None)
    apart = apart-middle before next_one.here next_one.rest (subst HaveOwnKeys parts own)

    found : find_knote key kq.knotes ≡ Some next_one.here
    found =
        ap (λ o. find_knote o kq.knotes) next_one.key_is ∙ ap (find_knote next_one.here.key) parts
        ∙ found-middle before next_one.here next_one.rest apart.0

    left_behind : behind key kq.knotes ≡ next_one.rest
    left_behind =
        ap (λ o. behind o kq.knotes) next_one.key_is ∙ ap (behind next_one.here.key) parts
        ∙ behind-middle before next_one.here next_one.rest apart.0

    hinted-here : IsHinted posted key kq.knotes
    hinted-here k here = ap (is_hinted posted) (same_Some k next_one.here (sym here ∙ found)) ∙ next_one.hinted

    goes : (after : Kqueue) → after ≡ alerted_at views posted (find_knote key kq.knotes) kq → IsBefore wanted next_one.rest after
    unfolding alerted_at
    goes after became =
        subst (λ (q : Kqueue). IsBefore wanted next_one.rest q) (sym (became ∙ ap (λ o. alerted_at views posted o kq) found))
        (after-knote wanted kq.knotes before next_one.here next_one.rest kq.queue parts apart.0 apart.1
        (append_assoc at.past next_one.skipped (alerting (next_one.here ∷ next_one.rest)) ∙ ap (λ more. at.past ++ more) (sym next_one.knotes) ∙ at.all_knotes)
        (sym (next_one.queue kq.queue) ∙ at.all_queue))

  pub walk-hinted : (wanted : Kqueue) (key : Key) (left : ℕ) (kq : Kqueue) → HaveOwnKeys kq.knotes → IsAt wanted (Some key) left kq → IsHinted posted key kq.knotes
  walk-hinted wanted key left kq own at = hinted-here wanted key kq own at.ahead at.before at.next_is

  pub walk-goes : (wanted : Kqueue) (key : Key) (left : ℕ) (kq : Kqueue) → HaveOwnKeys kq.knotes → IsAt wanted (Some key) left kq → (next : Option Key) (fewer : ℕ) (after : Kqueue) → left ≤ fewer + 1
      → next ≡ first_hinted posted (behind key kq.knotes) → after ≡ alerted_at views posted (find_knote key kq.knotes) kq → IsAt wanted next fewer after
  walk-goes wanted key left kq own at next fewer after less is became =
      let one = split-next key at.ahead at.next_is in
      record {
        ahead = one.rest;
        before = goes wanted key kq own at.ahead at.before at.next_is after became;
        next_is = is ∙ ap (first_hinted posted) (left_behind wanted key kq own at.ahead at.before at.next_is);
        few = omega (arith, one.shorter, at.few, less);
      }

  pub over-goes : (wanted : Kqueue) (k : Knote) (left : ℕ) (kq : Kqueue) → HaveOwnKeys kq.knotes → IsOver wanted (Some k) left kq → (next : Option Knote) (fewer : ℕ) (became : Kqueue) → left ≤ fewer + 1
      → next ≡ after k.key kq.knotes → became ≡ alerted_at views posted (find_knote k.key kq.knotes) kq → IsOver wanted next fewer became
  unfolding alerted_at
  over-goes wanted k left kq own over next fewer became less goes is =
      let split = split_ahead over.ahead k over.next_is in
      let past = over.before.past in
      let parts = over.before.knotes ∙ ap (λ more. past ++ more) split.is in
      let apart = apart-middle past k split.rest (subst HaveOwnKeys parts own) in
      let found = ap (find_knote k.key) parts ∙ found-middle past k split.rest apart.0 in
      record {
        ahead = split.rest;
        before = subst (λ (q : Kqueue). IsBefore wanted split.rest q) (sym (is ∙ ap (λ o. alerted_at views posted o kq) found))
            (after-knote wanted kq.knotes past k split.rest kq.queue parts apart.0 apart.1
            (ap (λ ks. past ++ alerting ks) (sym split.is) ∙ over.before.all_knotes) (ap (λ ks. queue_after ks kq.queue) (sym split.is) ∙ over.before.all_queue));
        next_is = goes ∙ ap (after k.key) parts ∙ after-middle past k split.rest apart.0;
        few = omega (arith, over.few, less, ap (length {A = Knote}) split.is);
      }

  abbrev behind_first : List Key → List Key
  behind_first [] = []
  behind_first (key ∷ keys) = keys

  pub keys-go : (wanted : Kqueue) (key : Key) (keys : List Key) (kq : Kqueue) → HaveOwnKeys kq.knotes → IsAmong wanted (key ∷ keys) kq
      → (after : Kqueue) → after ≡ alerted_at views posted (find_knote key kq.knotes) kq → IsAmong wanted keys after
  keys-go wanted key keys kq own among after became =
      let first : Some key ≡ first_hinted posted among.ahead = ap (λ ks. slice_get ks 0) among.keys_are in
      let one = split-next key among.ahead first in
      record {
        ahead = one.rest;
        before = goes wanted key kq own among.ahead among.before first after became;
        keys_are = ap behind_first (among.keys_are ∙ one.keys);
      }
