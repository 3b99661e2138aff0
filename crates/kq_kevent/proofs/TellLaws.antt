-- A knote that the code tells the hints of a record hears those that are for it.
use Rattle.std.proofs.Common.{◌≡◌, Bool, true, false, cond, ◌&&◌, ◌||◌, List, [], ◌∷◌, map, filter, Option, Some, None, refl, sym, ap, ap₂, ◌∙◌, subst}
use Rattle.std.proofs.lemmas.Bool.{true≢false}
use Rattle.kq_model.specs.declared.filter.Filter.{Filter}
use Rattle.kq_model.specs.declared.object.Hint.{Hint}
use Rattle.kq_model.specs.declared.key.Key.{Key}
use Rattle.kq_model.specs.declared.object.Target.{Target}
use Rattle.kq_model.specs.ChangedKnote.{activated}
use Rattle.kq_model.specs.Hints.{takes, kept, is_exit, added, hints_for}
use Rattle.kq_model.specs.Alerting.{after_hint, is_done}
use Rattle.kq_model.specs.Knote.{has_nothing, find_knote, with_knote}
use Rattle.kq_model.specs.Look.{Seen, look}
use Rattle.kq_model.specs.Alerting.{is_for, heard_along, is_done_along, left_by, with_alerted, alerted_in}
use Rattle.kq_model.specs.Registration.{queue_for, with_removed}
use Rattle.kq_model.specs.Tallied.{Knote, Kqueue}
use Rattle.kq_model.specs.Targets.{Posted, is_target}
use Rattle.kq_model.specs.Views.{Views}
use Rattle.kq_model.proofs.HeardAlong.{after_hint-key, after_hint-target, heard_along-key, heard_along-target, activated-key, activated-target, alerted-told, tally-hears}
use Rattle.kq_model.proofs.KnoteLaws.{by_test, find_knote-key}
use Rattle.kq_kevent.specs.declared.notify.Telling.{Telling}
use Rattle.kq_kevent.specs.Telling.{told_one, told_all, HeardMore, StandsFor}
use Rattle.kq_kevent.proofs.KnoteSteps.{activated-active}
use Rattle.kq_kevent.proofs.TurnLaws.{kqueue_of}

or_false : (b : Bool) → b || false ≡ b
or_false true = refl
or_false false = refl

or_true : (b : Bool) → b || true ≡ true
or_true true = refl
or_true false = refl

or_assoc : (a b c : Bool) → (a || b) || c ≡ a || (b || c)
or_assoc true b c = refl
or_assoc false b c = refl

abbrev is_any : List Hint → Bool
is_any [] = false
is_any (hint ∷ hints) = true

abbrev pub telling : Knote → Bool → Bool → Telling
telling k a d = record { knote = k; any = a; done = d }

-- as it is after it was told these
abbrev told : List Hint → Knote → Bool → Bool → Telling
told hints k a d = telling (heard_along hints k) (a || is_any hints) (d || is_done_along hints k)

abbrev hints_of : Option Target → Filter → List Posted → List Hint
hints_of target f posted = filter (takes f) (map (λ (p : Posted). p.1) (filter (λ (p : Posted). is_target target p.0) posted))

hints-cons : (k : Knote) (p : Posted) (posted : List Posted) → hints_for k (p ∷ posted) ≡ cond (is_for k p) (p.1 ∷ hints_for k posted) (hints_for k posted)
hints-cons k p posted =
    by_test (λ b. filter (takes k.key.filter) (map (λ (q : Posted). q.1) (cond b (p ∷ filter (λ (q : Posted). is_target k.target q.0) posted) (filter (λ (q : Posted). is_target k.target q.0) posted)))
    ≡ cond (b && takes k.key.filter p.1) (p.1 ∷ hints_for k posted) (hints_for k posted)) (is_target k.target p.0)
    (λ _. refl) (λ _. refl)

same-hints : (hint : Hint) (k : Knote) (posted : List Posted) → hints_for (after_hint hint k) posted ≡ hints_for k posted
same-hints hint k posted =
    ap (λ (key : Key). hints_of (after_hint hint k).target key.filter posted) (after_hint-key hint k)
    ∙ ap (λ target. hints_of target k.key.filter posted) (after_hint-target hint k)

told-nothing : (k : Knote) (a d : Bool) → telling k a d ≡ told [] k a d
unfolding heard_along is_done_along
told-nothing k a d = ap₂ (telling k) (sym (or_false a)) (sym (or_false d))

told-hint : (hint : Hint) (hints : List Hint) (k : Knote) (a d : Bool) → told hints (after_hint hint k) true (d || is_done hint k) ≡ told (hint ∷ hints) k a d
unfolding heard_along is_done_along
told-hint hint hints k a d =
    ap₂ (telling (heard_along hints (after_hint hint k))) (sym (or_true a)) (or_assoc d (is_done hint k) (is_done_along hints (after_hint hint k)))

pub told-all : (posted : List Posted) (k : Knote) (a d : Bool) → told_all posted (telling k a d) ≡ told (hints_for k posted) k a d
unfolding told_all told_one
told-all [] k a d = told-nothing k a d
told-all (p ∷ posted) k a d =
    by_test (λ b. told_all posted (cond b (telling (after_hint p.1 k) true (d || is_done p.1 k)) (telling k a d)) ≡ told (cond b (p.1 ∷ hints_for k posted) (hints_for k posted)) k a d) (is_for k p)
    (λ _. told-all posted (after_hint p.1 k) true (d || is_done p.1 k)
    ∙ ap (λ hints. told hints (after_hint p.1 k) true (d || is_done p.1 k)) (same-hints p.1 k posted)
    ∙ told-hint p.1 (hints_for k posted) k a d)
    (λ _. told-all posted k a d)
    ∙ ap (λ hints. told hints k a d) (sym (hints-cons k p posted))

-- ---- what becomes of it

with-same : (k next : Knote) (o : Option Knote) (kq : Kqueue) → next.key ≡ k.key → with_alerted k o kq ≡ with_alerted next o kq
unfolding with_alerted
with-same k next None kq same = ap (λ key. with_alerted (record k { key = key }) None kq) (sym same)
with-same k next (Some n) kq same = refl

-- where it was told something, what became of it; else nothing
pub told-alerted : (views : Views) (posted : List Posted) (kq : Kqueue) (k : Knote) (t : Telling) → t ≡ told_all posted (telling k false false) → t.any ≡ true
    → with_alerted t.knote (left_by views t.done t.knote) kq ≡ alerted_in views (hints_for k posted) k kq
unfolding alerted_in
told-alerted views posted kq k t is any = by (hints_for k posted) refl (is ∙ told-all posted k false false)
  where
    by : (hints : List Hint) → hints_for k posted ≡ hints → t ≡ told hints k false false
        → with_alerted t.knote (left_by views t.done t.knote) kq ≡ alerted_in views hints k kq
    by [] are at = absurd (true≢false (sym any ∙ ap (λ (x : Telling). x.any) at))
    by (hint ∷ hints) are at =
        ap (λ (x : Telling). with_alerted x.knote (left_by views x.done x.knote) kq) at
        ∙ sym (with-same k (heard_along (hint ∷ hints) k) (left_by views (is_done_along (hint ∷ hints) k) (heard_along (hint ∷ hints) k)) kq (heard_along-key (hint ∷ hints) k))
        ∙ ap (λ o. with_alerted k o kq) (sym (alerted-told tally-hears views posted k hint hints are))

pub untold-alerted : (views : Views) (posted : List Posted) (kq : Kqueue) (k : Knote) (t : Telling) → t ≡ told_all posted (telling k false false) → t.any ≡ false
    → kq ≡ alerted_in views (hints_for k posted) k kq
unfolding alerted_in
untold-alerted views posted kq k t is none = by (hints_for k posted) (is ∙ told-all posted k false false)
  where
    by : (hints : List Hint) → t ≡ told hints k false false → kq ≡ alerted_in views hints k kq
    by [] at = refl
    by (hint ∷ hints) at = absurd (true≢false (sym (ap (λ (x : Telling). x.any) at) ∙ none))

-- ---- whose place it takes

added-active : (o : Option Hint) (k : Knote) → (added o k).active ≡ k.active
unfolding added
added-active None k = refl
added-active (Some hint) k = refl

after_hint-active : (hint : Hint) (k : Knote) → (after_hint hint k).active ≡ k.active
unfolding after_hint
after_hint-active hint k =
    by_test (λ b. (cond b (added (kept k.fflags hint) k) k).active ≡ k.active) (takes k.key.filter hint)
    (λ _. added-active (kept k.fflags hint) k) (λ _. refl)

heard_along-active : (hints : List Hint) (k : Knote) → (heard_along hints k).active ≡ k.active
unfolding heard_along
heard_along-active [] k = refl
heard_along-active (hint ∷ hints) k = heard_along-active hints (after_hint hint k) ∙ after_hint-active hint k

pub told-stands : (posted : List Posted) (key : Key) (ks : List Knote) (k : Knote) (t : Telling) → t ≡ told_all posted (telling k false false)
    → find_knote key ks ≡ Some k → StandsFor k t.knote ks
told-stands posted key ks k t is found =
    let hints = hints_for k posted in
    let knote : t.knote ≡ heard_along hints k = ap (λ (x : Telling). x.knote) (is ∙ told-all posted k false false) in
    record {
      there = ap (λ (n : Knote). find_knote n.key ks) knote ∙ ap (λ at. find_knote at ks) (heard_along-key hints k ∙ sym (find_knote-key key ks k found)) ∙ found;
      target = sym (ap (λ (n : Knote). n.target) knote ∙ heard_along-target hints k);
      active = λ idle. sym (ap (λ (n : Knote). n.active) knote ∙ heard_along-active hints k) ∙ idle;
    }

-- only what it heard, and whether it is ONESHOT, may have changed

added-more : (o : Option Hint) (k : Knote) (once : Bool) → HeardMore k (record (added o k) { oneshot = once })
unfolding added
added-more None k once = refl
added-more (Some hint) k once = refl

after_hint-more : (hint : Hint) (k : Knote) → HeardMore k (after_hint hint k)
unfolding after_hint
after_hint-more hint k =
    let once = k.oneshot || is_exit k.key.filter hint in
    by_test (λ b. HeardMore k (record (cond b (added (kept k.fflags hint) k) k) { oneshot = once })) (takes k.key.filter hint)
    (λ _. added-more (kept k.fflags hint) k once) (λ _. refl)

heard_along-more : (hints : List Hint) (k : Knote) → HeardMore k (heard_along hints k)
unfolding heard_along
heard_along-more [] k = refl
heard_along-more (hint ∷ hints) k =
    let last = heard_along hints (after_hint hint k) in
    heard_along-more hints (after_hint hint k)
    ∙ ap (λ (n : Knote). record n { seen = last.seen; oneshot = last.oneshot }) (after_hint-more hint k)

pub told-more : (posted : List Posted) (k : Knote) (t : Telling) → t ≡ told_all posted (telling k false false) → HeardMore k t.knote
told-more posted k t is =
    subst (λ (x : Telling). HeardMore k x.knote) (sym (is ∙ told-all posted k false false)) (heard_along-more (hints_for k posted) k)

pub looked-stands : (seen : Option Seen) (before k next : Knote) (ks : List Knote) → next ≡ activated seen k → StandsFor before k ks → StandsFor before next ks
looked-stands seen before k next ks is stands = record {
  there = ap (λ (n : Knote). find_knote n.key ks) is ∙ ap (λ at. find_knote at ks) (activated-key seen k) ∙ stands.there;
  target = stands.target ∙ sym (ap (λ (n : Knote). n.target) is ∙ activated-target seen k);
  active = λ idle. stands.active (activated-active seen k (sym (ap (λ (n : Knote). n.active) is) ∙ idle));
}

-- ---- gone, or back in its place

-- what is active already is as it is, whatever a look sees
pub activated-already : (seen : Option Seen) (k : Knote) → k.active ≡ true → activated seen k ≡ k
unfolding activated
activated-already None k is = refl
activated-already (Some seen) k is = ap (λ a. record k { active = a }) (sym is)

pub leave-gone : (views : Views) (done : Bool) (told : Knote) (kq : Kqueue) → done ≡ true → has_nothing told ≡ true
    → with_removed told.key kq ≡ with_alerted told (left_by views done told) kq
unfolding with_alerted
leave-gone views done told kq is empty =
    ap₂ (λ a b. with_alerted told (cond (a && b) None (Some (activated (look views told) told))) kq) (sym is) (sym empty)

pub leave-stays : (views : Views) (done : Bool) (told next : Knote) (kq : Kqueue) → done && has_nothing told ≡ false
    → next ≡ activated (look views told) told
    → kqueue_of (with_knote next kq.knotes) (queue_for next kq.queue) ≡ with_alerted told (left_by views done told) kq
unfolding with_alerted
leave-stays views done told next kq stays is =
    ap (λ (n : Knote). kqueue_of (with_knote n kq.knotes) (queue_for n kq.queue)) is
    ∙ ap (λ b. with_alerted told (cond b None (Some (activated (look views told) told))) kq) (sym stays)
