-- Kqueues that are alike: of each key both have a knote with the same to tell, or none. What is pending in one is
-- pending in the other, so the same answers are allowed.
use Rattle.std.proofs.Common.{◌≡◌, ℕ, ◌<◌, Bool, true, false, ◌&&◌, List, [], ◌∷◌, map, length, Option, Some, None, option_map, refl, sym, ap, ◌∙◌, subst}
use Rattle.std.proofs.lemmas.Bool.{and_parts}
use Rattle.std.proofs.lemmas.Option.{none-some, same_Some}
use Rattle.std.specs.Option.{is_some}
use Rattle.kq_model.specs.declared.kevent.Kevent.{Kevent}
use Rattle.kq_model.specs.declared.key.Key.{Key}
use Rattle.kq_model.specs.CallLaws.{Each, key_of_event}
use Rattle.kq_model.specs.Knote.{has_key, find_knote}
use Rattle.kq_model.specs.Kqueue.{IsSound}
use Rattle.kq_model.specs.Look.{Seen, look}
use Rattle.kq_model.specs.Retrieval.{event_flags, event_of}
use Rattle.kq_model.specs.Tallied.{Knote, Kqueue}
use Rattle.kq_model.specs.Views.{Views}
use Rattle.kq_judge.specs.declared.member.Ignored.{Ignored}
use Rattle.kq_judge.specs.Allowed.{IsAllowed}
use Rattle.kq_judge.specs.Judged.{IsRightEvent}
use Rattle.kq_judge.specs.Pending.{IsPending}
use Rattle.kq_judge.proofs.AllowedLaws.{IsComplete, IsRight, allowed-right, right-allowed}
use Rattle.kq_judge.proofs.Telling.{is_ready, telling, look-telling, telling-again}

abbrev pub told : Views → Option Knote → Option Knote
told views o = option_map (telling views) o

pub record AreAlike (views : Views) (ks ls : List Knote) : Type 0 where
  pub same : (key : Key) → told views (find_knote key ks) ≡ told views (find_knote key ls)

pub alike-itself : (views : Views) (ks : List Knote) → AreAlike views ks ks
alike-itself views ks = record { same = λ key. refl }

pub alike-back : (views : Views) (ks ls : List Knote) → AreAlike views ks ls → AreAlike views ls ks
alike-back views ks ls alike = record { same = λ key. sym (alike.same key) }

pub alike-then : (views : Views) (ks ls ms : List Knote) → AreAlike views ks ls → AreAlike views ls ms → AreAlike views ks ms
alike-then views ks ls ms first second = record { same = λ key. first.same key ∙ second.same key }

-- what becomes of a knote is told by what it has to tell
abbrev pub Tells : Views → Views → (Option Knote → Option Knote) → Type 0
Tells before after f = (o : Option Knote) → told after (f o) ≡ told after (f (told before o))

pub told-so : (before after : Views) (f : Option Knote → Option Knote) → Tells before after f → (o p : Option Knote)
    → told before o ≡ told before p → told after (f o) ≡ told after (f p)
told-so before after f tells o p same = tells o ∙ ap (λ x. told after (f x)) same ∙ sym (tells p)

pub told-again : (views : Views) (o : Option Knote) → told views o ≡ told views (told views o)
told-again views None = refl
told-again views (Some k) = ap Some (sym (telling-again views k))

-- ---- what is pending

module _ (views : Views) where
  event-telling : (k : Knote) (seen : Seen) → event_of (telling views k) seen ≡ event_of k seen
  unfolding event_of event_flags
  event-telling k seen = refl

  ready-so : (k : Knote) (seen : Seen) → k.enabled ≡ true → look views k ≡ Some seen → is_ready views k ≡ true
  ready-so k seen enabled holds = ap (λ b. b && is_some (look views k)) enabled ∙ ap is_some holds

  module _ (ls : List Knote) (key : Key) (e : Kevent) (k : Knote) (seen : Seen) (enabled : k.enabled ≡ true) (active : k.active ≡ true)
      (holds : look views k ≡ Some seen) (is : e ≡ event_of k seen) where
    pending-by : (o : Option Knote) → find_knote key ls ≡ o → Some (telling views k) ≡ told views o → IsPending views ls key e
    pending-by None none same = absurd (none-some (telling views k) (sym same))
    pending-by (Some l) found same =
        let one : telling views k ≡ telling views l = same_Some (telling views k) (telling views l) same in
        let told_active : l.active && is_ready views l ≡ true =
        sym (ap (λ (x : Knote). x.active) one) ∙ ap (λ b. b && is_ready views k) active ∙ ready-so k seen enabled holds in
        record {
          knote = l;
          seen = seen;
          found = found;
          enabled = sym (ap (λ (x : Knote). x.enabled) one) ∙ enabled;
          active = (and_parts l.active (is_ready views l) told_active).0;
          holds = sym (look-telling views l) ∙ sym (ap (look views) one) ∙ look-telling views k ∙ holds;
          is = is ∙ sym (event-telling k seen) ∙ ap (λ (x : Knote). event_of x seen) one ∙ event-telling l seen;
        }

  pub pending-alike : (ks ls : List Knote) (key : Key) (e : Kevent) → AreAlike views ks ls → IsPending views ks key e
      → IsPending views ls key e
  pending-alike ks ls key e alike p =
      pending-by ls key e p.knote p.seen p.enabled p.active p.holds p.is (find_knote key ls) refl
      (sym (ap (told views) p.found) ∙ alike.same key)

  -- ---- what is allowed

  module _ (ignored : List Ignored) (ks ls : List Knote) (alike : AreAlike views ks ls) where
    right-each : (own : List Kevent) → Each (IsRightEvent ignored views ks) own → Each (IsRightEvent ignored views ls) own
    right-each [] each = tt
    right-each (e ∷ own) each = (
      record {
        expected = each.0.expected;
        pending = pending-alike ks ls (key_of_event e) each.0.expected alike each.0.pending;
        same = each.0.same;
      },
      right-each own each.1,
    )

  pub allowed-alike : (ignored : List Ignored) (room : ℕ) (kq lq : Kqueue) (own : List Kevent) → IsSound kq → IsSound lq
      → AreAlike views kq.knotes lq.knotes → IsAllowed ignored views room kq own → IsAllowed ignored views room lq own
  allowed-alike ignored room kq lq own sound other alike allowed =
      let right = allowed-right ignored views room kq own sound allowed in
      right-allowed ignored views room lq own other (record {
        right = record { each = right-each ignored kq.knotes lq.knotes alike own right.right.each; once = right.right.once };
        within = right.within;
        complete = λ less key e p.
            right.complete less key e (pending-alike lq.knotes kq.knotes key e (alike-back views kq.knotes lq.knotes alike) p);
      })
